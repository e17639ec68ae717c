-- The slot count as a power of 2: places by shifts are the rules' places, as document 01 writes them.
use Rattle.std.specs.Prelude.{ℕ, zero, suc, ◌*◌, ◌/◌, ◌%◌, ◌^◌, ◌≤◌, ◌≡◌, false}
use Rattle.std.proofs.Common.{sym, ◌∙◌, ap, arith, pow-suc, mul-suc, mul-zero, pow-add, pow_pos}
use Rattle.std.proofs.Math.Nat.{pow-zero}
use Rattle.rules.specs.Trees.{Tree}
use Rattle.rules.specs.Rules.{down}
use Rattle.rules.proofs.Walks.{down_dense}
use Rattle.rules.specs.Shifts.{shift_of}

-- 2^b slots to the power k are 2 to the shift
pub slots_pow : (b k : ℕ) → (2 ^ b) ^ k ≡ 2 ^ shift_of b k
unfolding shift_of
slots_pow b zero = pow-zero (2 ^ b) ∙ sym (ap (λ (n : ℕ). 2 ^ n) (mul-zero b) ∙ pow-zero 2)
slots_pow b (suc k) = pow-suc (2 ^ b) k ∙ rw (slots_pow b k) (sym (ap (λ (n : ℕ). 2 ^ n) (mul-suc b k) ∙ pow-add 2 (b * k) b))

pub enough : (b : ℕ) → 1 ≤ b → 2 ≤ 2 ^ b
enough zero h = absurd (omega arith)
enough (suc b) h = let e = pow-suc 2 b in let p = pow_pos b in omega arith

-- "In a Branch the child slot is place div 2^shift, mod 32", with the shift of the node at height h + 1
pub branch_slot : (b h : ℕ) → 1 ≤ b → (t : Tree (suc h)) (p : ℕ) → t.0 ≡ false → down (2 ^ b) h t p ≡ (p / 2 ^ shift_of b (suc h) % 2 ^ b, p)
branch_slot b h l t p e = rw (← slots_pow b (suc h)) (down_dense (2 ^ b) (enough b l) h t p e)
