-- The branch builder, on the words of a pool.
use Rattle.std.specs.Prelude.{◌≡◌, ℕ, zero, suc, ◌+◌, ◌-◌, ◌*◌, ◌%◌, ◌^◌, ◌<◌, ◌≤◌, Bool, true, false, List, ◌==◌, ◌≢◌, nat_lt}
use Rattle.std.proofs.Math.Path.{refl}
use Rattle.std.proofs.Common.{sym, ◌∙◌, ap, mul_assoc, eq-eqb, ne_eqb, pow-add}
use Rattle.std.proofs.Math.Nat.{mul-mod_left}
use native.Mathlib.Omega.{arith}
use Rattle.std.proofs.Math.Numerals.{add-one}
use Rattle.levels.specs.Place.{plus}
use Rattle.blocks.specs.Words.{pick, put_of, kind_of, count_of, last_of, slot_of, size_of}

-- the elements below i full children of a dense branch at a level, as a word
unfoldable pub dense_part : ℕ → ℕ → ℕ
dense_part i shift = i * 2 ^ shift % 2 ^ 64

-- the elements below block b at a level, added to a sum; the fuel is at least the shift
unfoldable pub sub_trie : ℕ → List ℕ → ℕ → ℕ → ℕ → ℕ
sub_trie zero ws b shift sum = plus sum (count_of ws b)
sub_trie (suc k) ws b shift sum =
    pick (shift == 0) (plus sum (count_of ws b))
    (pick (kind_of ws b == 3) (plus sum (size_of ws b (last_of ws b)))
    (sub_trie k ws (slot_of ws b (last_of ws b)) (shift - 5) (plus sum (dense_part (last_of ws b) shift))))

-- "some child is relaxed or has count < 32"
unfoldable pub thin_of : List ℕ → ℕ → Bool
thin_of ws b = pick (kind_of ws b == 3) true (nat_lt (count_of ws b) 32)

-- one of the n children of b from child i on
unfoldable pub any_thin : List ℕ → ℕ → ℕ → ℕ → Bool
any_thin ws b zero i = false
any_thin ws b (suc n) i = pick (thin_of ws (slot_of ws b i)) true (any_thin ws b n (suc i))

-- "its sizes are running element counts": those of n children of b from child i on, after a sum
unfoldable pub sizes_of : List ℕ → ℕ → ℕ → ℕ → ℕ → ℕ → List ℕ
sizes_of ws b below zero i sum = ws
sizes_of ws b below (suc n) i sum =
    let total = plus sum (sub_trie below ws (slot_of ws b i) below 0) in
    sizes_of (put_of ws b (34 + i) total) b below n (suc i) total

-- block b, whose first n slots are set, as a node at a level
unfoldable pub built_of : List ℕ → ℕ → ℕ → ℕ → List ℕ
built_of ws b n shift =
    let vs = put_of ws b 1 n in
    pick (shift == 0) (put_of vs b 0 1)
    (pick (any_thin vs b n 0) (sizes_of (put_of vs b 0 3) b (shift - 5) n 0 0) (put_of vs b 0 2))

-- The laws by which the loops go on.
pub dense_past : (i shift : ℕ) → 64 ≤ shift → dense_part i shift ≡ 0
unfolding dense_part
dense_past i shift h =
    let e : shift ≡ shift - 64 + 64 = omega arith in
    let f : i * 2 ^ shift ≡ i * 2 ^ (shift - 64) * 2 ^ 64 = ap (λ (s : ℕ). i * 2 ^ s) e ∙ rw (pow-add 2 (shift - 64) 64) (sym (mul_assoc i _ _)) in
    rw f (mul-mod_left (i * 2 ^ (shift - 64)) (2 ^ 64))

module _ (ws : List ℕ) (b n i : ℕ) where
  pub any_end : n ≤ i → any_thin ws b (n - i) i ≡ false
  unfolding any_thin
  any_end h = let e : n - i ≡ 0 = omega arith in rw e

  pub any_at : i < n → any_thin ws b (n - i) i ≡ pick (thin_of ws (slot_of ws b i)) true (any_thin ws b (n - (i + 1)) (i + 1))
  unfolding any_thin
  any_at h = let e : n - i ≡ suc (n - (i + 1)) = omega arith in rw (e, add-one)

module _ (ws : List ℕ) (b below n i sum : ℕ) where
  pub sizes_end : n ≤ i → sizes_of ws b below (n - i) i sum ≡ ws
  unfolding sizes_of
  sizes_end h = let e : n - i ≡ 0 = omega arith in rw e

  pub sizes_at : i < n → (total : ℕ) → total ≡ plus sum (sub_trie below ws (slot_of ws b i) below 0)
      → sizes_of ws b below (n - i) i sum ≡ sizes_of (put_of ws b (34 + i) total) b below (n - (i + 1)) (i + 1) total
  unfolding sizes_of
  sizes_at h total t = let e : n - i ≡ suc (n - (i + 1)) = omega arith in rw (e, add-one, t)

module _ (ws : List ℕ) (b shift sum : ℕ) where
  pub sub_leaf : (k : ℕ) → shift ≡ 0 → sub_trie k ws b shift sum ≡ plus sum (count_of ws b)
  unfolding sub_trie
  sub_leaf zero e = refl
  sub_leaf (suc k) e = rw (eq-eqb _ _ e)

  pub sub_at : (k : ℕ) → (shift ≢ 0) → shift ≤ k
      → sub_trie k ws b shift sum ≡ pick (kind_of ws b == 3) (plus sum (size_of ws b (last_of ws b)))
      (sub_trie (k - 1) ws (slot_of ws b (last_of ws b)) (shift - 5) (plus sum (dense_part (last_of ws b) shift)))
  unfolding sub_trie
  sub_at zero n l = absurd (n (omega arith))
  sub_at (suc k) n l = let e : suc k - 1 ≡ k = omega arith in rw (ne_eqb _ _ n, e)
