-- `levels::Index::has_room`: a place shifted right by k is 0 where it is below 2^k; past the word every place is.
use Rattle.std.proofs.Common.{◌≡◌, ℕ, ◌+◌, ◌/◌, ◌<◌, ◌≤◌, ◌^◌, eqb, ltb, sym, ◌∙◌, arith, lt-ltb, le-ltb, eq-eqb, ne_eqb}
use native.Mathlib.Decide.{dec_lt}
use native.Mathlib.Nat.{div-eq_of_lt, div-eq-sub-div, lt_of_lt_of_le}
use lib.Pow.{pow_pos, pow_mono}
use Rattle.levels.proofs.Index.has_room.Goals as goal

shifted_out : (x k : ℕ) → eqb (x / 2 ^ k) 0 ≡ ltb x (2 ^ k)
shifted_out x k = go (dec_lt x (2 ^ k))
  where
    go : Dec (x < 2 ^ k) → eqb (x / 2 ^ k) 0 ≡ ltb x (2 ^ k)
    go (yes h) = eq-eqb _ _ (div-eq_of_lt h) ∙ sym (lt-ltb _ _ h)
    go (no h) =
        let le : 2 ^ k ≤ x = omega arith in
        let d = div-eq-sub-div (pow_pos k) le in
        ne_eqb (x / 2 ^ k) 0 (λ e. omega arith) ∙ sym (le-ltb _ _ le)

pub returns-then-shift-lt59 : goal.returns-then-shift-lt59
returns-then-shift-lt59 c = let a = c.args in shifted_out a.self.0 (a.shift.0 + 5)

pub returns : goal.returns
returns c =
    let a = c.args in
    let small : a.self.0 < 2 ^ 64 = omega arith in
    let big : 2 ^ 64 ≤ 2 ^ (a.shift.0 + 5) = pow_mono {i = 64} (omega arith) in
    sym (lt-ltb _ _ (lt_of_lt_of_le small big))
