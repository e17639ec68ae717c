-- Something for each vector number, with one of them replaced.
-- Definitions here; what is proved of them is in proofs/Updates.antt.
use Rattle.std.specs.Prelude.{ℕ, cond, eqb}

unfoldable pub update : {A : Type 0} → (ℕ → A) → ℕ → A → ℕ → A
update f v x w = cond (eqb w v) x (f w)
