-- The calls that the reserve clause speaks of.
-- Definitions here; what is proved of them is in proofs/Reserve.antt.
use Rattle.std.specs.Prelude.{ℕ, ◌≤◌, Bool}
use Rattle.machine.specs.Machine.{Rules, Head, State, Call, Push, Append}
use Rattle.machine.specs.Machine.{held_of, pushed, joined}
use Rattle.machine.specs.Numbers.{OpenAt}

module _ {T : Type 0} (R : Rules T) where
  -- "A push or append that, carried out, would leave the receiver within its reserve"
  pub data Within (s : State T) : Call → Type 0 where
    push_within : {v x : ℕ} {a : Head T} → OpenAt s v a → held_of R (pushed R a x) ≤ a.reserve → Within s (Push v x)
    append_within : {area : Bool} {r g : ℕ} {a b : Head T} → OpenAt s r a → OpenAt s g b → held_of R (joined R a b) ≤ a.reserve → Within s (Append area r g)
