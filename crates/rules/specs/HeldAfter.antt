-- The nodes on the way to where the receiver's leaf is, or its tail is to hang: what held after an append is worked out with.
-- Definitions here; what is proved of them is in proofs/HeldAfter.antt.
use Prim.Native.Nat.{ℕ, suc, ◌-◌}
use Rattle.std.specs.Prelude.{List, [], ◌∷◌}
use Rattle.std.proofs.Math.Option.{Option, none, some}
use Rattle.rules.specs.Trees.{Root}
use Rattle.rules.specs.Rules.{room}

-- The receiver's nodes on the way down to where its leaf is, or where its tail is to hang.
abbrev pub way_to : Root → Option ℕ → ℕ
way_to r (some k) = suc r.0 - k
way_to r none = 0

unfoldable pub on_way : (S : ℕ) → Option Root → List ℕ → ℕ
on_way S none tail = 0
on_way S (some r) [] = suc r.0
on_way S (some r) (x ∷ xs) = way_to r (room S r.0 r.1)
