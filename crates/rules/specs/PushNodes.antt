-- The nodes that a leaf push adds: as many as the room found is high.
-- Definitions here; what is proved of them is in proofs/PushNodes.antt.
use Rattle.std.specs.Prelude.{ℕ, ◌+◌}
use Rattle.std.proofs.Math.Option.{Option, none, some}
use Rattle.rules.specs.Trees.{Root}
use Rattle.rules.specs.Rules.{room}

module _ (S : ℕ) where
  -- The nodes that a leaf push adds.
  abbrev pub added_by : Root → Option ℕ → ℕ
  added_by r (some k) = k
  added_by r none = r.0 + 2

  unfoldable pub added : Option Root → ℕ
  added none = 1
  added (some r) = added_by r (room S r.0 r.1)
