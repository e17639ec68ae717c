-- Rows, and both sides of a merge, with few nodes at each level.
-- Definitions here; what is proved of them is in proofs/Bounds.antt.
use Prim.Native.Nat.{ℕ, zero, suc, ◌<◌, ◌≤◌}
use Rattle.std.specs.Prelude.{List}
use Rattle.std.proofs.Math.ListN.{length}
use Rattle.lists.specs.Alls.{All}
use Rattle.rules.specs.Trees.{Tree, count}
use Rattle.rules.specs.Sides.{Side, Sides}

module _ (S : ℕ) where
  -- A row of fewer than S nodes, each of at most S slots.
  abbrev pub Short : (h : ℕ) → List (Tree h) → Type 0
  Short h ts = (length ts < S) × All (λ t. count h t ≤ S) ts

  abbrev pub ShortSide : (h : ℕ) → Side h → Type 0
  ShortSide zero s = Unit {0}
  ShortSide (suc h) s = ShortSide h s.0 × Short h s.1

  abbrev pub ShortSides : (m : ℕ) → Sides m → Type 0
  ShortSides zero s = Unit {0}
  ShortSides (suc m) s = ShortSides m s.0 × Short m s.1 × Short m s.2
