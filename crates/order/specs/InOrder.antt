-- A merge in two passes: down, each level's nodes beside the two ways are packed; up, the slots from below are put in, until one
-- node is left at or above both trees.
-- Definitions here; what is proved of them is in proofs/InOrder.antt.
use Prim.Native.Nat.{ℕ, zero, suc}
use mathlib.Core.List.{List, [], ◌∷◌, ◌++◌}
use Rattle.lists.specs.Ends.{first_or}
use Rattle.lists.specs.Sums.{sum}
use Rattle.rules.specs.Trees.{Tree, Slot, nothing, count, Root}
use Rattle.rules.specs.Sides.{Sides}
use Rattle.order.specs.Insert.{insert_at, squeeze}

-- For each height below m a row of nodes, and the slot place at which what comes from below is put in.
abbrev pub Packed : ℕ → Type 0
Packed zero = Unit {0}
Packed (suc m) = Packed m × List (Tree m) × ℕ

module _ (S : ℕ) where
  -- Down: both trees' nodes of a level are packed jointly; the place is after the slots of the left ones.
  unfoldable pub pack : (m : ℕ) → Sides m → Packed m
  pack zero s = tt
  pack (suc m) s = (pack m s.0, squeeze S m (s.1 ++ s.2), sum (count m) s.1)

  -- Up: the slots that go up to height m. First elements, then nodes.
  unfoldable pub climb : (m : ℕ) → Packed m → List ℕ → List (Slot m)
  climb zero q xs = xs
  climb (suc m) q xs = insert_at S m q.1 q.2 (climb m q.0 xs)

  -- Above both trees the rows are empty: one node is left at once, or one level higher.
  unfoldable pub crown : (m : ℕ) → List (Tree m) → Root
  crown m [] = (suc m, nothing (suc m))
  crown m (t ∷ []) = (m, t)
  crown m (t ∷ u ∷ ts) = (suc m, first_or (nothing (suc m)) (insert_at S (suc m) [] 0 (t ∷ u ∷ ts)))

  unfoldable pub merge_in_order : (m : ℕ) → Sides m → List ℕ → Root
  merge_in_order m s xs = crown m (insert_at S m [] 0 (climb m (pack m s) xs))
