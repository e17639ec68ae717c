-- Nodes of one level packed, and slots put in at a place: what an append in place does at each level.
-- Definitions here; what is proved of them is in proofs/Insert.antt.
use Prim.Native.Nat.{ℕ, suc, ◌-◌, ◌*◌, ◌/◌, ◌%◌}
use Rattle.std.specs.Prelude.{◌&&◌, length, take, drop}
use mathlib.Core.List.{List, [], ◌∷◌, ◌++◌}
use Rattle.std.proofs.Math.Bool.{cond}
use Rattle.std.proofs.Math.Dec.{eqb}
use Rattle.lists.specs.Sums.{concat_map}
use Rattle.rules.specs.Trees.{Tree, Slot, slots}
use Rattle.rules.specs.Rules.{is_full, pour, repack}

module _ (S : ℕ) where
  -- how many nodes at the start are full
  unfoldable pub leading : (h : ℕ) → List (Tree h) → ℕ
  leading h [] = 0
  leading h (t ∷ ts) = cond (is_full S h t) (suc (leading h ts)) 0

  -- The slots C put in at slot p of a row, of whose nodes k stay whole before it. If the place falls between two nodes and C
  -- fills nodes exactly, the nodes after it are only packed; otherwise all slots from there on are poured.
  unfoldable pub insert_by : (h : ℕ) → List (Tree h) → ℕ → List (Slot h) → ℕ → List (Tree h)
  insert_by h row p C k =
      let xs = concat_map (slots h) (drop k row) in
      take k row ++ cond (eqb (k * S) p && eqb (length C % S) 0) (pour S h C ++ repack S h (drop k row)) (pour S h (take (p - k * S) xs ++ (C ++ drop (p - k * S) xs)))

  -- The full nodes before the place stay whole.
  unfoldable pub insert_at : (h : ℕ) → List (Tree h) → ℕ → List (Slot h) → List (Tree h)
  insert_at h row p C = insert_by h row p C (leading h (take (p / S) row))

  -- A row packed by itself.
  unfoldable pub squeeze : (h : ℕ) → List (Tree h) → List (Tree h)
  squeeze h row = insert_at h row 0 []
