-- How many nodes a merge makes, from counts alone: level by level the slots that are there, divided by S and rounded up, are
-- the nodes of that level and so slots of the next.
-- Definitions here; what is proved of them is in proofs/MergeNodes.antt.
use Prim.Native.Nat.{ℕ, zero, suc, ◌+◌}
use Rattle.std.specs.Prelude.{cond, eqb}
use Rattle.lists.specs.Sums.{sum}
use Rattle.lists.specs.Cuts.{ceil}
use Rattle.rules.specs.Trees.{Tree, count}
use Rattle.rules.specs.Sides.{Sides}

-- one for each node
abbrev pub one : (h : ℕ) → Tree h → ℕ
one h t = 1

-- a root above the merged children, unless there is one
abbrev pub root_over : ℕ → ℕ
root_over n = cond (eqb n 1) 0 1

module _ (S : ℕ) where
  -- The slots that go up to height m: from n elements on.
  unfoldable pub rise : (m : ℕ) → Sides m → ℕ → ℕ
  rise zero s n = n
  rise (suc m) s n = ceil (sum (count m) s.1 + rise m s.0 n + sum (count m) s.2) S

  -- the nodes made below height m
  unfoldable pub made : (m : ℕ) → Sides m → ℕ → ℕ
  made zero s n = 0
  made (suc m) s n = made m s.0 n + rise (suc m) s n
