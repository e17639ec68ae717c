-- Document 01's "well formed" of a state, a sentence a field.
use Rattle.std.specs.Prelude.{ℕ, ◌+◌, ◌<◌, ◌≤◌, ◌≡◌, List, length}
use Rattle.std.proofs.Math.Option.{Option, some}
use Rattle.rules.specs.Trees.{Root, Vector, tree_nodes}
use Rattle.rules.specs.Shape.{CountFits}
use Rattle.rules.specs.Formed.{EveryNode, RootFits, BranchFits, SizesRise}
use Rattle.machine.specs.Machine.{Rules, Head, State, promised, all_held, free}
use Rattle.machine.specs.Numbers.{OpenAt}

-- P and the table of vectors, each with its tree and its tail
abbrev pub Pool : Type 0
Pool = State Vector

-- an open vector's tree and tail
abbrev pub tree_of : Head Vector → Option Root
tree_of a = a.contents.tree

abbrev pub tail_of : Head Vector → List ℕ
tail_of a = a.contents.tail

-- R is the tree rules of S slots.
pub record WellFormed (S : ℕ) (R : Rules Vector) (s : Pool) : Type 0 where
  -- "every block is in exactly one tree or in the free chain"
  pub blocks_used : free R s + all_held R s ≡ s.blocks
  -- "kinds fit levels and all leaves are at shift 0": by the type of trees
  -- "counts are 1 to 32"
  pub counts : (v : ℕ) (a : Head Vector) → OpenAt s v a → (r : Root) → tree_of a ≡ some r → EveryNode (CountFits S) r.0 r.1
  -- "a root above shift 0 has at least 2 children"
  pub roots : (v : ℕ) (a : Head Vector) → OpenAt s v a → (r : Root) → tree_of a ≡ some r → RootFits r.0 r.1
  -- "in a Branch every child but the last is full to the bottom, and its size is a multiple of 32"
  pub branches : (v : ℕ) (a : Head Vector) → OpenAt s v a → (r : Root) → tree_of a ≡ some r → EveryNode (BranchFits S) r.0 r.1
  -- "in a RelaxedBranch the size entries strictly rise over its count"
  pub sizes : (v : ℕ) (a : Head Vector) → OpenAt s v a → (r : Root) → tree_of a ≡ some r → EveryNode SizesRise r.0 r.1
  -- "tree lengths and tail lengths (0 to 31) agree with what is stored": both are read off what is stored here
  pub tails : (v : ℕ) (a : Head Vector) → OpenAt s v a → length (tail_of a) < S
  -- "limits and the promised total hold"
  pub limits : (v : ℕ) (a : Head Vector) → OpenAt s v a → (tree_nodes (tree_of a) ≤ a.limit) × (a.reserve ≤ a.limit) × (a.limit ≤ s.blocks)
  pub promise : promised R s ≤ s.blocks
