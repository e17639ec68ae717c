-- Document 01's "well formed", in its words: what it says of a tree, a sentence a definition.
-- Definitions here; what is proved of them is in proofs/Formed.antt.
use Prim.Native.Nat.{ℕ, zero, suc, ◌%◌, ◌<◌, ◌≤◌}
use Rattle.std.specs.Prelude.{◌≡◌, true, false}
use mathlib.Core.List.{List, [], ◌∷◌}
use Rattle.std.proofs.Math.ListN.{length}
use Rattle.lists.specs.Alls.{All}
use Rattle.rules.specs.Trees.{Tree, size, others, entries}
use Rattle.rules.specs.Shape.{CountFits}

-- of every node of a tree
abbrev pub EveryNode : ((h : ℕ) → Tree h → Type 0) → (h : ℕ) → Tree h → Type 0
EveryNode P zero t = P zero t
EveryNode P (suc h) t = P (suc h) t × All (EveryNode P h) t.1

-- the entries strictly rise from a
abbrev pub Rising : ℕ → List ℕ → Type 0
Rising a [] = Unit {0}
Rising a (e ∷ es) = (a < e) × Rising e es

-- "in a RelaxedBranch the size entries strictly rise over its count"
abbrev pub SizesRise : (h : ℕ) → Tree h → Type 0
SizesRise zero t = Unit {0}
SizesRise (suc h) t = t.0 ≡ true → Rising 0 (entries h 0 t.1)

-- "a root above shift 0 has at least 2 children"
abbrev pub RootFits : (h : ℕ) → Tree h → Type 0
RootFits zero t = Unit {0}
RootFits (suc h) t = 2 ≤ length t.1

module _ (S : ℕ) where
  -- full to the bottom, of whatever kind
  abbrev pub FullDown : (h : ℕ) → Tree h → Type 0
  FullDown zero t = length t ≡ S
  FullDown (suc h) t = (length t.1 ≡ S) × All (FullDown h) t.1

  -- "in a Branch every child but the last is full to the bottom, and its size is a multiple of 32"
  abbrev pub BranchFits : (h : ℕ) → Tree h → Type 0
  BranchFits zero t = Unit {0}
  BranchFits (suc h) t = t.0 ≡ false → All (FullDown h) (others h t) × (size (suc h) t % S ≡ 0)

  -- A well formed tree. (That kinds fit levels and all leaves are at shift 0 is in the type of trees.)
  pub record TreeFormed (h : ℕ) (t : Tree h) : Type 0 where
    pub counts : EveryNode (CountFits S) h t
    pub root : RootFits h t
    pub branches : EveryNode BranchFits h t
    pub sizes : EveryNode SizesRise h t
