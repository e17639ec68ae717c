-- What a tree and a vector are, and what is read off them: elements, sizes, nodes. Sizes are worked out here, not stored.
use Rattle.std.specs.Prelude.{ℕ, zero, suc, ◌+◌, List, [], ◌∷◌, ◌++◌, Bool, false, length}
use Rattle.std.proofs.Math.Option.{Option, none, some}
use Rattle.lists.specs.Ends.{init, last_or, first_or, rest}
use Rattle.lists.specs.Sums.{concat_map, sum}

-- A tree of height 0 is a leaf: its elements. A higher one is a node: is it a RelaxedBranch (true) or a Branch (false), and
-- its children, one level lower. So kinds fit levels and all leaves are at height 0, by the type.
abbrev pub Tree : ℕ → Type 0
Tree zero = List ℕ
Tree (suc h) = Bool × List (Tree h)

-- What stands in a slot: an element of a leaf, or a child of a node.
abbrev pub Slot : ℕ → Type 0
Slot zero = ℕ
Slot (suc h) = Tree h

abbrev pub slots : (h : ℕ) → Tree h → List (Slot h)
slots zero t = t
slots (suc h) t = t.1

-- a node's count: how many slots are in use
unfoldable pub count : (h : ℕ) → Tree h → ℕ
count h t = length (slots h t)

abbrev pub relaxed : (h : ℕ) → Tree h → Bool
relaxed zero t = false
relaxed (suc h) t = t.0

-- stands for a child that is not there
abbrev pub nothing : (h : ℕ) → Tree h
nothing zero = []
nothing (suc h) = (false, [])

-- a node's last child and its other children; its first child and the later ones
abbrev pub last_kid : (h : ℕ) → Tree (suc h) → Tree h
last_kid h t = last_or (nothing h) t.1

abbrev pub others : (h : ℕ) → Tree (suc h) → List (Tree h)
others h t = init t.1

abbrev pub first_kid : (h : ℕ) → Tree (suc h) → Tree h
first_kid h t = first_or (nothing h) t.1

abbrev pub later_kids : (h : ℕ) → Tree (suc h) → List (Tree h)
later_kids h t = rest t.1

-- the elements in order, how many they are, and the nodes ("Each tree node takes one block")
unfoldable pub to_list : (h : ℕ) → Tree h → List ℕ
to_list zero t = t
to_list (suc h) t = concat_map (to_list h) t.1

unfoldable pub size : (h : ℕ) → Tree h → ℕ
size zero t = length t
size (suc h) t = sum (size h) t.1

unfoldable pub nodes : (h : ℕ) → Tree h → ℕ
nodes zero t = 1
nodes (suc h) t = suc (sum (nodes h) t.1)

-- A size table over children, a elements before them: "its sizes are running element counts".
unfoldable pub entries : (h : ℕ) → ℕ → List (Tree h) → List ℕ
entries h a [] = []
entries h a (t ∷ ts) = (a + size h t) ∷ entries h (a + size h t) ts

-- A tree with its height: levels above the leaves, the shift divided by the step.
abbrev pub Root : Type 0
Root = (h : ℕ) × Tree h

-- A vector is a tree, perhaps none, and a tail.
pub record Vector : Type 0 where
  pub tree : Option Root
  pub tail : List ℕ

abbrev pub new : Vector
new = record { tree = none; tail = [] }

abbrev pub tree_list : Option Root → List ℕ
tree_list none = []
tree_list (some r) = to_list r.0 r.1

abbrev pub tree_nodes : Option Root → ℕ
tree_nodes none = 0
tree_nodes (some r) = nodes r.0 r.1

-- The plain list that a vector is.
unfoldable pub elements : Vector → List ℕ
elements v = tree_list v.tree ++ v.tail

-- "Held means the nodes of the tree"; "the tail takes none".
unfoldable pub held : Vector → ℕ
held v = tree_nodes v.tree
