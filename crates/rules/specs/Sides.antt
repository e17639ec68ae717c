-- What a merge sees of two trees: the leaf at which each meets the other and, level by level, the children beside the way
-- down to it. A leaf that is to be pushed first need not be in the tree yet: the room found says what it will stand beside.
-- Definitions here; what is proved of them is in proofs/Sides.antt.
use Rattle.std.specs.Prelude.{ℕ, zero, suc, ◌+◌, List, [], ◌∷◌, ◌++◌, cond, eqb}
use Rattle.std.proofs.Math.Option.{Option, none, some}
use Rattle.lists.specs.Sums.{sum}
use Rattle.rules.specs.Trees.{Tree, last_kid, others, first_kid, later_kids, Root}
use Rattle.rules.specs.Rules.{room, lower, last_leaf, Meet, leaves, level, left_taller, right_taller, meet, build, pour, ascend}

-- One tree's part: a row of nodes at every height below h.
abbrev pub Side : ℕ → Type 0
Side zero = Unit {0}
Side (suc h) = Side h × List (Tree h)

abbrev pub no_side : (h : ℕ) → Side h
no_side zero = tt
no_side (suc h) = (no_side h, [])

-- The left tree's: the other children along the last ones. At the height stop, if it is not 0, a path of one leaf is to hang:
-- all children there are beside it, and below it stands nothing.
unfoldable pub left_side : (h stop : ℕ) → Tree h → Side h
left_side zero stop t = tt
left_side (suc h) stop t = cond (eqb stop (suc h)) (no_side h, t.1) (left_side h stop (last_kid h t), others h t)

-- The right tree's: the later children along the first ones; and its first leaf.
unfoldable pub right_side : (h : ℕ) → Tree h → Side h
right_side zero t = tt
right_side (suc h) t = (right_side h (first_kid h t), later_kids h t)

unfoldable pub first_leaf : (h : ℕ) → Tree h → List ℕ
first_leaf zero t = t
first_leaf (suc h) t = first_leaf h (first_kid h t)

-- Both trees' parts: at every height below m a row on the left and one on the right.
abbrev pub Sides : ℕ → Type 0
Sides zero = Unit {0}
Sides (suc m) = Sides m × List (Tree m) × List (Tree m)

unfoldable pub both : {h k m : ℕ} → Meet h k m → Side h → Side k → Sides m
both leaves a b = tt
both (level p) a b = (both p a.0 b.0, a.1, b.1)
both (left_taller p) a b = (both p a.0 b, a.1, [])
both (right_taller p) a b = (both p a b.0, [], b.1)

-- A merge from the two parts and the elements of the two leaves.
unfoldable pub merge_sides : (S m : ℕ) → Sides m → List ℕ → List (Tree m)
merge_sides S zero s xs = pour S zero xs
merge_sides S (suc m) s xs = ascend S m s.1 (merge_sides S m s.0 xs) s.2

unfoldable pub join_sides : (S m : ℕ) → Sides m → List ℕ → Root
join_sides S m s xs = lower (suc m) (build S m (merge_sides S m s xs))

-- The left part of a tree with a leaf to be pushed, from the room found: hung at that height, or beside the old root.
abbrev pub hung : Root → Option ℕ → (h : ℕ) × Side h
hung r (some k) = (r.0, left_side r.0 k r.1)
hung r none = (suc r.0, (no_side r.0, r.1 ∷ []))

-- A left part with its height and the elements of its leaf.
abbrev pub Left : Type 0
Left = (h : ℕ) × Side h × List ℕ

abbrev pub left_of : Root → Left
left_of r = (r.0, left_side r.0 0 r.1, last_leaf r.0 r.1)

-- Of a receiver: its tree and its tail, which is pushed if it is not empty. No word of the tree need change for that.
unfoldable pub receiver : (S : ℕ) → Option Root → List ℕ → Left
receiver S none tail = (0, tt, tail)
receiver S (some r) [] = left_of r
receiver S (some r) (x ∷ xs) = let d = hung r (room S r.0 r.1) in (d.0, d.1, x ∷ xs)

-- What an append of two trees is done from.
pub record Meeting : Type 0 where
  pub height : ℕ
  pub sides : Sides height
  -- the elements of the two leaves that meet
  pub middle : List ℕ

-- a left part met with a right tree
unfoldable pub met : Left → Root → Meeting
met a r =
    let p = meet a.0 r.0 in
    record { height = p.0; sides = both p.1 a.1 (right_side r.0 r.1); middle = a.2 ++ first_leaf r.0 r.1 }

unfoldable pub meeting : (S : ℕ) → Option Root → List ℕ → Root → Meeting
meeting S o tail r = met (receiver S o tail) r

-- Sums over the rows: their nodes, or what is in them.
unfoldable pub side_sum : ((h : ℕ) → Tree h → ℕ) → (h : ℕ) → Side h → ℕ
side_sum f zero s = 0
side_sum f (suc h) s = side_sum f h s.0 + sum (f h) s.1

unfoldable pub sides_sum : ((h : ℕ) → Tree h → ℕ) → (m : ℕ) → Sides m → ℕ
sides_sum f zero s = 0
sides_sum f (suc m) s = sides_sum f m s.0 + (sum (f m) s.1 + sum (f m) s.2)
