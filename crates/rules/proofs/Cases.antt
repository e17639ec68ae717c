-- The rules by computation, on small trees of 4 slots.
use Rattle.std.specs.Prelude.{ℕ, zero, ◌≡◌, refl, List, [], ◌∷◌, Bool, true, false, replicate}
use Rattle.std.proofs.Math.Option.{Option, none, some}
use Rattle.lists.specs.Cuts.{cut}
use Rattle.rules.specs.Trees.{Tree, Root, Vector, count, size, entries}
use Rattle.rules.specs.Rules.{first_over, down, walk, store, chain, put, push_into, room, leaf_push, last_leaf, if_any, without, only_child, lower, leaf_pop, meet, is_full, loose, pour, repack, ascend, merge, join, refill, pop, popped, settle, push, flush, join_to, append, get}

-- a leaf of n elements, a Branch, a RelaxedBranch
abbrev L : ℕ → Tree zero
L n = replicate n 7

abbrev B : {A : Type 0} → List A → Bool × List A
B ts = (false, ts)

abbrev R : {A : Type 0} → List A → Bool × List A
R ts = (true, ts)

-- full Branches of heights 1 and 2: 16 and 64 elements
abbrev B4 : Tree 1
B4 = B (L 4 ∷ L 4 ∷ L 4 ∷ L 4 ∷ [])

abbrev B16 : Tree 2
B16 = B (B4 ∷ B4 ∷ B4 ∷ B4 ∷ [])

-- The walk: by division in a Branch, by the size entries in a RelaxedBranch.
walks : (walk 4 1 (B ((1 ∷ 2 ∷ 3 ∷ 4 ∷ []) ∷ (5 ∷ 6 ∷ 7 ∷ 8 ∷ []) ∷ [])) 6 ≡ (5 ∷ 6 ∷ 7 ∷ 8 ∷ [], 2))
    × (walk 4 1 (R ((1 ∷ 2 ∷ []) ∷ (3 ∷ 4 ∷ 5 ∷ []) ∷ [])) 3 ≡ (3 ∷ 4 ∷ 5 ∷ [], 1))
    × (down 4 1 (R (R (L 4 ∷ L 1 ∷ []) ∷ B4 ∷ [])) 12 ≡ (1, 7))
    × (store 4 1 (R ((1 ∷ 2 ∷ []) ∷ (3 ∷ 4 ∷ 5 ∷ []) ∷ [])) 3 9 ≡ R ((1 ∷ 2 ∷ []) ∷ (3 ∷ 9 ∷ 5 ∷ []) ∷ []))
unfolding walk down store first_over entries size
walks = (refl, refl, refl, refl)

-- Room: a Branch of count 4 whose last child is not full has it, one that is full has none; a RelaxedBranch takes a new sibling
-- if there is no room below it, and the deepest that can is used.
rooms : (room 4 2 (B (B4 ∷ B4 ∷ B4 ∷ B (L 4 ∷ []) ∷ [])) ≡ some 1) × (room 4 2 (B (B4 ∷ B4 ∷ [])) ≡ some 2) × (room 4 2 B16 ≡ none)
    × (room 4 3 (R (B16 ∷ R (B4 ∷ R (L 4 ∷ L 3 ∷ L 4 ∷ L 4 ∷ []) ∷ []) ∷ [])) ≡ some 2)
    × (room 4 3 (R (B16 ∷ R (B4 ∷ R (L 4 ∷ L 3 ∷ []) ∷ []) ∷ [])) ≡ some 1)
    × (room 4 1 (R (L 4 ∷ L 3 ∷ L 4 ∷ L 4 ∷ [])) ≡ none)
unfolding room count size
rooms = (refl, refl, refl, refl, refl, refl)

-- No room: a new root of the old one's kind, over new dense branches.
new_roots : (leaf_push 4 (some (1, B4)) (L 4) ≡ (2, B (B4 ∷ B (L 4 ∷ []) ∷ [])))
    × (leaf_push 4 (some (1, R (L 4 ∷ L 3 ∷ L 4 ∷ L 4 ∷ []))) (L 4) ≡ (2, R (R (L 4 ∷ L 3 ∷ L 4 ∷ L 4 ∷ []) ∷ B (L 4 ∷ []) ∷ [])))
    × (leaf_push 4 none (L 4) ≡ (0, L 4))
unfolding leaf_push push_into room chain put count size
new_roots = (refl, refl, refl)

-- Leaf pop: emptied branches go, and a root left with one child is replaced by it.
pops : (leaf_pop (2, B (B4 ∷ B (L 4 ∷ []) ∷ [])) ≡ some (1, B4)) × (leaf_pop (1, R (L 4 ∷ L 3 ∷ L 4 ∷ [])) ≡ some (1, R (L 4 ∷ L 3 ∷ []))) × (leaf_pop (0, L 4) ≡ none)
unfolding leaf_pop without if_any lower only_child
pops = (refl, refl, refl)

-- Repacking: full children stay whole while nothing is pending; from a short one on all are poured. A node over a
-- relaxed child is relaxed.
repacks : (repack 4 1 (B4 ∷ R (L 4 ∷ L 2 ∷ []) ∷ B4 ∷ []) ≡ B4 ∷ R (L 4 ∷ L 2 ∷ L 4 ∷ L 4 ∷ []) ∷ B (L 4 ∷ L 4 ∷ []) ∷ [])
    × (repack 4 0 (L 4 ∷ L 1 ∷ L 4 ∷ []) ≡ L 4 ∷ L 4 ∷ L 1 ∷ [])
    × (pour 4 2 (R (L 4 ∷ L 3 ∷ L 4 ∷ L 4 ∷ []) ∷ B4 ∷ []) ≡ R (R (L 4 ∷ L 3 ∷ L 4 ∷ L 4 ∷ []) ∷ B4 ∷ []) ∷ [])
unfolding repack is_full count pour cut loose
repacks = (refl, refl, refl)

-- Merge: two leaves make a full left one and the rest; a node over a child of count < 4 is relaxed; the height rises or not.
joins : (join 4 (0, 1 ∷ 2 ∷ []) (0, 3 ∷ 4 ∷ 5 ∷ 6 ∷ []) ≡ (1, R ((1 ∷ 2 ∷ 3 ∷ 4 ∷ []) ∷ (5 ∷ 6 ∷ []) ∷ [])))
    × (join 4 (0, L 4) (0, L 4) ≡ (1, B (L 4 ∷ L 4 ∷ [])))
    × (join 4 (1, B (L 4 ∷ L 4 ∷ [])) (1, B (L 4 ∷ L 4 ∷ [])) ≡ (1, B4))
    × (join 4 (0, L 1) (1, B4) ≡ (2, R (B4 ∷ R (L 1 ∷ []) ∷ [])))
    × (join 4 (2, B (B4 ∷ B (L 4 ∷ []) ∷ [])) (0, L 4) ≡ (2, R (B4 ∷ B (L 4 ∷ L 4 ∷ []) ∷ [])))
unfolding join meet merge ascend repack is_full count pour cut loose lower only_child
joins = (refl, refl, refl, refl, refl)

-- The vector: a tail of 4 becomes a leaf; an append pushes a short tail as a leaf, or joins the tails.
abbrev of : Option Root → List ℕ → Vector
of t tail = record { tree = t; tail = tail }

vectors : (push 4 (of none (1 ∷ 2 ∷ 3 ∷ [])) 4 ≡ of (some (0, 1 ∷ 2 ∷ 3 ∷ 4 ∷ [])) [])
    × (pop (of (some (0, 1 ∷ 2 ∷ 3 ∷ 4 ∷ [])) []) ≡ of none (1 ∷ 2 ∷ 3 ∷ [])) × (popped (of (some (0, 1 ∷ 2 ∷ 3 ∷ 4 ∷ [])) []) ≡ 4)
    × (append 4 (of none (1 ∷ [])) (of (some (0, 2 ∷ 3 ∷ 4 ∷ 5 ∷ [])) (6 ∷ [])) ≡ of (some (1, R ((1 ∷ 2 ∷ 3 ∷ 4 ∷ []) ∷ (5 ∷ []) ∷ []))) (6 ∷ []))
    × (append 4 (of none (1 ∷ 2 ∷ [])) (of none (3 ∷ 4 ∷ 5 ∷ [])) ≡ of (some (0, 1 ∷ 2 ∷ 3 ∷ 4 ∷ [])) (5 ∷ []))
    × (get 4 (of (some (0, 1 ∷ 2 ∷ 3 ∷ 4 ∷ [])) (5 ∷ [])) 4 ≡ 5)
unfolding push pop popped refill leaf_pop without last_leaf settle append flush join_to leaf_push join meet merge ascend repack is_full count pour cut loose lower only_child get walk size
vectors = (refl, refl, refl, refl, refl, refl)
