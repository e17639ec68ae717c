-- Packing and putting in by computation, on small rows of 4 slots.
use Rattle.std.specs.Prelude.{ℕ, zero, ◌≡◌, refl, [], ◌∷◌, true, false, replicate}
use Rattle.lists.specs.Cuts.{cut}
use Rattle.rules.specs.Trees.{Tree, count}
use Rattle.rules.specs.Rules.{is_full, loose, pour, repack}
use Rattle.order.specs.Insert.{leading, insert_by, insert_at, squeeze}

-- a leaf of n elements, full nodes of both kinds
abbrev L : ℕ → Tree zero
L n = replicate n 7

abbrev B4 : Tree 1
B4 = (false, L 4 ∷ L 4 ∷ L 4 ∷ L 4 ∷ [])

abbrev R4 : Tree 1
R4 = (true, L 4 ∷ L 4 ∷ L 4 ∷ L 4 ∷ [])

-- Put in between two nodes, and filling nodes exactly: the node after it keeps its kind. Otherwise it is built anew.
kinds : (insert_at 4 1 (B4 ∷ R4 ∷ []) 4 (L 4 ∷ L 4 ∷ L 4 ∷ L 3 ∷ []) ≡ B4 ∷ (true, L 4 ∷ L 4 ∷ L 4 ∷ L 3 ∷ []) ∷ R4 ∷ [])
    × (insert_at 4 1 (B4 ∷ R4 ∷ []) 4 (L 4 ∷ []) ≡ B4 ∷ B4 ∷ (false, L 4 ∷ []) ∷ [])
    × (insert_at 4 1 (R4 ∷ B4 ∷ []) 2 (L 4 ∷ L 4 ∷ L 4 ∷ L 3 ∷ []) ≡ B4 ∷ (true, L 4 ∷ L 3 ∷ L 4 ∷ L 4 ∷ []) ∷ B4 ∷ [])
unfolding insert_at insert_by leading is_full count loose pour repack cut
kinds = (refl, refl, refl)

-- Of leaves: their elements in order.
leaves_filled : insert_at 4 0 ((1 ∷ 2 ∷ 3 ∷ 4 ∷ []) ∷ (5 ∷ 6 ∷ []) ∷ []) 5 (7 ∷ 8 ∷ 9 ∷ []) ≡ (1 ∷ 2 ∷ 3 ∷ 4 ∷ []) ∷ (5 ∷ 7 ∷ 8 ∷ 9 ∷ []) ∷ (6 ∷ []) ∷ []
unfolding insert_at insert_by leading is_full count loose pour repack cut
leaves_filled = refl

-- Packed by itself.
squeezed : squeeze 4 0 (L 4 ∷ L 1 ∷ L 2 ∷ L 4 ∷ []) ≡ L 4 ∷ L 4 ∷ L 3 ∷ []
unfolding squeeze insert_at insert_by leading is_full count loose pour repack cut
squeezed = refl
