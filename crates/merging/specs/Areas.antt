-- The lent work area. Row j, of the nodes of height j, has its length at 64 j, its place at 64 j + 1 and its nodes from
-- 64 j + 2 on; the nodes from below begin at 3,200 and the flat slots at 3,264.
use Rattle.std.specs.Prelude.{◌≡◌, ℕ, suc, ◌+◌, ◌*◌, ◌<◌, min, List, [], ◌∷◌, ◌++◌, length, drop, replicate, nat_lt, slice_index, slice_set}
use Rattle.std.proofs.Common.{append_assoc, add-one, drop-cons}
use Rattle.std.proofs.lemmas.List.{length-replicate, replicate-append-replicate, set_at}
use Rattle.blocks.specs.Words.{pick}
use Rattle.merging.specs.declared.areas.Entry.{Entry}
use Rattle.merging.specs.declared.areas.Entry.TheVariants as entry

abbrev pub row_len : List ℕ → ℕ → ℕ
row_len w j = min (slice_index w (j * 64)) 62

unfoldable pub set_row_len : List ℕ → ℕ → ℕ → List ℕ
set_row_len w j n = slice_set w (j * 64) n

abbrev pub row_place : List ℕ → ℕ → ℕ
row_place w j = min (slice_index w (j * 64 + 1)) 2048

unfoldable pub set_row_place : List ℕ → ℕ → ℕ → List ℕ
set_row_place w j p = slice_set w (j * 64 + 1) p

unfoldable pub item_of : List ℕ → ℕ → ℕ → ℕ
item_of w j i = slice_index w (j * 64 + 2 + i)

unfoldable pub add_item : List ℕ → ℕ → ℕ → List ℕ
add_item w j b =
    let n = row_len w j in
    pick (nat_lt n 62) (set_row_len (slice_set w (j * 64 + 2 + n) b) j (n + 1)) w

-- node or element i of those from below, and flat slot t
abbrev pub node_at : ℕ → ℕ
node_at i = 3200 + i

abbrev pub flat_at : ℕ → ℕ
flat_at t = 3264 + t

-- the place of a word in the area
abbrev pub entry_at : Entry → ℕ
entry_at (entry.Len j) = j.at * 64
entry_at (entry.Place j) = j.at * 64 + 1
entry_at (entry.Node j i) = j.at * 64 + 2 + i.at
entry_at (entry.Raised t) = node_at t.at
entry_at (entry.Flat t) = flat_at t.at

-- zeros before the rest of a list, with one more
pub cleared_more : (w : List ℕ) (i : ℕ) → i < length w → slice_set (replicate i 0 ++ drop i w) i 0 ≡ replicate (i + 1) 0 ++ drop (i + 1) w
cleared_more w i h =
    let z : List ℕ = replicate i 0 in
    rw (← (replicate-append-replicate {A = ℕ} i 1 0), add-one, drop-cons w i 0 h, append_assoc z (0 ∷ []) (drop (suc i) w))
    (set_at z (slice_index w i) (drop (suc i) w) 0 i (length-replicate i 0))
