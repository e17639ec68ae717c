-- Leaf push, on the words of a pool: what it answers, and the words after.
use Rattle.std.specs.Prelude.{◌≡◌, ℕ, zero, suc, ◌+◌, ◌-◌, ◌/◌, ◌<◌, List, length, nat_lt, refl}
use Rattle.std.proofs.Common.{add-one, arith}
use Rattle.blocks.specs.Words.{pick, count_of, last_of, slot_of}
use Rattle.blocks.specs.Chain.{Got, alloc_of}
use Rattle.blocks.specs.declared.State.{State}
use Rattle.node.specs.Leaves.{leaf_of}
use Rattle.node.specs.Branches.{link_of, more_kid, over_of, pair_of}
use Rattle.rrbtree.specs.declared.Tree.{Tree}
use Rattle.rrbtree.specs.declared.rooms.Room.{Room}
use Rattle.rrbtree.specs.declared.rooms.Room.TheVariants as room

-- a new dense branch over the block that was taken last
abbrev pub over_last : Got × List ℕ → Got × List ℕ
over_last p = (alloc_of p.1 p.0.state, over_of p.1 p.0.state.free p.0.block)

unfoldable pub risen_of : ℕ → Got × List ℕ → Got × List ℕ
risen_of zero p = p
risen_of (suc h) p = over_last (risen_of h p)

-- "the path down to the leaf is new dense branches": a new leaf under h of them
unfoldable pub path_of : ℕ → List ℕ → State → List ℕ → Got × List ℕ
path_of h ws st xs = risen_of h (alloc_of ws st, leaf_of ws st.free xs)

-- a new path as the last child of branch b
unfoldable pub add_path : ℕ → List ℕ → State → ℕ → List ℕ → State × List ℕ
add_path h ws st b xs =
    let p = path_of h ws st xs in
    let n = count_of ws b in
    (p.0.state, pick (nat_lt n 32) (link_of p.1 b n p.0.block (length xs)) p.1)

-- "Every relaxed node on the path adds the leaf's length to its entry": the block so many last children down
unfoldable pub go_last : ℕ → List ℕ → ℕ → ℕ → ℕ × List ℕ
go_last zero ws b len = (b, ws)
go_last (suc d) ws b len = go_last d (more_kid ws b (last_of ws b) len) (slot_of ws b (last_of ws b)) len

-- a root, the state and the words after a path was added
abbrev rooted : ℕ → State × List ℕ → Got × List ℕ
rooted root a = (record { block = root; state = a.0 }, a.1)

unfoldable pub push_at : List ℕ → State → Tree → ℕ → List ℕ → Got × List ℕ
push_at ws st t level xs =
    let g = go_last (t.shift.0 / 5 - level) ws t.root (length xs) in
    rooted t.root (add_path (level - 1) g.1 st g.0 xs)

-- "No room: a new root one level up holds the old one; if the old one is relaxed, so is the new one"
unfoldable pub push_above : List ℕ → State → Tree → List ℕ → Got × List ℕ
push_above ws st t xs =
    let g = alloc_of ws st in
    rooted g.block (add_path (t.shift.0 / 5) (pair_of ws st.free t.root t.len) g.state g.block xs)

-- "Leaf push, no root: the leaf is the root. Otherwise look for room down the last children."
unfoldable pub push_of : List ℕ → State → Tree → List ℕ → Room → Got × List ℕ
push_of ws st t xs room.Root = (alloc_of ws st, leaf_of ws st.free xs)
push_of ws st t xs (room.At level) = push_at ws st t level xs
push_of ws st t xs room.Above = push_above ws st t xs

unfoldable pub shift_after : ℕ → Room → ℕ
shift_after shift room.Root = 0
shift_after shift (room.At level) = shift
shift_after shift room.Above = shift + 5

-- The laws by which the loops go on.
pub risen_more : (h : ℕ) (p : Got × List ℕ) → risen_of (h + 1) p ≡ over_last (risen_of h p)
unfolding risen_of
risen_more h p = rw add-one (risen_suc h p)
  where
    risen_suc : (k : ℕ) (q : Got × List ℕ) → risen_of (suc k) q ≡ over_last (risen_of k q)
    risen_suc k q = refl

pub last_more : (d : ℕ) (ws : List ℕ) (b len : ℕ) → 0 < d
    → go_last d ws b len ≡ go_last (d - 1) (more_kid ws b (last_of ws b) len) (slot_of ws b (last_of ws b)) len
unfolding go_last
last_more zero ws b len h = absurd (omega arith)
last_more (suc d) ws b len h = let e : suc d - 1 ≡ d = omega arith in rw e
