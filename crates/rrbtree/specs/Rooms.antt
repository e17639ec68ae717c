-- The search for room down the last children, on the words of a pool.
use Rattle.std.specs.Prelude.{◌≡◌, ℕ, zero, suc, ◌+◌, ◌-◌, ◌/◌, ◌<◌, ◌≤◌, List, Option, None, Some, ◌==◌, nat_lt}
use Rattle.std.proofs.Math.Path.{refl}
use Rattle.std.proofs.Math.Decide.{dec_lt}
use native.Mathlib.Omega.{arith}
use Rattle.std.proofs.Common.{ControlFlow, Continue, Break, lt-ltb, le-ltb, eq-eqb}
use Rattle.levels.specs.Place.{child_of, room_for}
use Rattle.blocks.specs.Words.{pick, kind_of, count_of, last_of, slot_of}
use Rattle.node.specs.Branches.{before_of}
use Rattle.rrbtree.specs.declared.Tree.{Tree}
use Rattle.rrbtree.specs.declared.rooms.Room.{Room}
use Rattle.rrbtree.specs.declared.rooms.Room.TheVariants as room
use Rattle.rrbtree.specs.declared.rooms.Search.{Search}

-- "the deepest such level is used if there is no room below it"
unfoldable pub sibling_of : Option ℕ → Room
sibling_of None = room.Above
sibling_of (Some level) = room.At level

-- a level above the leaves; there is none at them
abbrev pub level_at : ℕ → Option ℕ
level_at zero = None
level_at (suc h) = Some (suc h)

-- the level of the dense branch that gets a new child, where place is the length below block b; the fuel is at least the shift
unfoldable pub dense_room : ℕ → List ℕ → ℕ → ℕ → ℕ → ℕ
dense_room zero ws b shift place = shift / 5
dense_room (suc k) ws b shift place =
    pick (nat_lt (shift / 5) 2) (shift / 5)
    (pick (child_of place shift == count_of ws b) (shift / 5) (dense_room k ws (slot_of ws b (last_of ws b)) (shift - 5) place))

-- "A `RelaxedBranch` above shift 5 with count < 32 may take a new sibling"; the search goes on to its last child
unfoldable pub relaxed_room : List ℕ → ℕ → ℕ → ℕ → Option ℕ → Search
relaxed_room ws b shift place level =
    let i = last_of ws b in
    record {
      at = record { block = slot_of ws b i; shift = record { 0 = shift - 5 }; place = record { 0 = place - before_of ws b i } };
      level = pick (nat_lt i 31) (level_at (shift / 5)) level;
    }

-- "At a `Branch` above shift 5: room if its tree length (relative to it) is < 2^(shift+5). At shift 5: room if count < 32."
-- (A root at shift 0 is full.)
unfoldable pub look_of : List ℕ → ℕ → ℕ → ℕ → Option ℕ → ControlFlow Room Search
look_of ws b shift place level =
    pick (shift == 0) (Break (sibling_of level))
    (pick (shift == 5) (pick (nat_lt (count_of ws b) 32) (Break (room.At 1)) (Break (sibling_of level)))
    (pick (kind_of ws b == 3) (Continue (relaxed_room ws b shift place level))
    (pick (room_for place shift) (Break (room.At (dense_room shift ws b shift place))) (Break (sibling_of level)))))

abbrev follow : ControlFlow Room Search → (Search → Room) → Room
follow (Break r) k = r
follow (Continue s) k = k s

-- the search from block b down; the fuel is at least the shift
unfoldable pub search_of : ℕ → List ℕ → ℕ → ℕ → ℕ → Option ℕ → Room
search_of zero ws b shift place level = sibling_of level
search_of (suc k) ws b shift place level =
    follow (look_of ws b shift place level) (λ (s : Search). search_of k ws s.at.block (shift - 5) s.at.place.0 s.level)

unfoldable pub room_of : List ℕ → Tree → Room
room_of ws t = pick (t.len == 0) room.Root (search_of t.shift.0 ws t.root t.shift.0 t.len None)

-- the blocks that a leaf push takes: the leaf and the branches above it that are new
unfoldable pub needs_of : Room → ℕ → ℕ
needs_of room.Root shift = 1
needs_of (room.At level) shift = level
needs_of room.Above shift = shift / 5 + 2

-- The laws by which the searches go on.
module _ (ws : List ℕ) (b shift place : ℕ) where
  pub dense_low : (k : ℕ) → shift / 5 < 2 → dense_room k ws b shift place ≡ shift / 5
  unfolding dense_room
  dense_low zero h = refl
  dense_low (suc k) h = rw (lt-ltb _ _ h)

  pub dense_on : (k : ℕ) → 2 ≤ shift / 5 → shift ≤ k
      → dense_room k ws b shift place ≡ pick (child_of place shift == count_of ws b) (shift / 5) (dense_room (k - 1) ws (slot_of ws b (last_of ws b)) (shift - 5) place)
  unfolding dense_room
  dense_on zero h l = absurd (omega arith)
  dense_on (suc k) h l = let e : suc k - 1 ≡ k = omega arith in rw (le-ltb _ _ h, e)

module _ (ws : List ℕ) (b shift place : ℕ) (level : Option ℕ) where
  look_bottom : shift ≡ 0 → look_of ws b shift place level ≡ Break (sibling_of level)
  unfolding look_of
  look_bottom e = rw (eq-eqb _ _ e)

  pub search_ends : (k : ℕ) (r : Room) → shift ≤ k → look_of ws b shift place level ≡ Break r → search_of k ws b shift place level ≡ r
  unfolding search_of
  search_ends zero r l e = let f = look_bottom (omega arith) in cc
  search_ends (suc k) r l e = rw e

  pub down_above : (s : Search) → look_of ws b shift place level ≡ Continue s → 0 < shift
  down_above s e = go (dec_lt 0 shift)
    where
      go : Dec (0 < shift) → 0 < shift
      go (yes h) = h
      go (no h) =
          let f = look_bottom (omega arith) in
          let z : ◌≡◌ {A = ℕ} 0 1 = cc in
          omega arith

  pub search_down : (k : ℕ) (s : Search) → shift ≤ k → look_of ws b shift place level ≡ Continue s
      → search_of k ws b shift place level ≡ search_of (k - 1) ws s.at.block (shift - 5) s.at.place.0 s.level
  unfolding search_of
  search_down zero s l e = let f = down_above s e in absurd (omega arith)
  search_down (suc k) s l e = let m : suc k - 1 ≡ k = omega arith in rw (e, m)

  -- the search goes on one level down
  pub look_shift : (s : Search) → look_of ws b shift place level ≡ Continue s → s.at.shift.0 ≡ shift - 5
  unfolding look_of relaxed_room
  look_shift s e = grind (arith, e)
