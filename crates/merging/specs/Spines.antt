-- The two spines along which trees meet, on the words of a pool.
use Rattle.std.specs.Prelude.{◌≡◌, ℕ, ◌+◌, ◌/◌, min, max, List, Option, None, Some, ◌==◌, nat_lt}
use Rattle.blocks.specs.Words.{pick, count_of, last_of, slot_of}
use Rattle.rrbtree.specs.Rooms.{room_of}
use Rattle.rrbtree.specs.declared.Tree.{Tree}
use Rattle.rrbtree.specs.declared.rooms.Room.{Room}
use Rattle.rrbtree.specs.declared.rooms.Room.TheVariants as room
use Rattle.merging.specs.declared.spines.Side.{Side}
use Rattle.merging.specs.declared.spines.Side.TheVariants as side
use Rattle.merging.specs.declared.spines.Spine.{Spine}
use Rattle.merging.specs.declared.spines.Pair.{Pair}
use Rattle.merging.specs.declared.spines.Others.{Others}
use Rattle.merging.specs.declared.spines.Others.TheVariants as others

abbrev pub level_of : Room → ℕ → ℕ
level_of room.Root h = 0
level_of (room.At level) h = level
level_of room.Above h = h + 1

-- the height of the node below which a tail hangs as a leaf; 0 where there is no tail or no tree
unfoldable pub hangs_at : List ℕ → Tree → ℕ → ℕ
hangs_at ws t tail = pick (tail == 0) 0 (level_of (room_of ws t) (t.shift.0 / 5))

unfoldable pub pair_of : List ℕ → Tree → ℕ → Tree → Pair
pair_of ws a tail g =
    let stop = hangs_at ws a tail in
    let h = a.shift.0 / 5 in
    let k = g.shift.0 / 5 in
    record {
      left = record { block = a.root; height = h; side = side.Left stop };
      right = record { block = g.root; height = k; side = side.Right };
      top = min (max (max h stop) k) 48;
    }

-- the children start..to of block b
abbrev pub kids_of : ℕ → ℕ → ℕ → Others
kids_of b start to = others.Kids (record { block = b; from = start; to = to })

-- what stands beside the left tree's spine below its node at height j: below the hanging tail nothing, at its height all
unfoldable pub left_others : List ℕ → ℕ → ℕ → ℕ → ℕ → Option Others
left_others ws b height stop j =
    pick (nat_lt j stop) None
    (pick (nat_lt height j) (pick (j == stop) (Some (others.Only b)) None)
    (pick (j == stop) (Some (kids_of b 0 (count_of ws b))) (Some (kids_of b 0 (last_of ws b)))))

-- and beside the right tree's
unfoldable pub right_others : List ℕ → ℕ → ℕ → ℕ → Option Others
right_others ws b height j = pick (nat_lt height j) None (Some (kids_of b 1 (count_of ws b)))

-- the one or the other, by the side
abbrev others_by : List ℕ → ℕ → ℕ → ℕ → Side → Option Others
others_by ws b height j (side.Left stop) = left_others ws b height stop j
others_by ws b height j side.Right = right_others ws b height j

unfoldable pub others_of : List ℕ → Spine → ℕ → Option Others
others_of ws s j = others_by ws s.block s.height j s.side

-- the child of a spine node along which the spine goes on
abbrev next_of : List ℕ → ℕ → Side → ℕ
next_of ws b (side.Left stop) = slot_of ws b (last_of ws b)
next_of ws b side.Right = slot_of ws b 0

-- the spine one level below height j
unfoldable pub below_of : List ℕ → Spine → ℕ → Spine
below_of ws s j = record { block = pick (nat_lt s.height j) s.block (next_of ws s.block s.side); height = s.height; side = s.side }

pub others_left : (ws : List ℕ) (s : Spine) (stop j : ℕ) → s.side ≡ side.Left stop → others_of ws s j ≡ left_others ws s.block s.height stop j
unfolding others_of
others_left ws s stop j e = rw e
