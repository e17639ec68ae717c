-- `rrbtree::rooms::has_enough_capacity`: what is left of the search is the whole search; it goes down only above shift 0.
use Rattle.std.proofs.Common.{◌≡◌, ℕ, ◌≤◌}
use Rattle.rrbtree.specs.Rooms.{room_of, search_of}
use Rattle.rrbtree.proofs.rooms.has_enough_capacity.Given as goal

abbrev pub invariant-loop-room : goal.invariant-loop-room
invariant-loop-room l =
    let at = l.search.at in
    (k : ℕ) × (at.shift.0 ≤ k) × (room_of l.pool l.fn.t ≡ search_of k l.pool at.block at.shift.0 at.place.0 l.search.level)

abbrev pub decreases-loop-room : goal.decreases-loop-room
decreases-loop-room l = l.search.at.shift.0
