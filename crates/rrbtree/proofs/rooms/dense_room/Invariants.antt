-- `rrbtree::rooms::dense_room`: what is left of the search is the whole search.
use Rattle.std.proofs.Common.{◌≡◌, ℕ, ◌≤◌}
use Rattle.rrbtree.specs.Rooms.{dense_room}
use Rattle.rrbtree.proofs.rooms.dense_room.Given as goal

abbrev pub invariant-loop-branch : goal.invariant-loop-branch
invariant-loop-branch l =
    let from = l.initial.at in
    (k : ℕ) × (l.at.shift.0 ≤ k) × (dense_room from.shift.0 l.pool from.block from.shift.0 from.place.0 ≡ dense_room k l.pool l.at.block l.at.shift.0 l.at.place.0)

abbrev pub decreases-loop-branch : goal.decreases-loop-branch
decreases-loop-branch l = l.at.shift.0
