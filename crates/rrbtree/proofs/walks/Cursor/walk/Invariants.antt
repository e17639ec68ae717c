-- `rrbtree::walks::Cursor::walk`: what is left of the walk is the whole walk.
use Rattle.std.proofs.Common.{◌≡◌, ℕ, ◌≤◌}
use Rattle.rrbtree.specs.Walks.{walk_of}
use Rattle.rrbtree.proofs.walks.Cursor.walk.Given as goal

abbrev pub invariant-loop-at : goal.invariant-loop-at
invariant-loop-at l =
    let from = l.initial.at in
    (k : ℕ) × (l.at.shift.0 ≤ k) × (walk_of from.shift.0 l.pool from.block from.shift.0 from.place.0 ≡ walk_of k l.pool l.at.block l.at.shift.0 l.at.place.0)

abbrev pub decreases-loop-at : goal.decreases-loop-at
decreases-loop-at l = l.at.shift.0
