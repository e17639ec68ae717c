-- `node::branches::first_above`: what is left of the search is the whole search.
use Rattle.std.proofs.Common.{◌≡◌, ◌-◌}
use Rattle.blocks.specs.Views.{read}
use Rattle.node.specs.Branches.{above_of, first_from}
use Rattle.node.proofs.branches.first_above.Given as goal

abbrev pub invariant-loop-at : goal.invariant-loop-at
invariant-loop-at l = read above_of l.b l.fn.shift.0 l.place.0 ≡ read first_from l.b l.place.0 (31 - l.at) l.at
