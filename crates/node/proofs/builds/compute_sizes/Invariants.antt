-- `node::builds::compute_sizes`: the entries still to come, on the words so far, are those of the whole table.
use Rattle.std.proofs.Common.{◌≡◌, ◌-◌}
use Rattle.node.specs.Builds.{sizes_of}
use Rattle.node.proofs.builds.compute_sizes.Given as goal

abbrev pub invariant-loop-at : goal.invariant-loop-at
invariant-loop-at l = sizes_of l.initial.pool l.b l.below.0 l.fn.n.at 0 0 ≡ sizes_of l.pool l.b l.below.0 (l.fn.n.at - l.at) l.at l.sum
