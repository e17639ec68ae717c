-- `node::builds::any_thin`: what is left of the search is the whole search.
use Rattle.std.proofs.Common.{◌≡◌, ◌-◌}
use Rattle.blocks.specs.Views.{read}
use Rattle.node.specs.Builds.{any_thin}
use Rattle.node.proofs.builds.any_thin.Given as goal

abbrev pub invariant-loop-at : goal.invariant-loop-at
invariant-loop-at l = read any_thin l.b l.fn.n.at 0 ≡ read any_thin l.b (l.fn.n.at - l.at) l.at
