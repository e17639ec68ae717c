-- `merging::plans::counts`: the sum so far and the counts still to come are the whole.
use Rattle.std.proofs.Common.{◌≡◌, ◌-◌}
use Rattle.blocks.specs.Views.{read}
use Rattle.merging.specs.Plans.{counts_from}
use Rattle.merging.proofs.plans.counts.Given as goal

abbrev pub invariant-loop-at : goal.invariant-loop-at
invariant-loop-at l = read counts_from l.b (l.at-end - l.fn.k.from) l.fn.k.from 0 ≡ read counts_from l.b (l.at-end - l.at) l.at l.sum
