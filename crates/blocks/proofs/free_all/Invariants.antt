-- `blocks::free_all`: after b turns the first b blocks are on the chain.
use mathlib.Core.Path.{◌≡◌}
use Rattle.blocks.specs.Chain.{chained_of}
use Rattle.blocks.proofs.free_all.Given as goal

abbrev pub invariant-loop-b : goal.invariant-loop-b
invariant-loop-b l = l.pool ≡ chained_of l.initial.pool l.b
