-- `blocks::free_count`: what was counted and what is still to be counted are together the whole chain.
use Prim.Native.Nat.{◌-◌, ◌+◌}
use mathlib.Core.Path.{◌≡◌}
use Rattle.blocks.specs.Chain.{chain_from, free_count_of}
use Rattle.blocks.proofs.free_count.Given as goal

abbrev pub invariant-loop-k : goal.invariant-loop-k
invariant-loop-k l = free_count_of l.pool l.n l.initial.b ≡ l.k + chain_from l.pool l.n (l.n - l.k) l.b
