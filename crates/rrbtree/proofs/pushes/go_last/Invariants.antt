-- `rrbtree::pushes::go_last`: what is left of the way, on the words so far, is the whole way.
use Rattle.std.proofs.Common.{◌≡◌, ◌-◌}
use Rattle.blocks.specs.Pools.{Leaves}
use Rattle.rrbtree.specs.Pushes.{go_last}
use Rattle.rrbtree.proofs.pushes.go_last.Given as goal

abbrev pub invariant-loop : goal.invariant-loop
invariant-loop l =
    let old = l.initial.pool in
    let ws = l.pool.words.now in
    Leaves old l.pool old.state ws × (go_last l.depth old.words.now l.b l.len ≡ go_last (l.depth - l.counter) ws l.at l.len)
