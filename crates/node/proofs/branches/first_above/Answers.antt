-- `node::branches::first_above`: what is left of the search is the whole search.
use Rattle.std.proofs.Common.{sym, ◌∙◌, le-ltb, lt-ltb}
use Rattle.node.specs.Branches.{first_at}
use Rattle.node.proofs.branches.first_above.Goals as goal

pub loop-at-preserved : goal.loop-at-preserved
loop-at-preserved c =
    let l = c.loop-at in
    l.invariant ∙ first_at _ _ _ 31 l.at c.loop-at-test.true ∙ rw (← c.size.ensures, le-ltb _ _ c.if-place-size.false)

pub returns-then-place-size : goal.returns-then-place-size
returns-then-place-size c =
    let l = c.loop-at in
    sym (l.invariant ∙ first_at _ _ _ 31 l.at c.loop-at-test.true ∙ rw (← c.size.ensures, lt-ltb _ _ c.if-place-size.true))
