-- `merging::Lent::release_items`: the nodes still to be released, on the words so far, are those of the whole run.
use Rattle.std.proofs.Common.{◌≡◌, ◌-◌}
use Rattle.merging.specs.Lent.{Holds}
use Rattle.merging.specs.Packs.{release_from}
use Rattle.merging.proofs.Lent.release_items.Given as goal

abbrev pub invariant-loop-at : goal.invariant-loop-at
invariant-loop-at l =
    let old = l.initial.self in
    let new = l.self in
    let w = old.work.now in
    Holds old new new.state new.words.now w × (release_from (l.at-end - l.k) old.words.now old.state w l.j.at l.k ≡ release_from (l.at-end - l.at) new.words.now new.state w l.j.at l.at)
