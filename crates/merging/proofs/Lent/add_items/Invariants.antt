-- `merging::Lent::add_items`: the nodes still to be added, on the area so far, are those of the whole.
use Rattle.std.proofs.Common.{◌≡◌, ◌-◌}
use Rattle.merging.specs.Lent.{Stores}
use Rattle.merging.specs.Merges.{add_from}
use Rattle.merging.proofs.Lent.add_items.Given as goal

abbrev pub invariant-loop-at : goal.invariant-loop-at
invariant-loop-at l =
    let old = l.initial.self in
    let ws = old.words.now in
    let w = l.self.work.now in
    Stores old l.self w × (add_from ws old.work.now l.j.at l.k.block (l.at-end - l.k.from) l.k.from ≡ add_from ws w l.j.at l.k.block (l.at-end - l.at) l.at)
