-- `merging::Lent::leading`: what is left of the search is the whole search.
use Rattle.std.proofs.Common.{◌≡◌, ◌-◌}
use Rattle.merging.specs.Packs.{lead_from}
use Rattle.merging.proofs.Lent.leading.Given as goal

abbrev pub invariant-loop-at : goal.invariant-loop-at
invariant-loop-at l =
    let ws = l.self.words.now in
    let w = l.self.work.now in
    lead_from ws w l.j.at (l.at-end - l.k.at) l.k.at ≡ lead_from ws w l.j.at (l.at-end - l.at) l.at
