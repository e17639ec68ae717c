-- `merging::Lent::lay_nodes`: the nodes still to be laid, on the area so far, are those of the whole.
use Rattle.std.proofs.Common.{◌≡◌, ◌-◌}
use Rattle.merging.specs.Lent.{Stores}
use Rattle.merging.specs.Packs.{lay_nodes}
use Rattle.merging.proofs.Lent.lay_nodes.Given as goal

abbrev pub invariant-loop-i : goal.invariant-loop-i
invariant-loop-i l =
    let old = l.initial.self in
    let w = l.self.work.now in
    Stores old l.self w × (lay_nodes old.work.now l.gap.at l.i-end 0 ≡ lay_nodes w l.gap.at (l.i-end - l.i) l.i)
