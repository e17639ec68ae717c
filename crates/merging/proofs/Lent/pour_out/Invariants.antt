-- `merging::Lent::pour_out`: of a node, the slots still to be laid, and of the row, the nodes still to be laid, are the whole; a flat slot and a gap at most are passed each time.
use Rattle.std.proofs.Common.{◌≡◌, ◌+◌, ◌-◌, ◌*◌, ◌≤◌}
use Rattle.merging.specs.Lent.{Stores}
use Rattle.merging.specs.Packs.{pour_node, pour_nodes}
use Rattle.merging.proofs.Lent.pour_out.Given as goal

abbrev pub invariant-loop-at : goal.invariant-loop-at
invariant-loop-at l =
    let old = l.initial.self in
    let ws = old.words.now in
    let w = l.self.work.now in
    Stores old l.self w × (l.t ≤ l.initial.t + 65 * l.at) × (l.at ≤ l.m) × (pour_node ws l.b l.gap.at l.gap.len.at l.m 0 l.initial.t old.work.now ≡ pour_node ws l.b l.gap.at l.gap.len.at (l.m - l.at) l.at l.t w)

abbrev pub invariant-nodes : goal.invariant-nodes
invariant-nodes l =
    let old = l.initial.self in
    let ws = old.words.now in
    let w = l.self.work.now in
    Stores old l.self w × (l.i ≤ l.fn.k.at + 62) × (l.t ≤ 64 + 2080 * (l.i - l.fn.k.at)) × (pour_nodes ws l.j.at l.gap.at l.gap.len.at (l.i-end - l.fn.k.at) l.fn.k.at l.initial.t old.work.now ≡ pour_nodes ws l.j.at l.gap.at l.gap.len.at (l.i-end - l.i) l.i l.t w)
