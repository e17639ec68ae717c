-- `merging::Lent::keep`: the nodes still to go up, on the area so far, are those of the whole.
use Rattle.std.proofs.Common.{◌≡◌, ◌+◌, ◌-◌}
use Rattle.merging.specs.Lent.{Stores}
use Rattle.merging.specs.Packs.{keep_of}
use Rattle.merging.proofs.Lent.keep.Given as goal

abbrev pub invariant-loop-at : goal.invariant-loop-at
invariant-loop-at l =
    let old = l.initial.self in
    let w = l.self.work.now in
    Stores old l.self w × (keep_of old.work.now l.j.at (l.at-end - l.k) l.k l.out.at ≡ keep_of w l.j.at (l.at-end - l.at) l.at (l.out.at + (l.at - l.k)))
