-- `merging::Lent::pour_in`: the nodes still to be written, on the words so far, are those of the whole; the slots left are the total less 32 for each node.
use Rattle.std.proofs.Common.{◌≡◌, ℕ, ◌-◌, ◌*◌, ◌≤◌}
use Rattle.merging.specs.Lent.{on}
use Rattle.merging.specs.Packs.{pour_in, pour_from}
use Rattle.merging.proofs.Lent.pour_in.Given as goal

abbrev pub invariant-loop-i : goal.invariant-loop-i
invariant-loop-i l =
    let old = l.initial.self in
    let new = l.self in
    let left = l.total.at - l.i * 32 in
    (fuel : ℕ) × (left ≤ fuel) × (new.words.ghost_name ≡ old.words.ghost_name) × (new.work.ghost_name ≡ old.work.ghost_name) × (on pour_in old l.j.at l.k.at l.total.at l.out.at ≡ pour_from fuel new.words.now new.state new.work.now l.j.at l.k.at l.out.at left l.i)
