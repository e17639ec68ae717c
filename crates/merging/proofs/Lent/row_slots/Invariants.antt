-- `merging::Lent::row_slots`: the sum so far and the slots still to be counted are the whole.
use Rattle.std.proofs.Common.{◌≡◌, ◌+◌, ◌-◌, ◌*◌, ◌≤◌}
use Rattle.merging.specs.Merges.{slots_sum}
use Rattle.merging.proofs.Lent.row_slots.Given as goal

abbrev pub invariant-loop-at : goal.invariant-loop-at
invariant-loop-at l =
    let ws = l.self.words.now in
    let w = l.self.work.now in
    (l.sum ≤ l.at * 32) × (slots_sum ws w l.j.at l.at-end 0 ≡ l.sum + slots_sum ws w l.j.at (l.at-end - l.at) l.at)
