-- `levels::Index::child`: past 63 the quotient is 0.
use Rattle.std.proofs.Common.{◌≡◌, ◌<◌, ◌≤◌, ◌/◌, ◌^◌, arith}
use native.Mathlib.Nat.{div-eq_of_lt, lt_of_lt_of_le}
use lib.Pow.{pow_mono}
use Rattle.levels.proofs.Index.child.Goals as goal

pub returns : goal.returns
returns c =
    let a = c.args in
    let small : a.self.0 < 2 ^ 64 = omega arith in
    let big : 2 ^ 64 ≤ 2 ^ a.shift.0 = pow_mono {i = 64} c.if-shift-lt64.false in
    let none : a.self.0 / 2 ^ a.shift.0 ≡ 0 = div-eq_of_lt (lt_of_lt_of_le small big) in
    rw none
