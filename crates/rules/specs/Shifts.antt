-- The shift of a level.
-- Definitions here; what is proved of them is in proofs/Shifts.antt.
use Rattle.std.specs.Prelude.{ℕ, ◌*◌}

-- "A shift is 0 at a leaf and 5 more per level": b more, where there are 2^b slots.
unfoldable pub shift_of : (b h : ℕ) → ℕ
shift_of b h = b * h
