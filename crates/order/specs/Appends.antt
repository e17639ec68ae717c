-- The bounds of an append in order: rows and what goes up stay short.
-- Definitions here; what is proved of them is in proofs/Appends.antt.
use Rattle.std.specs.Prelude.{ℕ, ◌*◌, ◌≤◌, length}
use Rattle.rules.specs.Sides.{merge_sides, Meeting}
use Rattle.order.specs.Bounds.{ShortSides}

-- What bounds the work of an append: every row of both sides, the elements in the middle, the nodes on top.
pub record Bounded (S : ℕ) (m : Meeting) : Type 0 where
  pub rows : ShortSides S m.height m.sides
  pub middle_few : length m.middle ≤ 2 * S
  pub tops : (1 ≤ length (merge_sides S m.height m.sides m.middle)) × (length (merge_sides S m.height m.sides m.middle) ≤ 2)
