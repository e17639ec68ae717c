-- Places at a level, by division and remainder, for every shift, past the word too.
use Rattle.std.specs.Prelude.{ℕ, ◌+◌, ◌/◌, ◌%◌, ◌^◌, Bool, ltb}

-- "the child slot is place div 2^shift, mod 32 (0 for shifts past the word)"
abbrev pub child_of : ℕ → ℕ → ℕ
child_of place shift = place / 2 ^ shift % 32

-- the slot in a leaf
abbrev pub element_of : ℕ → ℕ
element_of place = place % 32

-- "room if its tree length is < 2^(shift+5)"
abbrev pub room_for : ℕ → ℕ → Bool
room_for place shift = ltb place (2 ^ (shift + 5))

-- a sum of two words; only on a state that calls cannot make does it wrap
abbrev pub plus : ℕ → ℕ → ℕ
plus a b = (a + b) % 2 ^ 64
