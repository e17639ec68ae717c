-- What isolation speaks of: some chosen vectors, the calls of a run on them up to the close of each, and the answers.
use Rattle.std.specs.Prelude.{ℕ, ◌≡◌, List, [], ◌∷◌, Bool, true, false, not, ◌||◌, ◌&&◌, eqb}
use Rattle.machine.specs.Machine.{Rules, Head, State, Answer, Done, Value, Refused, next, answer}
use Rattle.machine.specs.Machine.{Call, Open, Close, Push, Pop, Get, Set, Append, Length, IsEmpty, Held, Free, Check}
use Rattle.machine.specs.Numbers.{OpenAt}

-- The vector numbers that a call names: none, one, one that it closes, two.
pub data Names : Type 0 where
  none : Names
  one : ℕ → Names
  last : ℕ → Names
  two : ℕ → ℕ → Names

unfoldable pub names : Call → Names
names (Open e l) = none
names (Close v) = last v
names (Push v x) = one v
names (Pop v) = one v
names (Get v i) = one v
names (Set v i x) = one v
names (Append area r g) = two r g
names (Length v) = one v
names (IsEmpty v) = one v
names (Held v) = one v
names Free = none
names Check = none

-- Some vectors are chosen, by a test on vector numbers. A call is on them if it names one of them.
abbrev pub one_of : (ℕ → Bool) → Names → Bool
one_of C none = false
one_of C (one v) = C v
one_of C (last v) = C v
one_of C (two r g) = C r || C g

unfoldable pub on : (ℕ → Bool) → Call → Bool
on C c = one_of C (names c)

-- After its close a vector is chosen no more: the number is an outsider's.
abbrev pub less : (ℕ → Bool) → Names → ℕ → Bool
less C none w = C w
less C (one v) w = C w
less C (last v) w = C w && not (eqb w v)
less C (two r g) w = C w

unfoldable pub after : (ℕ → Bool) → Call → ℕ → Bool
after C c = less C (names c)

-- "no append asked, refused or not, between one of them and any vector number but its own"
abbrev pub OwnOnly : (ℕ → Bool) → Names → Type 0
OwnOnly C none = Unit {0}
OwnOnly C (one v) = Unit {0}
OwnOnly C (last v) = Unit {0}
OwnOnly C (two r g) = (C r || C g) ≡ true → r ≡ g

unfoldable pub Apart : (ℕ → Bool) → List Call → Type 0
Apart C [] = Unit {0}
Apart C (c ∷ cs) = OwnOnly C (names c) × Apart (after C c) cs

-- a call, and whether it was refused with 6
abbrev pub is_six : Answer → Bool
is_six Done = false
is_six (Value n) = false
is_six (Refused n) = eqb n 6

abbrev pub asked : Call × Answer → Call × Bool
asked p = (p.0, is_six p.1)

abbrev pub keep : {A : Type 0} → Bool → A → List A → List A
keep true x xs = x ∷ xs
keep false x xs = xs

module _ {T : Type 0} (R : Rules T) where
  -- "some vectors open in it"
  unfoldable pub AllOpen : (ℕ → Bool) → State T → Type 0
  AllOpen C s = (v : ℕ) → C v ≡ true → (a : Head T) × OpenAt s v a

  -- The calls of a run on the chosen vectors, "up to the close of each", with their answers.
  unfoldable pub mine : (ℕ → Bool) → State T → List Call → List (Call × Answer)
  mine C s [] = []
  mine C s (c ∷ cs) = keep (on C c) (c, answer R s c) (mine (after C c) (next R s c) cs)
