-- One vector by itself: what a call on it makes of it and answers, with no pool, no shares and no other vector. The machine does
-- just that to it.
use Rattle.std.specs.Prelude.{ℕ, ◌-◌, List, [], ◌∷◌, Bool, true, false, cond, eqb, ltb, leb, length, get_or}
use Rattle.std.proofs.Math.Path.{◌≡◌, sym, ap}
use Rattle.std.proofs.Common.{◌∙◌, arith}
use borrow.Author.Tests.{lt-ltb, le-ltb, le-leb, lt-leb, eq-eqb, ne_eqb}
use Rattle.machine.specs.Machine.{Rules, Head, Place, closed, opened, State, Answer, Done, Value, Refused, bit, place_at}
use Rattle.machine.specs.Machine.{Call, Open, Close, Push, Pop, Get, Set, Append, Length, IsEmpty, Held, Free, Check}
use Rattle.machine.specs.Machine.{list_of, held_of, pushed, popped, changed, after_push, next, answer}
use Rattle.machine.specs.Numbers.{OpenAt, Refuses, Accepts}
use Rattle.machine.specs.Numbers.{open_9, open_8, open_6, close_2, push_2, push_5, push_6, pop_2, pop_4, get_2, get_4, set_2, set_4, append_1, append_2r, append_2g, append_3, append_5, append_6, length_2, is_empty_2, held_2}
use Rattle.machine.specs.Numbers.{opens, closes, pushes, pops, gets, sets, appends, lengths, is_emptys, is_not_emptys, helds, frees, checks}
use Rattle.machine.proofs.Exact.{by_outcome}
use Rattle.machine.proofs.Tables.{at_put, inside}
use Rattle.machine.specs.Updates.{update}
use Rattle.machine.specs.Chosen.{Names, none, one, last, two, names, is_six}

-- The vector that a call is on, where it is on one alone.
abbrev pub first : Names → ℕ
first none = 0
first (one v) = v
first (last v) = v
first (two r g) = r

unfoldable pub target : Call → ℕ
target c = first (names c)

abbrev pub Alone : Names → Type 0
Alone none = ⊥
Alone (one v) = Unit {0}
Alone (last v) = Unit {0}
Alone (two r g) = r ≡ g

unfoldable pub Single : Call → Type 0
Single c = Alone (names c)

module _ {T : Type 0} (R : Rules T) where
  -- One vector by itself: what a call on it makes of it and answers, where it does not answer 6.
  unfoldable pub alone : Head T → Call → Place T × Answer
  alone a (Open e l) = (opened a, Done)
  alone a (Close v) = (closed, Done)
  alone a (Push v x) = cond (ltb a.limit (held_of R (pushed R a x))) (opened a, Refused 5) (opened (pushed R a x), Done)
  alone a (Pop v) =
      cond (eqb (length (list_of R a)) 0) (opened a, Refused 4)
      (opened (popped R a), Value (get_or (list_of R a) (length (list_of R a) - 1) 0))
  alone a (Get v i) = cond (leb (length (list_of R a)) i) (opened a, Refused 4) (opened a, Value (get_or (list_of R a) i 0))
  alone a (Set v i x) = cond (leb (length (list_of R a)) i) (opened a, Refused 4) (opened (changed R a i x), Done)
  alone a (Append area r g) = (opened a, Refused (cond area 3 1))
  alone a (Length v) = (opened a, Value (length (list_of R a)))
  alone a (IsEmpty v) = (opened a, Value (bit (eqb (length (list_of R a)) 0)))
  alone a (Held v) = (opened a, Value (held_of R a))
  alone a Free = (opened a, Done)
  alone a Check = (opened a, Done)

  unfoldable pub own : Place T → Call → Bool → Place T × Answer
  own closed c six = (closed, Refused 2)
  own (opened a) c true = (opened a, Refused 6)
  own (opened a) c false = alone a c

  -- Vectors by themselves: the answers to calls of which it is known which are refused with 6. No pool, no shares, no other vector.
  unfoldable pub solo : (ℕ → Place T) → List (Call × Bool) → List (Call × Answer)
  solo f [] = []
  solo f (q ∷ qs) =
      let r = own (f (target q.0)) q.0 q.1 in
      (q.0, r.1) ∷ solo (update f (target q.0) r.0) qs

  -- A call on one vector does to it what it does by itself.
  own_refuses : {s : State T} {c : Call} {n : ℕ} (b : Head T) → Refuses R s c n → Single c → OpenAt s (target c) b
      → (place_at s (target c), Refused n) ≡ own (place_at s (target c)) c (eqb n 6)
  unfolding names Single target alone own
  own_refuses b (open_9 h) z e = absurd z
  own_refuses b (open_8 h k f) z e = absurd z
  own_refuses b (open_6 h k M o) z e = absurd z
  own_refuses b (close_2 f) z e = rw f
  own_refuses b (push_2 f) z e = rw f
  own_refuses b (push_5 f h) z e = rw (f, lt-ltb _ _ h)
  own_refuses b (push_6 f h k) z e = rw f
  own_refuses b (pop_2 f) z e = rw f
  own_refuses b (pop_4 f h) z e = rw (f, eq-eqb _ _ h)
  own_refuses b (get_2 f) z e = rw f
  own_refuses b (get_4 f h) z e = rw (f, le-leb _ _ h)
  own_refuses b (set_2 f) z e = rw f
  own_refuses b (set_4 f h) z e = rw (f, le-leb _ _ h)
  own_refuses b append_1 z e = rw e
  own_refuses b (append_2r f) z e = rw f
  own_refuses {s} b (append_2g {r} {g} f h) z e = let k : closed ≡ opened b = sym h ∙ ap (place_at s) (sym z) ∙ e in absurd (let y : ◌≡◌ {A = ℕ} 0 1 = cc in omega arith)
  own_refuses b (append_3 f) z e = rw f
  own_refuses b (append_5 f h n k) z e = absurd (n z)
  own_refuses b (append_6 f h n k l) z e = absurd (n z)
  own_refuses b (length_2 f) z e = rw f
  own_refuses b (is_empty_2 f) z e = rw f
  own_refuses b (held_2 f) z e = rw f

  own_accepts : {s t : State T} {c : Call} {a : Answer} → Accepts R s c t a → Single c → (place_at t (target c), a) ≡ own (place_at s (target c)) c (is_six a)
  unfolding names Single target alone own after_push
  own_accepts (opens h k M o) z = absurd z
  own_accepts {s} (closes {v} f) z = rw (at_put s v closed (inside s v f), f)
  own_accepts {s} (pushes {v} {x} {a} f h k) z = rw (at_put s v (opened (pushed R a x)) (inside s v f), f, le-ltb _ _ h)
  own_accepts {s} (pops {v} {a} f h) z = rw (at_put s v (opened (popped R a)) (inside s v f), f, ne_eqb (length (list_of R a)) 0 (λ m. omega arith))
  own_accepts (gets f h) z = rw (f, lt-leb _ _ h)
  own_accepts {s} (sets {v} {i} {x} {a} f h) z = rw (at_put s v (opened (changed R a i x)) (inside s v f), f, lt-leb _ _ h)
  own_accepts (appends f h n k o) z = absurd (n z)
  own_accepts (lengths f) z = rw f
  own_accepts (is_not_emptys {a = a} f h) z = rw (f, ne_eqb (length (list_of R a)) 0 (λ m. omega arith))
  own_accepts (is_emptys f h) z = rw (f, eq-eqb _ _ h)
  own_accepts (helds f) z = rw f
  own_accepts frees z = absurd z
  own_accepts checks z = absurd z

  pub own_step : (s : State T) (c : Call) (b : Head T) → Single c → OpenAt s (target c) b
      → (place_at (next R s c) (target c), answer R s c) ≡ own (place_at s (target c)) c (is_six (answer R s c))
  unfolding next answer
  own_step s c b z e =
      by_outcome R s c (λ r. (place_at r.0 (target c), r.1) ≡ own (place_at s (target c)) c (is_six r.1)) (λ n r. own_refuses b r z e) (λ t a r. own_accepts r z)
