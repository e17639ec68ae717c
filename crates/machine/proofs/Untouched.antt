-- What a call leaves: every open vector that it does not name, and open every one that it does not close.
use Rattle.std.specs.Prelude.{ℕ, ◌<◌, Bool, true, false, ◌||◌, eqb, length}
use Rattle.std.proofs.Math.Path.{◌≡◌, refl, ap}
use Rattle.std.proofs.Common.{sym, ◌∙◌, true≢false}
use native.Mathlib.Omega.{arith}
use Rattle.std.proofs.Math.Decide.{ℕ_discrete}
use Rattle.std.proofs.lemmas.Bool.{eqb-false}
use Rattle.std.proofs.Math.ListN.{get_or}
use Rattle.machine.specs.Machine.{Rules, Head, closed, opened, State, Answer, lowest_closed, place_at, put}
use Rattle.machine.specs.Machine.{Call}
use Rattle.machine.specs.Machine.{fresh, joined, emptied, after_open, after_push, after_append, next}
use Rattle.machine.specs.Numbers.{OpenAt, Accepts}
use Rattle.machine.specs.Numbers.{opens, closes, pushes, pops, gets, sets, appends, lengths, is_emptys, is_not_emptys, helds, frees, checks}
use Rattle.machine.proofs.Exact.{by_outcome, lowest_is}
use Rattle.machine.proofs.Tables.{at_put, at_put_other, inside}
use Rattle.machine.specs.Chosen.{last, names, on}

pub or_none : (a b : Bool) → (a || b) ≡ false → (a ≡ false) × (b ≡ false)
or_none true b h = absurd (true≢false h)
or_none false b h = (refl, h)

module _ {T : Type 0} (R : Rules T) where
  -- A vector that is not named.
  lowest_not : (s : State T) (v w : ℕ) (b : Head T) → lowest_closed s.table ≡ v → get_or s.table v closed ≡ closed → OpenAt s w b → w ≡ lowest_closed s.table → ⊥
  unfolding place_at
  lowest_not s v w b p q e z = let k : get_or s.table w closed ≡ closed = ap (λ (u : ℕ). get_or s.table u closed) (z ∙ p) ∙ q in let y : ◌≡◌ {A = ℕ} 0 1 = cc in omega arith

  away : (v w : ℕ) → eqb v w ≡ false → w ≡ v → ⊥
  away v w h e = eqb-false v w h (sym e)

  untouched : {s t : State T} {c : Call} {a : Answer} (w : ℕ) (b : Head T) → Accepts R s c t a → on (λ u. eqb u w) c ≡ false → OpenAt s w b → place_at t w ≡ place_at s w
  unfolding names on after_open after_push after_append
  untouched {s} w b (opens {e} {l} {v} h k M o) n f = at_put_other s (lowest_closed s.table) w (opened (fresh R e l)) (lowest_not s v w b (lowest_is s.table v M) M.shut f)
  untouched {s} w b (closes {v} e) n f = at_put_other s v w closed (away v w n)
  untouched {s} w b (pushes {v} e h k) n f = at_put_other s v w _ (away v w n)
  untouched {s} w b (pops {v} e h) n f = at_put_other s v w _ (away v w n)
  untouched w b (gets e h) n f = refl
  untouched {s} w b (sets {v} e h) n f = at_put_other s v w _ (away v w n)
  untouched {s} w b (appends {r} {g} e h m k o) n f =
      let (nr, ng) = or_none (eqb r w) (eqb g w) n in
      at_put_other (put s r _) g w _ (away g w ng) ∙ at_put_other s r w _ (away r w nr)
  untouched w b (lengths e) n f = refl
  untouched w b (is_not_emptys e h) n f = refl
  untouched w b (is_emptys e h) n f = refl
  untouched w b (helds e) n f = refl
  untouched w b frees n f = refl
  untouched w b checks n f = refl

  pub untouched_next : (s : State T) (c : Call) (w : ℕ) (b : Head T) → on (λ u. eqb u w) c ≡ false → OpenAt s w b → place_at (next R s c) w ≡ place_at s w
  unfolding next
  untouched_next s c w b n f = by_outcome R s c (λ r. place_at r.0 w ≡ place_at s w) (λ m r. refl) (λ t a r. untouched w b r n f)

  -- A vector that is not closed.
  put_open : (s : State T) (v : ℕ) (d : Head T) (w : ℕ) (b : Head T) → v < length s.table → OpenAt s w b → (x : Head T) × OpenAt (put s v (opened d)) w x
  put_open s v d w b h e = go (ℕ_discrete w v)
    where
      go : Dec (w ≡ v) → (x : Head T) × OpenAt (put s v (opened d)) w x
      go (yes q) = (d, ap (place_at (put s v (opened d))) q ∙ at_put s v (opened d) h)
      go (no q) = (b, at_put_other s v w (opened d) q ∙ e)

  stays : {s t : State T} {c : Call} {a : Answer} (w : ℕ) (b : Head T) → Accepts R s c t a → (names c ≡ last w → ⊥) → OpenAt s w b → (x : Head T) × OpenAt t w x
  unfolding names after_open after_push after_append
  stays {s} w b (opens {v = v} h k M o) n f = put_open s (lowest_closed s.table) _ w b (omega (arith, M.inside, lowest_is s.table v M)) f
  stays {s} w b (closes {v} e) n f = (b, at_put_other s v w closed (λ z. n (ap last (sym z))) ∙ f)
  stays {s} w b (pushes {v} e h k) n f = put_open s v _ w b (inside s v e) f
  stays {s} w b (pops {v} e h) n f = put_open s v _ w b (inside s v e) f
  stays w b (gets e h) n f = (b, f)
  stays {s} w b (sets {v} e h) n f = put_open s v _ w b (inside s v e) f
  stays {s} w b (appends {r} {g} {a} {b = d} e h m k o) n f =
      let (x, y) = put_open s r (joined R a d) w b (inside s r e) f in
      let (x2, y2) = put_open s r (joined R a d) g d (inside s r e) h in
      put_open (put s r (opened (joined R a d))) g (emptied R d) w x (inside (put s r (opened (joined R a d))) g y2) y
  stays w b (lengths e) n f = (b, f)
  stays w b (is_not_emptys e h) n f = (b, f)
  stays w b (is_emptys e h) n f = (b, f)
  stays w b (helds e) n f = (b, f)
  stays w b frees n f = (b, f)
  stays w b checks n f = (b, f)

  pub stays_next : (s : State T) (c : Call) (w : ℕ) (b : Head T) → (names c ≡ last w → ⊥) → OpenAt s w b → (x : Head T) × OpenAt (next R s c) w x
  unfolding next
  stays_next s c w b n f = by_outcome R s c (λ r. (x : Head T) × OpenAt r.0 w x) (λ m r. (b, f)) (λ t a r. stays w b r n f)
