-- `step` is exactly the table of numbers: each refusal under its condition and no other, each acceptance as its line says.
use Rattle.std.specs.Prelude.{ℕ, zero, suc, ◌<◌, ◌≤◌, ◌≡◌, List, [], ◌∷◌, true, false, ◌↔◌, ◌⊎◌, length, get_or}
use Rattle.std.proofs.Math.Path.{refl, ap}
use Rattle.std.proofs.Common.{sym, inl, inr, ⊎_elim, arith}
use Rattle.std.proofs.Math.Decide.{dec_lt, ℕ_discrete}
use borrow.Author.Tests.{lt-ltb, le-ltb, le-leb, lt-leb, eq-eqb, ne_eqb}
use Rattle.machine.specs.Machine.{Rules, Head, Place, closed, opened, State, Answer, Refused, lowest_closed, place_at}
use Rattle.machine.specs.Machine.{Call, Open, Close, Push, Pop, Get, Set, Append, Length, IsEmpty, Held, Free, Check}
use Rattle.machine.specs.Machine.{list_of, held_of, promised, pushed, joined, after_open, after_push, after_append, step, next, answer}
use Rattle.machine.specs.Numbers.{OpenAt, ClosedAt, Lowest, NoPlace, Refuses, Accepts}
use Rattle.machine.specs.Numbers.{open_9, open_8, open_6, close_2, push_2, push_5, push_6, pop_2, pop_4, get_2, get_4, set_2, set_4, append_1, append_2r, append_2g, append_3, append_5, append_6, length_2, is_empty_2, held_2}
use Rattle.machine.specs.Numbers.{opens, closes, pushes, pops, gets, sets, appends, lengths, is_emptys, is_not_emptys, helds, frees, checks}

-- lowest_closed is the lowest closed place
pub no_lowest : {T : Type 0} (ps : List (Place T)) → NoPlace ps → length ps ≤ lowest_closed ps
unfolding lowest_closed
no_lowest [] f = omega arith
no_lowest (closed ∷ ps) f = absurd (f 0 (omega arith) refl)
no_lowest (opened a ∷ ps) f = let h = no_lowest ps (λ v l e. f (suc v) (omega arith) e) in omega arith

pub lowest_is : {T : Type 0} (ps : List (Place T)) (v : ℕ) → Lowest ps v → lowest_closed ps ≡ v
unfolding lowest_closed
lowest_is [] v L = absurd (let h = L.inside in omega arith)
lowest_is (closed ∷ ps) zero L = refl
lowest_is (closed ∷ ps) (suc v) L = absurd (L.below 0 (omega arith) refl)
lowest_is (opened a ∷ ps) zero L = let h = L.shut in cc
lowest_is (opened a ∷ ps) (suc v) L =
    ap suc (lowest_is ps v (record { inside = omega (arith, L.inside); shut = L.shut; below = λ w l e. L.below (suc w) (omega arith) e }))

pub lowest_or_none : {T : Type 0} (ps : List (Place T)) → NoPlace ps ⊎ Lowest ps (lowest_closed ps)
unfolding lowest_closed
lowest_or_none [] = inl (λ v l e. omega arith)
lowest_or_none (closed ∷ ps) = inr (record { inside = omega arith; shut = refl; below = λ w l e. omega arith })
lowest_or_none (opened a ∷ ps) = go (lowest_or_none ps)
  where
    full : NoPlace ps → NoPlace (opened a ∷ ps)
    full f zero l e = let z : ◌≡◌ {A = ℕ} 0 1 = cc in omega arith
    full f (suc v) l e = f v (omega arith) e

    below : ((w : ℕ) → w < lowest_closed ps → get_or ps w closed ≡ closed → ⊥) → (w : ℕ) → w < suc (lowest_closed ps) → get_or (opened a ∷ ps) w closed ≡ closed → ⊥
    below f zero l e = let z : ◌≡◌ {A = ℕ} 0 1 = cc in omega arith
    below f (suc w) l e = f w (omega arith) e

    go : NoPlace ps ⊎ Lowest ps (lowest_closed ps) → NoPlace (opened a ∷ ps) ⊎ Lowest (opened a ∷ ps) (suc (lowest_closed ps))
    go (inl f) = inl (full f)
    go (inr L) = inr (record { inside = omega (arith, L.inside); shut = L.shut; below = below L.below })

-- case analysis
pub by_lt : {A : Type 0} (m n : ℕ) → (m < n → A) → (n ≤ m → A) → A
by_lt {A} m n f g = go (dec_lt m n)
  where
    go : Dec (m < n) → A
    go (yes h) = f h
    go (no h) = g (omega arith)

pub by_eq : {A : Type 0} (m n : ℕ) → (m ≡ n → A) → ((m ≡ n → ⊥) → A) → A
by_eq {A} m n f g = go (ℕ_discrete m n)
  where
    go : Dec (m ≡ n) → A
    go (yes h) = f h
    go (no h) = g h

pub by_place : {A T : Type 0} (s : State T) (v : ℕ) → (ClosedAt s v → A) → ((a : Head T) → OpenAt s v a → A) → A
by_place {A} {T} s v f g = go (place_at s v) refl
  where
    go : (p : Place T) → place_at s v ≡ p → A
    go closed e = f e
    go (opened a) e = g a e

module _ {T : Type 0} (R : Rules T) where
  pub data Outcome (s : State T) (c : Call) : Type 0 where
    refused : {n : ℕ} → Refuses R s c n → Outcome s c
    accepted : {t : State T} {a : Answer} → Accepts R s c t a → Outcome s c

  pub refuses_step : {s : State T} {c : Call} {n : ℕ} → Refuses R s c n → step R s c ≡ (s, Refused n)
  unfolding step
  refuses_step (open_9 {e} {l} (inl h)) = rw (lt-ltb l e h)
  refuses_step {s} (open_9 {e} {l} (inr h)) = by_lt l e (λ k. rw (lt-ltb l e k)) (λ k. rw (le-ltb l e k, lt-ltb s.blocks l h))
  refuses_step {s} (open_8 {e} {l} h k f) = rw (le-ltb l e h, le-ltb s.blocks l k, le-leb _ _ (no_lowest s.table f))
  refuses_step {s} (open_6 {e} {l} {v} h k L o) =
      rw (le-ltb l e h, le-ltb s.blocks l k, lt-leb (length s.table) (lowest_closed s.table) (omega (arith, L.inside, lowest_is s.table v L)), lt-ltb _ _ o)
  refuses_step (close_2 e) = rw e
  refuses_step (push_2 e) = rw e
  refuses_step (push_5 e h) = rw (e, lt-ltb _ _ h)
  refuses_step (push_6 e h k) = rw (e, le-ltb _ _ h, lt-ltb _ _ k)
  refuses_step (pop_2 e) = rw e
  refuses_step (pop_4 e h) = rw (e, eq-eqb _ _ h)
  refuses_step (get_2 e) = rw e
  refuses_step (get_4 e h) = rw (e, le-leb _ _ h)
  refuses_step (set_2 e) = rw e
  refuses_step (set_4 e h) = rw (e, le-leb _ _ h)
  refuses_step append_1 = refl
  refuses_step (append_2r e) = rw e
  refuses_step (append_2g e f) = rw (e, f)
  refuses_step (append_3 {r} e) = rw (e, eq-eqb r r refl)
  refuses_step (append_5 {r} {g} e f n h) = rw (e, f, ne_eqb r g n, lt-ltb _ _ h)
  refuses_step (append_6 {r} {g} e f n h k) = rw (e, f, ne_eqb r g n, le-ltb _ _ h, lt-ltb _ _ k)
  refuses_step (length_2 e) = rw e
  refuses_step (is_empty_2 e) = rw e
  refuses_step (held_2 e) = rw e

  pub accepts_step : {s t : State T} {c : Call} {a : Answer} → Accepts R s c t a → step R s c ≡ (t, a)
  unfolding step
  accepts_step {s} (opens {e} {l} {v} h k L o) =
      let w = lowest_is s.table v L in
      rw (le-ltb l e h, le-ltb s.blocks l k, lt-leb (length s.table) (lowest_closed s.table) (omega (arith, L.inside)), le-ltb _ _ o, w)
  accepts_step (closes e) = rw e
  accepts_step (pushes e h k) = rw (e, le-ltb _ _ h, le-ltb _ _ k)
  accepts_step (pops {a = a} e h) = rw (e, ne_eqb (length (list_of R a)) 0 (λ z. omega arith))
  accepts_step (gets e h) = rw (e, lt-leb _ _ h)
  accepts_step (sets e h) = rw (e, lt-leb _ _ h)
  accepts_step (appends {r} {g} e f n h k) = rw (e, f, ne_eqb r g n, le-ltb _ _ h, le-ltb _ _ k)
  accepts_step (lengths e) = rw e
  accepts_step (is_not_emptys {a = a} e h) = rw (e, ne_eqb (length (list_of R a)) 0 (λ z. omega arith))
  accepts_step (is_emptys e h) = rw (e, eq-eqb _ _ h)
  accepts_step (helds e) = rw e
  accepts_step frees = refl
  accepts_step checks = refl

  pub outcome : (s : State T) (c : Call) → Outcome s c
  outcome s (Open e l) =
      by_lt l e (λ h. refused (open_9 (inl h)))
      (λ h. by_lt s.blocks l (λ k. refused (open_9 (inr k)))
      (λ k. ⊎_elim (λ f. refused (open_8 h k f))
      (λ L. by_lt s.blocks (promised R (after_open R s e l)) (λ o. refused (open_6 h k L o)) (λ o. accepted (opens h k L o)))
      (lowest_or_none s.table)))
  outcome s (Close v) = by_place s v (λ e. refused (close_2 e)) (λ a e. accepted (closes e))
  outcome s (Push v x) =
      by_place s v (λ e. refused (push_2 e))
      (λ a e. by_lt a.limit (held_of R (pushed R a x)) (λ h. refused (push_5 e h))
      (λ h. by_lt s.blocks (promised R (after_push R s v a x)) (λ k. refused (push_6 e h k)) (λ k. accepted (pushes e h k))))
  outcome s (Pop v) =
      by_place s v (λ e. refused (pop_2 e))
      (λ a e. by_eq (length (list_of R a)) 0 (λ h. refused (pop_4 e h)) (λ h. accepted (pops e (omega arith))))
  outcome s (Get v i) =
      by_place s v (λ e. refused (get_2 e))
      (λ a e. by_lt i (length (list_of R a)) (λ h. accepted (gets e h)) (λ h. refused (get_4 e h)))
  outcome s (Set v i x) =
      by_place s v (λ e. refused (set_2 e))
      (λ a e. by_lt i (length (list_of R a)) (λ h. accepted (sets e h)) (λ h. refused (set_4 e h)))
  outcome s (Append false r g) = refused append_1
  outcome s (Append true r g) =
      by_place s r (λ e. refused (append_2r e))
      (λ a e. by_place s g (λ f. refused (append_2g e f))
      (λ b f. by_eq r g (λ n. refused {n = 3} (rw (← n) (append_3 e)))
      (λ n. by_lt a.limit (held_of R (joined R a b)) (λ h. refused (append_5 e f n h))
      (λ h. by_lt s.blocks (promised R (after_append R s r g a b)) (λ k. refused (append_6 e f n h k)) (λ k. accepted (appends e f n h k))))))
  outcome s (Length v) = by_place s v (λ e. refused (length_2 e)) (λ a e. accepted (lengths e))
  outcome s (IsEmpty v) =
      by_place s v (λ e. refused (is_empty_2 e))
      (λ a e. by_eq (length (list_of R a)) 0 (λ h. accepted (is_emptys e h)) (λ h. accepted (is_not_emptys e (omega arith))))
  outcome s (Held v) = by_place s v (λ e. refused (held_2 e)) (λ a e. accepted (helds e))
  outcome s Free = accepted frees
  outcome s Check = accepted checks

  -- To show something of a step: of every refusal, and of every acceptance.
  pub by_outcome : (s : State T) (c : Call) (P : State T × Answer → Type 0) → ((n : ℕ) → Refuses R s c n → P (s, Refused n))
      → ((t : State T) (a : Answer) → Accepts R s c t a → P (t, a)) → P (step R s c)
  by_outcome s c P f g = go (outcome s c)
    where
      go : Outcome s c → P (step R s c)
      go (refused {n} r) = rw (refuses_step r) (f n r)
      go (accepted {t} {a} r) = rw (accepts_step r) (g t a r)

  -- an accepted call's answer is no refusal
  accepts_not : {s t : State T} {c : Call} {a : Answer} {n : ℕ} → Accepts R s c t a → a ≡ Refused n → ◌≡◌ {A = ℕ} 0 1
  accepts_not (opens h k L o) e = cc
  accepts_not (closes p) e = cc
  accepts_not (pushes p h k) e = cc
  accepts_not (pops p h) e = cc
  accepts_not (gets p h) e = cc
  accepts_not (sets p h) e = cc
  accepts_not (appends p q n h k) e = cc
  accepts_not (lengths p) e = cc
  accepts_not (is_not_emptys p h) e = cc
  accepts_not (is_emptys p h) e = cc
  accepts_not (helds p) e = cc
  accepts_not frees e = cc
  accepts_not checks e = cc

  -- Each number is given exactly under its condition.
  pub numbers : (s : State T) (c : Call) (n : ℕ) → (answer R s c ≡ Refused n) ↔ Refuses R s c n
  unfolding answer
  numbers s c n = (
    by_outcome s c (λ r. r.1 ≡ Refused n → Refuses R s c n) (λ m r e. let z : m ≡ n = cc in rw z at r) (λ t a r e. absurd (let z = accepts_not r e in omega arith)),
    λ r. ap (λ (p : State T × Answer). p.1) (refuses_step r),
  )

  -- A refusal leaves the state as it was.
  pub refusal_leaves : (s : State T) (c : Call) (n : ℕ) → answer R s c ≡ Refused n → next R s c ≡ s
  unfolding next
  refusal_leaves s c n e = ap (λ (p : State T × Answer). p.0) (refuses_step ((numbers s c n).0 e))

  -- Any other call is accepted, with the state and the answer that its line gives.
  pub accepts : (s : State T) (c : Call) → ((n : ℕ) → answer R s c ≡ Refused n → ⊥) → Accepts R s c (next R s c) (answer R s c)
  unfolding next answer
  accepts s c = by_outcome s c (λ r. ((n : ℕ) → r.1 ≡ Refused n → ⊥) → Accepts R s c r.0 r.1) (λ n r h. absurd (h n refl)) (λ t a r h. r)

  -- No call is refused with 7.
  pub never_7 : {s : State T} {c : Call} {n : ℕ} → Refuses R s c n → n ≡ 7 → ⊥
  never_7 (open_9 h) z = omega arith
  never_7 (open_8 h k f) z = omega arith
  never_7 (open_6 h k M o) z = omega arith
  never_7 (close_2 e) z = omega arith
  never_7 (push_2 e) z = omega arith
  never_7 (push_5 e h) z = omega arith
  never_7 (push_6 e h k) z = omega arith
  never_7 (pop_2 e) z = omega arith
  never_7 (pop_4 e h) z = omega arith
  never_7 (get_2 e) z = omega arith
  never_7 (get_4 e h) z = omega arith
  never_7 (set_2 e) z = omega arith
  never_7 (set_4 e h) z = omega arith
  never_7 append_1 z = omega arith
  never_7 (append_2r e) z = omega arith
  never_7 (append_2g e f) z = omega arith
  never_7 (append_3 e) z = omega arith
  never_7 (append_5 e f n h) z = omega arith
  never_7 (append_6 e f n h k) z = omega arith
  never_7 (length_2 e) z = omega arith
  never_7 (is_empty_2 e) z = omega arith
  never_7 (held_2 e) z = omega arith

  -- What an accepted call does and answers is exactly its line's.
  pub accepts_exactly : (s t : State T) (c : Call) (a : Answer) → ((n : ℕ) → a ≡ Refused n → ⊥) → (step R s c ≡ (t, a)) ↔ Accepts R s c t a
  accepts_exactly s t c a h = (
    by_outcome s c (λ r. r ≡ (t, a) → Accepts R s c t a) (λ n r e. absurd (h n (sym (ap (λ (p : State T × Answer). p.1) e))))
        (λ u b r e. let p : u ≡ t = ap (λ (p : State T × Answer). p.0) e in let q : b ≡ a = ap (λ (p : State T × Answer). p.1) e in rw (p, q) at r),
    accepts_step,
  )
