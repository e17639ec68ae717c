-- What every reached state has: P and the table keep their sizes, each open vector is within its limit and its limit within
-- P, and the promised total is within P.
use Rattle.std.specs.Prelude.{ℕ, ◌+◌, ◌/◌, ◌<◌, ◌≤◌, refl, ◌⊎◌, length}
use Rattle.std.proofs.Math.Path.{◌≡◌}
use Rattle.std.proofs.Common.{sym, ◌∙◌, ap}
use Rattle.std.proofs.Math.Option.{some, some-injective}
use Rattle.std.proofs.Math.Logic.{inl, inr}
use native.Mathlib.Omega.{arith}
use Rattle.std.proofs.Math.Decide.{ℕ_discrete}
use borrow.Author.Tests.{lt-ltb, le-ltb}
use Rattle.std.proofs.Math.ListN.{length-set}
use Rattle.std.proofs.lemmas.List.{length-replicate}
use Rattle.lists.specs.Sums.{sum-set, sum_le, sum-replicate}
use Rattle.machine.specs.Sizes.{most_blocks, most_heads}
use Rattle.machine.specs.Machine.{Rules, Head, Place, closed, opened, State, Answer, Done, Refused, Call, lowest_closed, place_at, put, holding}
use Rattle.machine.specs.Machine.{list_of, held_of, share_at, held_at, promised, all_held, free, fresh, pushed, popped, changed, joined, emptied}
use Rattle.machine.specs.Machine.{after_open, after_push, after_append, next, ready, make_ready, Reached, made, called}
use Rattle.machine.specs.Numbers.{OpenAt, Accepts}
use Rattle.machine.specs.Numbers.{opens, closes, pushes, pops, gets, sets, appends, lengths, is_emptys, is_not_emptys, helds, frees, checks}
use Rattle.machine.proofs.Exact.{by_outcome, by_lt, lowest_is}
use Rattle.machine.specs.Laws.{Laws}
use Rattle.machine.proofs.Tables.{at_put, at_put_other, inside, all_closed}

module _ {T : Type 0} (R : Rules T) where
  -- Making ready answers 1 exactly when P or the table is too large; otherwise all is closed and free.
  pub made_or_1 : (words heads : ℕ)
      → (((most_blocks < words / R.block) ⊎ (most_heads < heads)) × ((make_ready R words heads).1 ≡ Refused 1))
      ⊎ ((words / R.block ≤ most_blocks) × (heads ≤ most_heads) × (make_ready R words heads ≡ (some (ready R words heads), Done)))
  unfolding make_ready
  made_or_1 words heads =
      by_lt most_blocks (words / R.block) (λ h. inl (inl h, rw (lt-ltb most_blocks (words / R.block) h)))
      (λ h. by_lt most_heads heads (λ k. inl (inr k, rw (le-ltb most_blocks (words / R.block) h, lt-ltb most_heads heads k)))
      (λ k. inr (h, k, rw (le-ltb most_blocks (words / R.block) h, le-ltb most_heads heads k))))

  -- what is made
  pub made_is : (s : State T) (words heads : ℕ) → make_ready R words heads ≡ (some s, Done)
      → (s ≡ ready R words heads) × (words / R.block ≤ most_blocks) × (heads ≤ most_heads)
  made_is s words heads e = go (made_or_1 words heads)
    where
      go : (((most_blocks < words / R.block) ⊎ (most_heads < heads)) × ((make_ready R words heads).1 ≡ Refused 1))
          ⊎ ((words / R.block ≤ most_blocks) × (heads ≤ most_heads) × (make_ready R words heads ≡ (some (ready R words heads), Done)))
          → (s ≡ ready R words heads) × (words / R.block ≤ most_blocks) × (heads ≤ most_heads)
      go (inl (d, f)) = absurd (let g : (make_ready R words heads).1 ≡ Done = ap (λ p. p.1) e in let z : ◌≡◌ {A = ℕ} 0 1 = cc in omega arith)
      go (inr (h, k, f)) = (some-injective _ _ (ap (λ p. p.0) (sym e ∙ f)), h, k)

  -- P and the number of places stay.
  abbrev pub Sized : State T → State T → Type 0
  Sized s t = (t.blocks ≡ s.blocks) × (length t.table ≡ length s.table)

  sized_put : (s : State T) (v : ℕ) (p : Place T) → Sized s (put s v p)
  unfolding put
  sized_put s v p = (refl, length-set s.table v p)

  sized_accepts : {s t : State T} {c : Call} {a : Answer} → Accepts R s c t a → Sized s t
  unfolding after_open after_push after_append
  sized_accepts {s} (opens {e} {l} h k M o) = sized_put s (lowest_closed s.table) (opened (fresh R e l))
  sized_accepts {s} (closes {v} e) = sized_put s v closed
  sized_accepts {s} (pushes {v} {x} {a} e h k) = sized_put s v (opened (pushed R a x))
  sized_accepts {s} (pops {v} {a} e h) = sized_put s v (opened (popped R a))
  sized_accepts (gets e h) = (refl, refl)
  sized_accepts {s} (sets {v} {i} {x} {a} e h) = sized_put s v (opened (changed R a i x))
  sized_accepts {s} (appends {r} {g} {a} {b} e f n h k) =
      let (p, q) = sized_put s r (opened (joined R a b)) in
      let (u, w) = sized_put (put s r (opened (joined R a b))) g (opened (emptied R b)) in
      (u ∙ p, w ∙ q)
  sized_accepts (lengths e) = (refl, refl)
  sized_accepts (is_not_emptys e h) = (refl, refl)
  sized_accepts (is_emptys e h) = (refl, refl)
  sized_accepts (helds e) = (refl, refl)
  sized_accepts frees = (refl, refl)
  sized_accepts checks = (refl, refl)

  sized_next : (s : State T) (c : Call) → Sized s (next R s c)
  unfolding next
  sized_next s c = by_outcome R s c (λ r. Sized s r.0) (λ n r. (refl, refl)) (λ t a r. sized_accepts r)

  pub few : {s : State T} → Reached R s → (s.blocks ≤ most_blocks) × (length s.table ≤ most_heads)
  unfolding ready
  few (made s words heads e) =
      let (q, h, k) = made_is s words heads e in
      rw q (h, rw (length-replicate {A = Place T} heads closed) k)
  few (called {s} c w r) = let h = few r in let k = sized_next s c in omega arith

module _ {T : Type 0} (R : Rules T) (Good : T → Type 0) where
  -- One open vector: what its rules make, within its limit; "reserve > limit, or limit > P" is refused.
  pub record Fine (P : ℕ) (a : Head T) : Type 0 where
    pub good : Good a.contents
    pub held_limit : held_of R a ≤ a.limit
    pub reserve_limit : a.reserve ≤ a.limit
    pub limit_blocks : a.limit ≤ P

  -- The invariant.
  pub record Sound (s : State T) : Type 0 where
    pub fine : (v : ℕ) (a : Head T) → OpenAt s v a → Fine s.blocks a
    pub promise : promised R s ≤ s.blocks

module _ {T : Type 0} (R : Rules T) (Good : T → Type 0) (L : Laws R Good) where
  -- Free blocks plus all held = P.
  pub free-held : (s : State T) → Sound R Good s → free R s + all_held R s ≡ s.blocks
  unfolding free promised all_held held_at share_at
  free-held s I = let h = sum_le (held_at R) (share_at R) le s.table in let k = I.promise in omega arith
    where
      le : (p : Place T) → held_at R p ≤ share_at R p
      le closed = omega arith
      le (opened a) = omega arith

  -- A put changes the promised total by the share of its place; one no larger keeps the promise.
  promised-put : (s : State T) (v : ℕ) (p : Place T) → v < length s.table → promised R (put s v p) + share_at R (place_at s v) ≡ promised R s + share_at R p
  unfolding promised put place_at
  promised-put s v p h = sum-set (share_at R) closed s.table v p h

  pub promise_put : (s : State T) (v : ℕ) (a : Head T) (p : Place T) → OpenAt s v a → share_at R p ≤ share_at R (opened a) → promised R (put s v p) ≤ promised R s
  promise_put s v a p e h = let k = rw e at (promised-put s v p (inside s v e)) in omega arith

  -- A put of a fine vector, or of none, keeps all vectors fine.
  abbrev FinePlace : ℕ → Place T → Type 0
  FinePlace P closed = Unit {0}
  FinePlace P (opened a) = Fine R Good P a

  fine_put : (s : State T) (v : ℕ) (p : Place T) → v < length s.table → ((w : ℕ) (b : Head T) → OpenAt s w b → Fine R Good s.blocks b) → FinePlace s.blocks p
      → (w : ℕ) (b : Head T) → OpenAt (put s v p) w b → Fine R Good s.blocks b
  fine_put s v p h I F w b e = go (ℕ_discrete w v)
    where
      go : Dec (w ≡ v) → Fine R Good s.blocks b
      go (yes d) = let f : p ≡ opened b = sym (at_put s v p h) ∙ ap (place_at (put s v p)) (sym d) ∙ e in rw f at F
      go (no d) = I w b (sym (at_put_other s v w p d) ∙ e)

  fine_changed : (P i x : ℕ) (a : Head T) → Fine R Good P a → i < length (list_of R a) → Fine R Good P (changed R a i x)
  unfolding changed holding held_of list_of
  fine_changed P i x a F h = record {
    good = L.good_set a.contents i x F.good h;
    held_limit = omega (arith, L.held-set a.contents i x F.good h, F.held_limit);
    reserve_limit = F.reserve_limit;
    limit_blocks = F.limit_blocks;
  }

  fine_popped : (P : ℕ) (a : Head T) → Fine R Good P a → 0 < length (list_of R a) → Fine R Good P (popped R a)
  unfolding popped holding held_of list_of
  fine_popped P a F h = record {
    good = L.good_pop a.contents F.good h;
    held_limit = omega (arith, L.held-pop a.contents F.good h, F.held_limit);
    reserve_limit = F.reserve_limit;
    limit_blocks = F.limit_blocks;
  }

  share_popped : (a : Head T) → Good a.contents → 0 < length (list_of R a) → share_at R (opened (popped R a)) ≤ share_at R (opened a)
  unfolding popped holding held_of list_of share_at
  share_popped a F h = omega (arith, L.held-pop a.contents F h)

  share_changed : (a : Head T) (i x : ℕ) → Good a.contents → i < length (list_of R a) → share_at R (opened (changed R a i x)) ≤ share_at R (opened a)
  unfolding changed holding held_of list_of share_at
  share_changed a i x F h = omega (arith, L.held-set a.contents i x F h)

  share_closed : (a : Head T) → share_at R closed ≤ share_at R (opened a)
  unfolding share_at
  share_closed a = omega arith

  -- Every call keeps the invariant.
  sound_accepts : {s t : State T} {c : Call} {a : Answer} → Accepts R s c t a → Sound R Good s → Sound R Good t
  unfolding after_open after_push after_append fresh pushed joined emptied holding held_of put
  sound_accepts {s} (opens {e} {l} {v} h k M o) I = record {
    fine = fine_put s (lowest_closed s.table) (opened (fresh R e l)) (omega (arith, M.inside, lowest_is s.table v M)) I.fine
        (record { good = L.good_empty; held_limit = omega (arith, L.held_empty); reserve_limit = h; limit_blocks = k });
    promise = o;
  }
  sound_accepts {s} (closes {v} {a} e) I = record {
    fine = fine_put s v closed (inside s v e) I.fine tt;
    promise = omega (arith, promise_put s v a closed e (share_closed a), I.promise);
  }
  sound_accepts {s} (pushes {v} {x} {a} e h k) I =
      let F = I.fine v a e in
      record {
        fine = fine_put s v (opened (pushed R a x)) (inside s v e) I.fine
            (record { good = L.good_push a.contents x F.good; held_limit = h; reserve_limit = F.reserve_limit; limit_blocks = F.limit_blocks });
        promise = k;
      }
  sound_accepts {s} (pops {v} {a} e h) I =
      let F = I.fine v a e in
      record {
        fine = fine_put s v (opened (popped R a)) (inside s v e) I.fine (fine_popped s.blocks a F h);
        promise = omega (arith, promise_put s v a (opened (popped R a)) e (share_popped a F.good h), I.promise);
      }
  sound_accepts (gets e h) I = I
  sound_accepts {s} (sets {v} {i} {x} {a} e h) I =
      let F = I.fine v a e in
      record {
        fine = fine_put s v (opened (changed R a i x)) (inside s v e) I.fine (fine_changed s.blocks i x a F h);
        promise = omega (arith, promise_put s v a (opened (changed R a i x)) e (share_changed a i x F.good h), I.promise);
      }
  sound_accepts {s} (appends {r} {g} {a} {b} e f n h k) I =
      let F = I.fine r a e in
      let G = I.fine g b f in
      record {
        fine = fine_put (put s r (opened (joined R a b))) g (opened (emptied R b)) (rw (length-set s.table r (opened (joined R a b))) (inside s g f))
            (fine_put s r (opened (joined R a b)) (inside s r e) I.fine
            (record { good = L.good_join a.contents b.contents F.good G.good; held_limit = h; reserve_limit = F.reserve_limit; limit_blocks = F.limit_blocks }))
            (record { good = L.good_empty; held_limit = omega (arith, L.held_empty); reserve_limit = G.reserve_limit; limit_blocks = G.limit_blocks });
        promise = k;
      }
  sound_accepts (lengths e) I = I
  sound_accepts (is_not_emptys e h) I = I
  sound_accepts (is_emptys e h) I = I
  sound_accepts (helds e) I = I
  sound_accepts frees I = I
  sound_accepts checks I = I

  sound_ready : (words heads : ℕ) → Sound R Good (ready R words heads)
  unfolding ready place_at promised share_at
  sound_ready words heads = record {
    fine = λ v a e. absurd (let f = all_closed {T = T} heads v in let z : ◌≡◌ {A = ℕ} 0 1 = cc in omega arith);
    promise = let e = sum-replicate (share_at R) heads closed in omega arith;
  }

  pub sound_next : (s : State T) (c : Call) → Sound R Good s → Sound R Good (next R s c)
  unfolding next
  sound_next s c I = by_outcome R s c (λ r. Sound R Good r.0) (λ n r. I) (λ t a r. sound_accepts r I)

  pub sound : {s : State T} → Reached R s → Sound R Good s
  sound (made s words heads e) = rw (made_is R s words heads e).0 (sound_ready words heads)
  sound (called {s} c w r) = sound_next s c (sound r)
