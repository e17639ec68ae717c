-- What an accepted call makes of the contents is what the vector's rules give, and so each vector is a plain list.
use Rattle.std.specs.Prelude.{ℕ, ◌<◌, ◌≡◌, length, get_or}
use Rattle.std.proofs.Math.Path.{refl, sym, ap}
use Rattle.std.proofs.Common.{◌∙◌, arith}
use mathlib.Core.List.{[]}
use Rattle.std.proofs.Math.Decide.{ℕ_discrete}
use borrow.Author.Tests.{eq-eqb, ne_eqb}
use Rattle.machine.specs.Machine.{Rules, Head, Place, closed, opened, State, Answer, Refused, lowest_closed, place_at, put, holding}
use Rattle.machine.specs.Machine.{Call}
use Rattle.machine.specs.Machine.{list_of, fresh, pushed, popped, changed, joined, emptied, after_open, after_push, after_append, next, answer, Reached}
use Rattle.machine.specs.Numbers.{OpenAt, Accepts}
use Rattle.machine.specs.Numbers.{opens, closes, pushes, pops, gets, sets, appends, lengths, is_emptys, is_not_emptys, helds, frees, checks}
use Rattle.machine.proofs.Exact.{accepts, lowest_is}
use Rattle.machine.specs.Laws.{Laws}
use Rattle.machine.proofs.Tables.{at_put, at_put_other, inside}
use Rattle.machine.proofs.Sound.{Sound, sound}
use Rattle.machine.specs.Updates.{update}
use Rattle.machine.proofs.Updates.{update_same, update_other, update_self, update_ext, update-map}
use Rattle.machine.specs.Contents.{plain, Told, contents_in, contents_at, list_at, ruled}

module _ {T : Type 0} (R : Rules T) where
  contents_is : (s : State T) (v : ℕ) (a : Head T) → OpenAt s v a → contents_at R s v ≡ a.contents
  unfolding contents_at contents_in
  contents_is s v a e = rw e

  pub list_is : (s : State T) (v : ℕ) (a : Head T) → OpenAt s v a → list_at R s v ≡ list_of R a
  unfolding list_at list_of
  list_is s v a e = ap R.list (contents_is s v a e)

  contents_put : (s : State T) (v : ℕ) (p : Place T) (w : ℕ) → v < length s.table → contents_at R (put s v p) w ≡ update (contents_at R s) v (contents_in R p) w
  unfolding contents_at
  contents_put s v p w h = go (ℕ_discrete w v)
    where
      go : Dec (w ≡ v) → contents_in R (place_at (put s v p) w) ≡ update (λ u. contents_in R (place_at s u)) v (contents_in R p) w
      go (yes d) = ap (contents_in R) (rw d (at_put s v p h)) ∙ sym (update_same (λ u. contents_in R (place_at s u)) v (contents_in R p) w d)
      go (no d) = ap (contents_in R) (at_put_other s v w p d) ∙ sym (update_other (λ u. contents_in R (place_at s u)) v (contents_in R p) w d)

  put_contents : (s : State T) (v : ℕ) (a b : Head T) (c : T) (w : ℕ) → OpenAt s v a → b.contents ≡ c → contents_at R (put s v (opened b)) w ≡ update (contents_at R s) v c w
  unfolding contents_in
  put_contents s v a b c w e h = contents_put s v (opened b) w (inside s v e) ∙ ap (λ (l : T). update (contents_at R s) v l w) h

  contents_none : (s : State T) (v : ℕ) → get_or s.table v closed ≡ closed → contents_at R s v ≡ R.empty
  unfolding contents_at contents_in place_at
  contents_none s v e = rw e

  made_by_rules : {s t : State T} {c : Call} {a : Answer} → Accepts R s c t a → (w : ℕ) → contents_at R t w ≡ ruled R c (contents_at R s) w
  unfolding ruled contents_in after_open after_push after_append fresh pushed popped changed joined emptied holding
  made_by_rules {s} (opens {e} {l} {v} h k M o) w =
      let low = lowest_is s.table v M in
      let z : contents_at R s (lowest_closed s.table) ≡ R.empty = rw low (contents_none s v M.shut) in
      contents_put s (lowest_closed s.table) (opened (fresh R e l)) w (omega (arith, M.inside))
      ∙ ap (λ (c : T). update (contents_at R s) (lowest_closed s.table) c w) (sym z)
      ∙ update_self (contents_at R s) (lowest_closed s.table) w
  made_by_rules {s} (closes {v} {a} e) w = contents_put s v closed w (inside s v e)
  made_by_rules {s} (pushes {v} {x} {a} e h k) w = put_contents s v a (pushed R a x) _ w e (rw (contents_is s v a e))
  made_by_rules {s} (pops {v} {a} e h) w = put_contents s v a (popped R a) _ w e (rw (contents_is s v a e))
  made_by_rules (gets e h) w = refl
  made_by_rules {s} (sets {v} {i} {x} {a} e h) w = put_contents s v a (changed R a i x) _ w e (rw (contents_is s v a e))
  made_by_rules {s} (appends {r} {g} {a} {b} e f n h k) w =
      let s' = put s r (opened (joined R a b)) in
      let f' : OpenAt s' g b = at_put_other s r g (opened (joined R a b)) (λ z. n (sym z)) ∙ f in
      put_contents s' g b (emptied R b) R.empty w f' refl
      ∙ update_ext (contents_at R s') (update (contents_at R s) r (R.join (contents_at R s r) (contents_at R s g))) g R.empty w
      (put_contents s r a (joined R a b) _ w e (rw (contents_is s r a e, contents_is s g b f)))
  made_by_rules (lengths e) w = refl
  made_by_rules (is_not_emptys e h) w = refl
  made_by_rules (is_emptys e h) w = refl
  made_by_rules (helds e) w = refl
  made_by_rules frees w = refl
  made_by_rules checks w = refl

  -- An accepted call's vectors have the contents that the rules give, and all others keep theirs.
  pub by_rules : (s : State T) (c : Call) → ((n : ℕ) → answer R s c ≡ Refused n → ⊥) → (w : ℕ) → contents_at R (next R s c) w ≡ ruled R c (contents_at R s) w
  by_rules s c h = made_by_rules (accepts R s c h)

  told : {s t : State T} {c : Call} {a : Answer} → Accepts R s c t a → Told c (list_at R s) a
  unfolding Told
  told (opens h k M o) = tt
  told (closes e) = refl
  told (pushes e h k) = refl
  told {s} (pops {v} {a} e h) = rw (list_is s v a e)
  told {s} (gets {v} {i} {a} e h) = rw (list_is s v a e)
  told (sets e h) = refl
  told (appends e f n h k) = refl
  told {s} (lengths {v} {a} e) = rw (list_is s v a e)
  told {s} (is_not_emptys {v} {a} e h) = rw (list_is s v a e, ne_eqb (length (list_of R a)) 0 (λ z. omega arith))
  told {s} (is_emptys {v} {a} e h) = rw (list_is s v a e, eq-eqb (length (list_of R a)) 0 h)
  told (helds e) = tt
  told frees = tt
  told checks = refl

module _ {T : Type 0} (R : Rules T) (Good : T → Type 0) (L : Laws R Good) where
  good_at : (s : State T) → Sound R Good s → (v : ℕ) → Good (contents_at R s v)
  unfolding contents_at contents_in
  good_at s I v = go (place_at s v) refl
    where
      go : (p : Place T) → place_at s v ≡ p → Good (contents_in R p)
      go closed e = L.good_empty
      go (opened a) e = (I.fine v a e).good

  -- The rules are the plain operations on the lists.
  lists : {s t : State T} {c : Call} {a : Answer} → Sound R Good s → Accepts R s c t a → (w : ℕ) → R.list (ruled R c (contents_at R s) w) ≡ plain c (list_at R s) w
  unfolding ruled plain list_at
  lists I (opens h k M o) w = refl
  lists {s} I (closes {v} e) w = update-map R.list (contents_at R s) v R.empty w ∙ rw L.list_empty
  lists {s} I (pushes {v} {x} e h k) w = update-map R.list (contents_at R s) v _ w ∙ rw (L.list_push (contents_at R s v) x (good_at s I v))
  lists {s} I (pops {v} {a} e h) w =
      update-map R.list (contents_at R s) v _ w ∙ rw (L.list_pop (contents_at R s v) (good_at s I v) (rw (list_is R s v a e) h))
  lists I (gets e h) w = refl
  lists {s} I (sets {v} {i} {x} {a} e h) w =
      update-map R.list (contents_at R s) v _ w ∙ rw (L.list_set (contents_at R s v) i x (good_at s I v) (rw (list_is R s v a e) h))
  lists {s} I (appends {r} {g} {a} {b} e f n h k) w =
      update-map R.list (update (contents_at R s) r (R.join (contents_at R s r) (contents_at R s g))) g R.empty w
      ∙ rw L.list_empty
      (update_ext _ _ g [] w
      (update-map R.list (contents_at R s) r _ w ∙ rw (L.list_join (contents_at R s r) (contents_at R s g) (good_at s I r) (good_at s I g))))
  lists I (lengths e) w = refl
  lists I (is_not_emptys e h) w = refl
  lists I (is_emptys e h) w = refl
  lists I (helds e) w = refl
  lists I frees w = refl
  lists I checks w = refl

  -- An accepted call is the plain operation on its own list, leaves the others, and answers by them.
  pub accepted_lists : {s t : State T} {c : Call} {a : Answer} → Sound R Good s → Accepts R s c t a → (w : ℕ) → list_at R t w ≡ plain c (list_at R s) w
  unfolding list_at
  accepted_lists I A w = ap R.list (made_by_rules R A w) ∙ lists I A w

  pub plain_lists : (s : State T) (c : Call) → Reached R s → ((n : ℕ) → answer R s c ≡ Refused n → ⊥)
      → ((w : ℕ) → list_at R (next R s c) w ≡ plain c (list_at R s) w) × Told c (list_at R s) (answer R s c)
  plain_lists s c r h = let A = accepts R s c h in (accepted_lists (sound R Good L r) A, told R A)
