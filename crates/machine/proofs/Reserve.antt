-- The reserve clause, and the append of an empty giver: calls that shares cannot refuse.
use Rattle.std.specs.Prelude.{ℕ, ◌<◌, ◌≤◌, [], Bool, true, ◌⊎◌}
use Rattle.std.proofs.Math.Path.{◌≡◌, ap}
use Rattle.std.proofs.Common.{sym, ◌∙◌, inl, inr}
use native.Mathlib.Omega.{arith}
use Rattle.machine.specs.Machine.{Rules, Head, opened, State, Done, Refused, Call, Push, Append, put, holding}
use Rattle.machine.specs.Machine.{list_of, held_of, share_at, promised, pushed, joined, emptied, after_push, after_append, step, answer}
use Rattle.machine.specs.Numbers.{OpenAt, Refuses, push_2, push_5, push_6, append_1, append_2r, append_2g, append_3, append_5, append_6, appends}
use Rattle.machine.proofs.Exact.{numbers, accepts_step}
use Rattle.machine.specs.Laws.{Laws}
use Rattle.machine.proofs.Tables.{at_put_other, put_self}
use Rattle.machine.proofs.Sound.{Sound, promise_put}
use Rattle.machine.specs.Reserve.{Within, push_within, append_within}

module _ {T : Type 0} (R : Rules T) where
  -- within its reserve a vector's share does not grow
  share_within : (a : Head T) (c : T) → held_of R (holding a c) ≤ a.reserve → share_at R (opened (holding a c)) ≤ share_at R (opened a)
  unfolding share_at held_of holding
  share_within a c h = omega arith

module _ {T : Type 0} (R : Rules T) (Good : T → Type 0) (L : Laws R Good) where
  share_emptied : (b : Head T) → share_at R (opened (emptied R b)) ≤ share_at R (opened b)
  unfolding share_at emptied holding held_of
  share_emptied b = omega (arith, L.held_empty)

  append_promise : (s : State T) (r g : ℕ) (a b : Head T) → OpenAt s r a → OpenAt s g b → (r ≡ g → ⊥) → share_at R (opened (joined R a b)) ≤ share_at R (opened a)
      → promised R (after_append R s r g a b) ≤ promised R s
  unfolding after_append
  append_promise s r g a b e f n h =
      let s' = put s r (opened (joined R a b)) in
      let f' : OpenAt s' g b = at_put_other s r g (opened (joined R a b)) (λ z. n (sym z)) ∙ f in
      omega (arith, promise_put R Good L s' g b (opened (emptied R b)) f' (share_emptied b), promise_put R Good L s r a (opened (joined R a b)) e h)

  -- "is never refused with 5 or 6"
  push_never : (s : State T) (v x n : ℕ) (a : Head T) → Sound R Good s → OpenAt s v a → held_of R (pushed R a x) ≤ a.reserve → (n ≡ 5) ⊎ (n ≡ 6) → Refuses R s (Push v x) n → ⊥
  unfolding pushed after_push
  push_never s v x n a I e h d (push_2 f) = absurd (let z : ◌≡◌ {A = ℕ} 0 1 = cc in omega arith)
  push_never s v x n a I e h d (push_5 {a = b} f k) =
      let q : b ≡ a = cc in
      let k' : a.limit < held_of R (pushed R a x) = rw q at k in
      omega (arith, (I.fine v a e).reserve_limit)
  push_never s v x n a I e h d (push_6 {a = b} f l k) =
      let q : b ≡ a = cc in
      let k' : s.blocks < promised R (put s v (opened (pushed R a x))) = rw q at k in
      omega (arith, promise_put R Good L s v a (opened (pushed R a x)) e (share_within R a (R.push a.contents x) h), I.promise)

  append_never : (s : State T) (area : Bool) (r g n : ℕ) (a b : Head T) → Sound R Good s → OpenAt s r a → OpenAt s g b → held_of R (joined R a b) ≤ a.reserve → (n ≡ 5) ⊎ (n ≡ 6)
      → Refuses R s (Append area r g) n → ⊥
  unfolding joined
  append_never s area r g n a b I e f h (inl d) append_1 = omega arith
  append_never s area r g n a b I e f h (inr d) append_1 = omega arith
  append_never s area r g n a b I e f h d (append_2r k) = absurd (let z : ◌≡◌ {A = ℕ} 0 1 = cc in omega arith)
  append_never s area r g n a b I e f h d (append_2g k l) = absurd (let z : ◌≡◌ {A = ℕ} 0 1 = cc in omega arith)
  append_never s area r g n a b I e f h (inl d) (append_3 k) = omega arith
  append_never s area r g n a b I e f h (inr d) (append_3 k) = omega arith
  append_never s area r g n a b I e f h d (append_5 {a = a'} {b = b'} e' f' m k) =
      let p : a' ≡ a = cc in
      let q : b' ≡ b = cc in
      let k' : a.limit < held_of R (joined R a b) = rw (p, q) at k in
      omega (arith, (I.fine r a e).reserve_limit)
  append_never s area r g n a b I e f h d (append_6 {a = a'} {b = b'} e' f' m l k) =
      let p : a' ≡ a = cc in
      let q : b' ≡ b = cc in
      let k' : s.blocks < promised R (after_append R s r g a b) = rw (p, q) at k in
      omega (arith, append_promise s r g a b e f m (share_within R a (R.join a.contents b.contents) h), I.promise)

  pub reserve_clause : (s : State T) (c : Call) (n : ℕ) → Sound R Good s → Within R s c → (n ≡ 5) ⊎ (n ≡ 6) → answer R s c ≡ Refused n → ⊥
  reserve_clause s c n I (push_within {v} {x} {a} e h) d q = push_never s v x n a I e h d ((numbers R s c n).0 q)
  reserve_clause s c n I (append_within {area} {r} {g} {a} {b} e f h) d q = append_never s area r g n a b I e f h d ((numbers R s c n).0 q)

  -- "Giver empty: nothing." The append is accepted, whatever limits and shares are, and nothing changes.
  pub append_empty_giver : (s : State T) (r g : ℕ) (a b : Head T) → Sound R Good s → OpenAt s r a → OpenAt s g b → (r ≡ g → ⊥) → list_of R b ≡ []
      → step R s (Append true r g) ≡ (s, Done)
  unfolding joined emptied holding list_of after_append
  append_empty_giver s r g a b I e f n h =
      let F = I.fine r a e in
      let G = I.fine g b f in
      let z = L.only_empty b.contents G.good h in
      let j : joined R a b ≡ a = rw (z, L.join_empty a.contents F.good) in
      let y : emptied R b ≡ b = rw (← z) in
      let k : held_of R (joined R a b) ≤ a.limit = rw j F.held_limit in
      let o : promised R (after_append R s r g a b) ≤ s.blocks = omega (arith, append_promise s r g a b e f n (rw j (omega arith)), I.promise) in
      let t : after_append R s r g a b ≡ s = rw (j, y, put_self s r (opened a) e) (put_self s g (opened b) f) in
      accepts_step R (appends e f n k o) ∙ ap (λ (u : State T). (u, Done)) t
