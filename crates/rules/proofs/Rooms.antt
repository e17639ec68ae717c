-- Where the search for room ends: at height 1 by the count, above it further down or else here.
use Prim.Native.Nat.{ℕ, zero, suc, ◌^◌, ◌<◌, ◌≤◌}
use Rattle.std.proofs.Math.Path.{◌≡◌, refl}
use Rattle.std.proofs.Common.{sym, ◌∙◌, true≢false}
use Rattle.std.specs.Prelude.{Bool}
use Rattle.std.proofs.Math.Bool.{true, false, cond}
use Rattle.std.proofs.lemmas.Bool.{false≢true}
use Rattle.std.proofs.Math.Option.{Option, none, some, some-ne-none, none-ne-some, some-injective}
use native.Mathlib.Omega.{arith}
use borrow.Author.Tests.{ltb-true, ltb-false}
use Rattle.std.proofs.Math.Dec.{ltb}
use Rattle.rules.specs.Trees.{Tree, count, size, last_kid}
use Rattle.rules.specs.Rules.{deepest, room}

abbrev pub Between : ℕ → Option ℕ → Type 0
Between h none = Unit {0}
Between h (some k) = (1 ≤ k) × (k ≤ h)

module _ (S : ℕ) where
  -- At height 1.
  pub room_one : (t : Tree 1) (k : ℕ) → room S 1 t ≡ some k → (k ≡ 1) × (count 1 t < S)
  unfolding room
  room_one t k e = go (ltb (count 1 t) S) refl e
    where
      go : (b : Bool) → ltb (count 1 t) S ≡ b → cond b (some 1) none ≡ some k → (k ≡ 1) × (count 1 t < S)
      go true l z = (sym (some-injective 1 k z), ltb-true _ _ l)
      go false l z = absurd (none-ne-some k z)

  pub no_room_one : (t : Tree 1) → room S 1 t ≡ none → S ≤ count 1 t
  unfolding room
  no_room_one t e = go (ltb (count 1 t) S) refl e
    where
      go : (b : Bool) → ltb (count 1 t) S ≡ b → ◌≡◌ {A = Option ℕ} (cond b (some 1) none) none → S ≤ count 1 t
      go true l z = absurd (some-ne-none 1 z)
      go false l z = ltb-false _ _ l

  -- Above it: a Branch has room by its size, a RelaxedBranch by its count.
  pub data Room (h : ℕ) (t : Tree (suc (suc h))) : ℕ → Type 0 where
    further : {k : ℕ} → room S (suc h) (last_kid (suc h) t) ≡ some k → Room h t k
    here : room S (suc h) (last_kid (suc h) t) ≡ none → (t.0 ≡ true → count (suc (suc h)) t < S) → (t.0 ≡ false → size (suc (suc h)) t < S ^ suc (suc (suc h)))
        → Room h t (suc (suc h))

  pub record NoRoom (h : ℕ) (t : Tree (suc (suc h))) : Type 0 where
    pub loose : t.0 ≡ true → (room S (suc h) (last_kid (suc h) t) ≡ none) × (S ≤ count (suc (suc h)) t)
    pub dense : t.0 ≡ false → S ^ suc (suc (suc h)) ≤ size (suc (suc h)) t

  pub room_view : (h : ℕ) (t : Tree (suc (suc h))) (k : ℕ) → room S (suc (suc h)) t ≡ some k → Room h t k
  unfolding room
  room_view h t k e = go t.0 refl (room S (suc h) (last_kid (suc h) t)) refl (ltb (count (suc (suc h)) t) S) refl (ltb (size (suc (suc h)) t) (S ^ suc (suc (suc h)))) refl e
    where
      at : {j : ℕ} → some j ≡ some k → Room h t j → Room h t k
      at {j} z r = rw (some-injective j k z) at r

      go : (r : Bool) → t.0 ≡ r → (o : Option ℕ) → room S (suc h) (last_kid (suc h) t) ≡ o
          → (b : Bool) → ltb (count (suc (suc h)) t) S ≡ b → (c : Bool) → ltb (size (suc (suc h)) t) (S ^ suc (suc (suc h))) ≡ c
          → cond r (deepest o (cond b (some (suc (suc h))) none)) (cond c (deepest o (some (suc (suc h)))) none) ≡ some k → Room h t k
      go true f (some j) q b l c w z = at z (further q)
      go true f none q true l c w z = at z (here q (λ g. ltb-true _ _ l) (λ g. absurd (true≢false (sym f ∙ g))))
      go true f none q false l c w z = absurd (none-ne-some k z)
      go false f (some j) q b l true w z = at z (further q)
      go false f none q b l true w z = at z (here q (λ g. absurd (false≢true (sym f ∙ g))) (λ g. ltb-true _ _ w))
      go false f o q b l false w z = absurd (none-ne-some k z)

  pub no_room_view : (h : ℕ) (t : Tree (suc (suc h))) → room S (suc (suc h)) t ≡ none → NoRoom h t
  unfolding room
  no_room_view h t e = go t.0 refl (room S (suc h) (last_kid (suc h) t)) refl (ltb (count (suc (suc h)) t) S) refl (ltb (size (suc (suc h)) t) (S ^ suc (suc (suc h)))) refl e
    where
      go : (r : Bool) → t.0 ≡ r → (o : Option ℕ) → room S (suc h) (last_kid (suc h) t) ≡ o
          → (b : Bool) → ltb (count (suc (suc h)) t) S ≡ b → (c : Bool) → ltb (size (suc (suc h)) t) (S ^ suc (suc (suc h))) ≡ c
          → cond r (deepest o (cond b (some (suc (suc h))) none)) (cond c (deepest o (some (suc (suc h)))) none) ≡ none → NoRoom h t
      go true f (some j) q b l c w z = absurd (some-ne-none j z)
      go true f none q true l c w z = absurd (some-ne-none (suc (suc h)) z)
      go true f none q false l c w z = record { loose = λ g. (q, ltb-false _ _ l); dense = λ g. absurd (true≢false (sym f ∙ g)) }
      go false f (some j) q b l true w z = absurd (some-ne-none j z)
      go false f none q b l true w z = absurd (some-ne-none (suc (suc h)) z)
      go false f o q b l false w z = record { loose = λ g. absurd (false≢true (sym f ∙ g)); dense = λ g. ltb-false _ _ w }

  -- The room found is the height of a node of the tree, above the leaves.
  pub room_between : (h : ℕ) (t : Tree h) (k : ℕ) → room S h t ≡ some k → (1 ≤ k) × (k ≤ h)
  unfolding room
  room_between zero t k e = absurd (none-ne-some k e)
  room_between (suc zero) t k e = let r = room_one t k e in (omega arith, omega arith)
  room_between (suc (suc h)) t k e = go (room_view h t k e) (room_between (suc h) (last_kid (suc h) t))
    where
      go : {k : ℕ} → Room h t k → ((j : ℕ) → room S (suc h) (last_kid (suc h) t) ≡ some j → (1 ≤ j) × (j ≤ suc h)) → (1 ≤ k) × (k ≤ suc (suc h))
      go {k} (further q) ih = let i = ih k q in (omega arith, omega arith)
      go (here q a b) ih = (omega arith, omega arith)

  pub room_in : (h : ℕ) (t : Tree h) → Between h (room S h t)
  room_in h t = go (room S h t) refl
    where
      go : (o : Option ℕ) → room S h t ≡ o → Between h o
      go none e = tt
      go (some k) e = room_between h t k e
