-- Packing the nodes beside the way first and putting the slots from below in afterwards gives what the rules give.
use Prim.Native.Nat.{ℕ, suc, ◌+◌, ◌-◌, ◌*◌, ◌/◌, ◌%◌, ◌<◌}
use Rattle.std.specs.Prelude.{◌≡◌, Bool, length, take, drop}
use Rattle.std.proofs.Math.Path.{refl, sym, ap}
use Rattle.std.proofs.Common.{◌∙◌, mod-eq_of_lt, length-append}
use mathlib.Core.List.{List, [], ◌∷◌, ◌++◌, append_assoc, append-nil}
use Rattle.std.proofs.Math.Bool.{true, false, cond}
use native.Mathlib.Omega.{arith}
use Rattle.std.proofs.Math.Nat.{div-eq_of_lt, add-div_left, add-mod_left, zero-mod}
use Rattle.std.proofs.Math.Numerals.{add-one}
use Rattle.std.proofs.Math.Decide.{ℕ_discrete}
use borrow.Author.Tests.{eq-eqb, ne_eqb, eqb-true}
use Rattle.std.proofs.Math.Dec.{eqb}
use Rattle.std.proofs.Math.Seq.{take-append_seam, drop-append_seam}
use Rattle.lists.specs.Sums.{concat_map, concat_map-join, sum}
use Rattle.lists.specs.Cuts.{cut, by_full}
use Rattle.rules.specs.Trees.{Tree, Slot, slots, count}
use Rattle.rules.specs.Rules.{is_full, make, pour, repack}
use Rattle.rules.proofs.Pours.{make-slots, make-count, full_is, is_full_lem, repack_full, repack_short, pour_full, pour_short, pour-slots, slots_counts, repack-slots}
use Rattle.order.specs.Insert.{leading, insert_by, insert_at, squeeze}

module _ (S : ℕ) (pos : 0 < S) where
  none_poured : (h : ℕ) → pour S h [] ≡ []
  unfolding pour cut
  none_poured h = refl

  repack_none : (h : ℕ) → repack S h [] ≡ []
  unfolding repack
  repack_none h = refl

  no_leading : (h : ℕ) → leading S h [] ≡ 0
  unfolding leading
  no_leading h = refl

  leading_full : (h : ℕ) (t : Tree h) (ts : List (Tree h)) → count h t ≡ S → leading S h (t ∷ ts) ≡ suc (leading S h ts)
  unfolding leading
  leading_full h t ts f = rw (is_full_lem S h t f)

  -- At a place before the row's first full node ends, none stays whole.
  none_whole : (h : ℕ) (row : List (Tree h)) (p : ℕ) (C : List (Slot h)) → p < S → insert_at S h row p C ≡ insert_by S h row p C 0
  unfolding insert_at leading
  none_whole h row p C l = rw (div-eq_of_lt l)

  at_start : (h : ℕ) (row : List (Tree h)) (C : List (Slot h))
      → insert_at S h row 0 C ≡ cond (eqb (length C % S) 0) (pour S h C ++ repack S h row) (pour S h (C ++ concat_map (slots h) row))
  unfolding insert_by
  at_start h row C = none_whole h row 0 C pos ∙ (let z : 0 * S ≡ 0 = omega arith in rw z)

  pub squeeze_is : (h : ℕ) (row : List (Tree h)) → squeeze S h row ≡ repack S h row
  unfolding squeeze
  squeeze_is h row = at_start h row [] ∙ rw (zero-mod S, none_poured h)

  -- into no nodes at all
  pub into_none : (h : ℕ) (C : List (Slot h)) → insert_at S h [] 0 C ≡ pour S h C
  into_none h C = at_start h [] C ∙ go (eqb (length C % S) 0)
    where
      go : (b : Bool) → cond b (pour S h C ++ repack S h []) (pour S h (C ++ [])) ≡ pour S h C
      go true = rw (repack_none h) (append-nil (pour S h C))
      go false = ap (pour S h) (append-nil C)

  inside_first : (h : ℕ) (row : List (Tree h)) (p : ℕ) (C : List (Slot h)) → 0 < p → p < S
      → insert_at S h row p C ≡ pour S h (take p (concat_map (slots h) row) ++ (C ++ drop p (concat_map (slots h) row)))
  unfolding insert_by
  inside_first h row p C a b =
      let z : 0 * S ≡ 0 = omega arith in
      let y : p - 0 ≡ p = omega arith in
      none_whole h row p C b ∙ rw (z, ne_eqb 0 p (λ e. omega arith), y)

  -- A full node before the place stays.
  past_full : (h : ℕ) (t : Tree h) (row : List (Tree h)) (p : ℕ) (C : List (Slot h)) → count h t ≡ S → insert_at S h (t ∷ row) (S + p) C ≡ t ∷ insert_at S h row p C
  unfolding insert_at insert_by leading
  past_full h t row p C f =
      let k = leading S h (take (p / S) row) in
      let d : (S + p) / S ≡ suc (p / S) = add-div_left p pos ∙ add-one (p / S) in
      let e : S + p - suc k * S ≡ p - k * S = omega arith in
      rw (d, is_full_lem S h t f, e, same k) refl
    where
      same : (k : ℕ) → eqb (suc k * S) (S + p) ≡ eqb (k * S) p
      same k = go (ℕ_discrete (k * S) p)
        where
          go : Dec (k * S ≡ p) → eqb (suc k * S) (S + p) ≡ eqb (k * S) p
          go (yes y) = eq-eqb (suc k * S) (S + p) (omega arith) ∙ sym (eq-eqb (k * S) p y)
          go (no y) = ne_eqb (suc k * S) (S + p) (λ z. y (omega arith)) ∙ sym (ne_eqb (k * S) p y)

  before : {A : Type 0} (a : A) (b : Bool) (xs ys : List A) → a ∷ cond b xs ys ≡ cond b (a ∷ xs) (a ∷ ys)
  before a true xs ys = refl
  before a false xs ys = refl

  full_node : (h : ℕ) (p : List (Slot h)) → length p ≡ S → count h (make S h p) ≡ S
  full_node h p e = make-count S h p ∙ e

  filled : {A : Type 0} (p C : List A) → length p ≡ S → length (p ++ C) % S ≡ length C % S
  filled p C e = let l : length (p ++ C) ≡ S + length C = let q = length-append p C in omega arith in rw l (add-mod_left S (length C))

  -- Poured nodes before others: if they are filled exactly, the others are packed by themselves, otherwise poured on.
  repack_poured : (h : ℕ) (row : List (Tree h)) (C : List (Slot h))
      → repack S h (pour S h C ++ row) ≡ cond (eqb (length C % S) 0) (pour S h C ++ repack S h row) (pour S h (C ++ concat_map (slots h) row))
  repack_poured h row = by_full S (λ C. repack S h (pour S h C ++ row) ≡ cond (eqb (length C % S) 0) (pour S h C ++ repack S h row) (pour S h (C ++ concat_map (slots h) row))) pos short full
    where
      short : (C : List (Slot h)) → length C < S → repack S h (pour S h C ++ row) ≡ cond (eqb (length C % S) 0) (pour S h C ++ repack S h row) (pour S h (C ++ concat_map (slots h) row))
      short [] l = rw (zero-mod S, none_poured h)
      short (x ∷ xs) l =
          rw (mod-eq_of_lt l, ne_eqb (suc (length xs)) 0 (λ z. omega arith), pour_short S pos h x xs (omega arith))
          (repack_short S h (make S h (x ∷ xs)) row (λ e. let c = make-count S h (x ∷ xs) in omega arith) ∙ rw (make-slots S h (x ∷ xs)))

      full : (p C : List (Slot h)) → length p ≡ S → repack S h (pour S h C ++ row) ≡ cond (eqb (length C % S) 0) (pour S h C ++ repack S h row) (pour S h (C ++ concat_map (slots h) row))
          → repack S h (pour S h (p ++ C) ++ row) ≡ cond (eqb (length (p ++ C) % S) 0) (pour S h (p ++ C) ++ repack S h row) (pour S h ((p ++ C) ++ concat_map (slots h) row))
      full p C e ih =
          rw (pour_full S pos h p C e, append_assoc p C (concat_map (slots h) row), pour_full S pos h p (C ++ concat_map (slots h) row) e, filled p C e)
          (repack_full S h (make S h p) (pour S h C ++ row) (full_node h p e) ∙ ap (λ (l : List (Tree h)). make S h p ∷ l) ih
          ∙ before (make S h p) (eqb (length C % S) 0) (pour S h C ++ repack S h row) (pour S h (C ++ concat_map (slots h) row)))

  -- Packing what is poured, or packed, changes nothing.
  repack-pour : (h : ℕ) (xs : List (Slot h)) → repack S h (pour S h xs) ≡ pour S h xs
  repack-pour h xs = ap (repack S h) (sym (append-nil (pour S h xs))) ∙ repack_poured h [] xs ∙ sym (at_start h [] xs) ∙ into_none h xs

  repack_twice : (h : ℕ) (ts : List (Tree h)) → repack S h (repack S h ts) ≡ repack S h ts
  unfolding repack
  repack_twice h [] = refl
  repack_twice h (t ∷ ts) = go (is_full S h t) refl (repack_twice h ts)
    where
      go : (b : Bool) → is_full S h t ≡ b → repack S h (repack S h ts) ≡ repack S h ts
          → repack S h (cond b (t ∷ repack S h ts) (pour S h (concat_map (slots h) (t ∷ ts)))) ≡ cond b (t ∷ repack S h ts) (pour S h (concat_map (slots h) (t ∷ ts)))
      go true e ih = repack_full S h t (repack S h ts) (full_is S h t e) ∙ ap (λ (l : List (Tree h)). t ∷ l) ih
      go false e ih = repack-pour h (concat_map (slots h) (t ∷ ts))

  -- Pouring goes on after nodes that are filled exactly.
  pour_on : (h : ℕ) (ys C : List (Slot h)) → length C % S ≡ 0 → pour S h (C ++ ys) ≡ pour S h C ++ pour S h ys
  pour_on h ys = by_full S (λ C. length C % S ≡ 0 → pour S h (C ++ ys) ≡ pour S h C ++ pour S h ys) pos short full
    where
      short : (C : List (Slot h)) → length C < S → length C % S ≡ 0 → pour S h (C ++ ys) ≡ pour S h C ++ pour S h ys
      short [] l e = rw (none_poured h)
      short (x ∷ xs) l e = let z = mod-eq_of_lt l in absurd (omega arith)

      full : (p C : List (Slot h)) → length p ≡ S → (length C % S ≡ 0 → pour S h (C ++ ys) ≡ pour S h C ++ pour S h ys) → length (p ++ C) % S ≡ 0
          → pour S h ((p ++ C) ++ ys) ≡ pour S h (p ++ C) ++ pour S h ys
      full p C e ih z = rw (append_assoc p C ys, pour_full S pos h p (C ++ ys) e, pour_full S pos h p C e, ih (sym (filled p C e) ∙ z))

  -- Into poured nodes: their slots with the new ones put in, poured.
  insert-poured : (h : ℕ) (ys C xs : List (Slot h)) → insert_at S h (pour S h (xs ++ ys)) (length xs) C ≡ pour S h (xs ++ (C ++ ys))
  insert-poured h ys C = by_full S (λ xs. insert_at S h (pour S h (xs ++ ys)) (length xs) C ≡ pour S h (xs ++ (C ++ ys))) pos short full
    where
      start : (b : Bool) → eqb (length C % S) 0 ≡ b → cond b (pour S h C ++ repack S h (pour S h ys)) (pour S h (C ++ concat_map (slots h) (pour S h ys))) ≡ pour S h (C ++ ys)
      start true e = rw (repack-pour h ys) (sym (pour_on h ys C (eqb-true _ _ e)))
      start false e = rw (pour-slots S pos h ys)

      some : (xs : List (Slot h)) → 0 < length xs → length xs < S → insert_at S h (pour S h (xs ++ ys)) (length xs) C ≡ pour S h (xs ++ (C ++ ys))
      some xs a l =
          inside_first h (pour S h (xs ++ ys)) (length xs) C a l
          ∙ rw (pour-slots S pos h (xs ++ ys), take-append_seam xs ys, drop-append_seam xs ys)

      short : (xs : List (Slot h)) → length xs < S → insert_at S h (pour S h (xs ++ ys)) (length xs) C ≡ pour S h (xs ++ (C ++ ys))
      short [] l = at_start h (pour S h ys) C ∙ start (eqb (length C % S) 0) refl
      short (x ∷ xs) l = some (x ∷ xs) (omega arith) l

      full : (p xs : List (Slot h)) → length p ≡ S → insert_at S h (pour S h (xs ++ ys)) (length xs) C ≡ pour S h (xs ++ (C ++ ys))
          → insert_at S h (pour S h ((p ++ xs) ++ ys)) (length (p ++ xs)) C ≡ pour S h ((p ++ xs) ++ (C ++ ys))
      full p xs e ih =
          let l : length (p ++ xs) ≡ S + length xs = let q = length-append p xs in omega arith in
          rw (append_assoc p xs ys, append_assoc p xs (C ++ ys), pour_full S pos h p (xs ++ ys) e, pour_full S pos h p (xs ++ (C ++ ys)) e, l)
          (past_full h (make S h p) (pour S h (xs ++ ys)) (length xs) C (full_node h p e) ∙ ap (λ (t : List (Tree h)). make S h p ∷ t) ih)

  -- The nodes L and R beside the way, packed jointly, and the slots C from below put in after those of L: what the rules make of
  -- L, the poured C and R.
  pub insert_is : (h : ℕ) (C : List (Slot h)) (L R : List (Tree h)) → insert_at S h (squeeze S h (L ++ R)) (sum (count h) L) C ≡ repack S h (L ++ (pour S h C ++ R))
  insert_is h C L R = rw (squeeze_is h (L ++ R)) (go L)
    where
      go : (L : List (Tree h)) → insert_at S h (repack S h (L ++ R)) (sum (count h) L) C ≡ repack S h (L ++ (pour S h C ++ R))
      go [] = at_start h (repack S h R) C ∙ rw (repack_twice h R, repack-slots S pos h R) (sym (repack_poured h R C))
      go (t ∷ ts) = by (ℕ_discrete (count h t) S) (go ts)
        where
          by : Dec (count h t ≡ S) → insert_at S h (repack S h (ts ++ R)) (sum (count h) ts) C ≡ repack S h (ts ++ (pour S h C ++ R))
              → insert_at S h (repack S h (t ∷ (ts ++ R))) (count h t + sum (count h) ts) C ≡ repack S h (t ∷ (ts ++ (pour S h C ++ R)))
          by (yes f) ih =
              rw (repack_full S h t (ts ++ R) f, repack_full S h t (ts ++ (pour S h C ++ R)) f, f)
              (past_full h t (repack S h (ts ++ R)) (sum (count h) ts) C f ∙ ap (λ (l : List (Tree h)). t ∷ l) ih)
          by (no f) ih =
              let ys = concat_map (slots h) R in
              let xs = concat_map (slots h) (t ∷ ts) in
              let a : repack S h (t ∷ (ts ++ R)) ≡ pour S h (xs ++ ys) = repack_short S h t (ts ++ R) f ∙ ap (pour S h) (concat_map-join (slots h) (t ∷ ts) R) in
              let b : repack S h (t ∷ (ts ++ (pour S h C ++ R))) ≡ pour S h (xs ++ (C ++ ys)) =
              repack_short S h t (ts ++ (pour S h C ++ R)) f
              ∙ ap (pour S h) (concat_map-join (slots h) (t ∷ ts) (pour S h C ++ R) ∙ rw (concat_map-join (slots h) (pour S h C) R, pour-slots S pos h C)) in
              rw (a, b, ← slots_counts h (t ∷ ts)) (insert-poured h ys C xs)

  -- The nodes that stay whole before that place are as many as fit: in a packed row all of them are full.
  pub whole_is : (h : ℕ) (L R : List (Tree h)) → leading S h (take (sum (count h) L / S) (squeeze S h (L ++ R))) ≡ sum (count h) L / S
  whole_is h L R = rw (squeeze_is h (L ++ R)) (go L)
    where
      goal : ℕ → List (Tree h) → Type 0
      goal p row = leading S h (take (p / S) row) ≡ p / S

      none : (p : ℕ) (row : List (Tree h)) → p < S → goal p row
      none p row l = rw (div-eq_of_lt l) (no_leading h)

      one : (t : Tree h) (p : ℕ) (row : List (Tree h)) → count h t ≡ S → goal p row → goal (S + p) (t ∷ row)
      one t p row f ih = rw (add-div_left p pos ∙ add-one (p / S)) (leading_full h t (take (p / S) row) f ∙ ap suc ih)

      poured : (ys xs : List (Slot h)) → goal (length xs) (pour S h (xs ++ ys))
      poured ys =
          by_full S (λ xs. goal (length xs) (pour S h (xs ++ ys))) pos (λ xs l. none (length xs) (pour S h (xs ++ ys)) l)
          (λ p xs e ih.
          let l : length (p ++ xs) ≡ S + length xs = let q = length-append p xs in omega arith in
          rw (append_assoc p xs ys, pour_full S pos h p (xs ++ ys) e, l) (one (make S h p) (length xs) (pour S h (xs ++ ys)) (full_node h p e) ih))

      go : (L : List (Tree h)) → goal (sum (count h) L) (repack S h (L ++ R))
      go [] = none 0 (repack S h R) pos
      go (t ∷ ts) = by (ℕ_discrete (count h t) S) (go ts)
        where
          by : Dec (count h t ≡ S) → goal (sum (count h) ts) (repack S h (ts ++ R)) → goal (count h t + sum (count h) ts) (repack S h (t ∷ (ts ++ R)))
          by (yes f) ih = rw (repack_full S h t (ts ++ R) f, f) (one t (sum (count h) ts) (repack S h (ts ++ R)) f ih)
          by (no f) ih =
              let xs = concat_map (slots h) (t ∷ ts) in
              rw (repack_short S h t (ts ++ R) f, concat_map-join (slots h) (t ∷ ts) R, ← slots_counts h (t ∷ ts)) (poured (concat_map (slots h) R) xs)
