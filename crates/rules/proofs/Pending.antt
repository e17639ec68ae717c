-- The repacking rule as document 01 tells it, with what is pending, is `repack`.
use Rattle.std.specs.Prelude.{ℕ, zero, suc, ◌+◌, ◌<◌, ◌≤◌, ◌≡◌, Bool, cond, take, drop}
use Rattle.std.proofs.Math.Path.{refl, sym, ap}
use Rattle.std.proofs.Common.{◌∙◌, arith, length-drop, length-take, take-append-drop}
use mathlib.Core.List.{List, [], ◌∷◌, ◌++◌, append_assoc, append-nil}
use Rattle.std.proofs.Math.Bool.{true, false}
use borrow.Author.Tests.{ltb-true, ltb-false, lt-ltb}
use Rattle.std.proofs.Math.Dec.{ltb}
use Rattle.std.proofs.Math.ListN.{length, length-append}
use Rattle.lists.specs.Alls.{All}
use Rattle.lists.specs.Sums.{concat_map}
use Rattle.rules.specs.Trees.{Tree, Slot, slots}
use Rattle.rules.specs.Rules.{is_full, make, pour, repack}
use Rattle.rules.proofs.Pours.{pour_full, pour_short, repack_leaves}
use Rattle.rules.specs.Pending.{spill, repacking}

module _ (S : ℕ) where
  spill_by : (h : ℕ) → List (Slot h) → Slot h → List (Slot h) → Bool → List (Tree h) × List (Slot h)
  spill_by h p x xs c = elim c [ true ↦ spill S h (p ++ (x ∷ [])) xs | false ↦ (make S h p ∷ (spill S h (x ∷ []) xs).0, (spill S h (x ∷ []) xs).1) ]

  spill_more : (h : ℕ) (p : List (Slot h)) (x : Slot h) (xs : List (Slot h)) → ltb (length p) S ≡ true → spill S h p (x ∷ xs) ≡ spill S h (p ++ (x ∷ [])) xs
  unfolding spill spill_by
  spill_more h p x xs e = ap (spill_by h p x xs) e

  spill_full : (h : ℕ) (p : List (Slot h)) (x : Slot h) (xs : List (Slot h)) → ltb (length p) S ≡ false
      → spill S h p (x ∷ xs) ≡ (make S h p ∷ (spill S h (x ∷ []) xs).0, (spill S h (x ∷ []) xs).1)
  unfolding spill spill_by
  spill_full h p x xs e = ap (spill_by h p x xs) e

module _ (S : ℕ) (pos : 0 < S) where
  -- what is made and what is pending, together, are what was there
  record Spilled (h : ℕ) (p xs : List (Slot h)) : Type 0 where
    some_left : 1 ≤ length (spill S h p xs).1
    few_left : length (spill S h p xs).1 ≤ S
    rest_is : (ys : List (Slot h)) → pour S h (p ++ (xs ++ ys)) ≡ (spill S h p xs).0 ++ pour S h ((spill S h p xs).1 ++ ys)

  spilled : (h : ℕ) (p xs : List (Slot h)) → 1 ≤ length p → length p ≤ S → Spilled h p xs
  unfolding spill
  spilled h p [] a b = record { some_left = a; few_left = b; rest_is = λ ys. refl }
  spilled h p (x ∷ xs) a b = go (ltb (length p) S) refl (spilled h (p ++ (x ∷ [])) xs) (spilled h (x ∷ []) xs (omega arith) (omega arith))
    where
      go : (c : Bool) → ltb (length p) S ≡ c → (1 ≤ length (p ++ (x ∷ [])) → length (p ++ (x ∷ [])) ≤ S → Spilled h (p ++ (x ∷ [])) xs) → Spilled h (x ∷ []) xs → Spilled h p (x ∷ xs)
      go true e f g =
          let l = length-append p (x ∷ []) in
          let n = ltb-true (length p) S e in
          let r = f (omega arith) (omega arith) in
          record {
            some_left = rw (spill_more S h p x xs e) r.some_left;
            few_left = rw (spill_more S h p x xs e) r.few_left;
            rest_is = λ ys. rw (spill_more S h p x xs e) (ap (pour S h) (sym (append_assoc p (x ∷ []) (xs ++ ys))) ∙ r.rest_is ys);
          }
      go false e f g =
          let n = ltb-false (length p) S e in
          record {
            some_left = rw (spill_full S h p x xs e) g.some_left;
            few_left = rw (spill_full S h p x xs e) g.few_left;
            rest_is = λ ys. rw (spill_full S h p x xs e) (pour_full S pos h p (x ∷ (xs ++ ys)) (omega arith) ∙ ap (λ (l : List (Tree h)). make S h p ∷ l) (g.rest_is ys));
          }

  -- with something pending, all that follows is poured
  pending : (h : ℕ) (x : Slot h) (xs : List (Slot h)) (ts : List (Tree h)) → suc (length xs) ≤ S → repacking S h (x ∷ xs) ts ≡ pour S h ((x ∷ xs) ++ concat_map (slots h) ts)
  unfolding repacking
  pending h x xs [] n = sym (ap (pour S h) (append-nil (x ∷ xs)) ∙ pour_short S pos h x xs n)
  pending h x xs (t ∷ ts) n = go (spill S h (x ∷ xs) (slots h t)).1 refl (λ y ys. pending h y ys ts)
    where
      s : Spilled h (x ∷ xs) (slots h t)
      s = spilled h (x ∷ xs) (slots h t) (omega arith) n

      go : (q : List (Slot h)) → (spill S h (x ∷ xs) (slots h t)).1 ≡ q → ((y : Slot h) (ys : List (Slot h)) → suc (length ys) ≤ S → repacking S h (y ∷ ys) ts ≡ pour S h ((y ∷ ys) ++ concat_map (slots h) ts))
          → (spill S h (x ∷ xs) (slots h t)).0 ++ repacking S h (spill S h (x ∷ xs) (slots h t)).1 ts ≡ pour S h ((x ∷ xs) ++ (slots h t ++ concat_map (slots h) ts))
      go [] e ih = let a = s.some_left in let b = ap length e in absurd (omega arith)
      go (y ∷ ys) e ih =
          let b = ap length e in
          let c = s.few_left in
          let r = s.rest_is (concat_map (slots h) ts) in
          let r2 : pour S h ((x ∷ xs) ++ (slots h t ++ concat_map (slots h) ts)) ≡ (spill S h (x ∷ xs) (slots h t)).0 ++ pour S h ((y ∷ ys) ++ concat_map (slots h) ts) = rw e at r in
          ap (λ (q : List (Slot h)). (spill S h (x ∷ xs) (slots h t)).0 ++ repacking S h q ts) e
          ∙ ap (λ (l : List (Tree h)). (spill S h (x ∷ xs) (slots h t)).0 ++ l) (ih y ys (omega arith))
          ∙ sym r2

  first-spill : (h : ℕ) (x : Slot h) (xs : List (Slot h)) → spill S h [] (x ∷ xs) ≡ spill S h (x ∷ []) xs
  first-spill h x xs = spill_more S h [] x xs (lt-ltb 0 S pos)

  -- Of children none of which is empty.
  pub repacking_is : (h : ℕ) (ts : List (Tree h)) → All (λ t. 1 ≤ length (slots h t)) ts → repacking S h [] ts ≡ repack S h ts
  unfolding repacking repack
  repacking_is h [] a = refl
  repacking_is h (t ∷ ts) a = go (is_full S h t) (repacking_is h ts a.1)
    where
      poured : (xs : List (Slot h)) → 1 ≤ length xs → (spill S h [] xs).0 ++ repacking S h (spill S h [] xs).1 ts ≡ pour S h (xs ++ concat_map (slots h) ts)
      poured [] n = absurd (omega arith)
      poured (x ∷ xs) n = rw (first-spill h x xs) (later (spill S h (x ∷ []) xs).1 refl)
        where
          s : Spilled h (x ∷ []) xs
          s = spilled h (x ∷ []) xs (omega arith) (omega arith)

          later : (q : List (Slot h)) → (spill S h (x ∷ []) xs).1 ≡ q → (spill S h (x ∷ []) xs).0 ++ repacking S h (spill S h (x ∷ []) xs).1 ts ≡ pour S h ((x ∷ xs) ++ concat_map (slots h) ts)
          later [] e = let c = s.some_left in let b = ap length e in absurd (omega arith)
          later (y ∷ ys) e =
              let b = ap length e in
              let c = s.few_left in
              let r = s.rest_is (concat_map (slots h) ts) in
              let r2 : pour S h ((x ∷ []) ++ (xs ++ concat_map (slots h) ts)) ≡ (spill S h (x ∷ []) xs).0 ++ pour S h ((y ∷ ys) ++ concat_map (slots h) ts) = rw e at r in
              ap (λ (q : List (Slot h)). (spill S h (x ∷ []) xs).0 ++ repacking S h q ts) e
              ∙ ap (λ (l : List (Tree h)). (spill S h (x ∷ []) xs).0 ++ l) (pending h y ys ts (omega arith))
              ∙ sym r2

      go : (b : Bool) → repacking S h [] ts ≡ repack S h ts
          → cond b (t ∷ repacking S h [] ts) ((spill S h [] (slots h t)).0 ++ repacking S h (spill S h [] (slots h t)).1 ts) ≡ cond b (t ∷ repack S h ts) (pour S h (slots h t ++ concat_map (slots h) ts))
      go true ih = ap (λ (l : List (Tree h)). t ∷ l) ih
      go false ih = poured (slots h t) a.0

  -- "They are repacked as a full left leaf and the rest."
  pub two_leaves : (l r : List ℕ) → length l ≤ S → length r ≤ S → S < length l + length r → repack S zero (l ∷ r ∷ []) ≡ take S (l ++ r) ∷ drop S (l ++ r) ∷ []
  two_leaves l r a b c =
      let n = length-append l r in
      let t = length-take S (l ++ r) in
      let d = length-drop S (l ++ r) in
      repack_leaves S pos (l ∷ r ∷ [])
      ∙ ap (λ (x : List ℕ). pour S zero (l ++ x)) (append-nil r)
      ∙ ap (pour S zero) (sym (take-append-drop S (l ++ r)))
      ∙ pour_full S pos zero (take S (l ++ r)) (drop S (l ++ r)) (omega arith)
      ∙ ap (λ (x : List (List ℕ)). take S (l ++ r) ∷ x) (one (drop S (l ++ r)) (omega arith) (omega arith))
    where
      one : (xs : List ℕ) → 1 ≤ length xs → length xs ≤ S → pour S zero xs ≡ xs ∷ []
      one [] n m = absurd (omega arith)
      one (x ∷ xs) n m = pour_short S pos zero x xs m
