-- Pouring slots into nodes: one node after the other, how many, and what repacking makes of nodes that are poured.
use Prim.Native.Nat.{ℕ, zero, suc, ◌+◌, ◌<◌, ◌≤◌}
use Rattle.std.specs.Prelude.{◌≡◌, Bool, take, drop}
use Rattle.std.proofs.Math.Path.{refl, sym, ap}
use Rattle.std.proofs.Common.{◌∙◌}
use mathlib.Core.List.{List, [], ◌∷◌, ◌++◌}
use Rattle.std.proofs.Math.Bool.{true, false, cond}
use native.Mathlib.Omega.{arith}
use borrow.Author.Tests.{eqb-true, eq-eqb, ne_eqb}
use Rattle.std.proofs.Math.ListN.{length, length-map}
use Rattle.lists.specs.Sums.{concat_map, sum, sum_same, sum_suc, sum-concat_map, concat_map-map, concat_map_same, concat_map_singles, length-concat_map}
use Rattle.lists.specs.Cuts.{cut, ceil, ceil_zero, ceil-step, cut_cons, cut_full, cut_short, length-cut, concat_cut}
use Rattle.rules.specs.Trees.{Tree, Slot, slots, count, nodes}
use Rattle.rules.specs.Rules.{is_full, make, pour, repack}

pub counted : (h : ℕ) (t : Tree h) → length (slots h t) ≡ count h t
unfolding count
counted h t = refl

pub slots_counts : (h : ℕ) (ts : List (Tree h)) → length (concat_map (slots h) ts) ≡ sum (count h) ts
slots_counts h ts = length-concat_map (slots h) (count h) (counted h) ts

module _ (S : ℕ) where
  pub make-slots : (h : ℕ) (xs : List (Slot h)) → slots h (make S h xs) ≡ xs
  make-slots zero xs = refl
  make-slots (suc h) xs = refl

  pub make-count : (h : ℕ) (xs : List (Slot h)) → count h (make S h xs) ≡ length xs
  make-count h xs = sym (counted h (make S h xs)) ∙ ap length (make-slots h xs)

  pub full_is : (h : ℕ) (t : Tree h) → is_full S h t ≡ true → count h t ≡ S
  unfolding is_full
  full_is h t e = eqb-true (count h t) S e

  pub is_full_lem : (h : ℕ) (t : Tree h) → count h t ≡ S → is_full S h t ≡ true
  unfolding is_full
  is_full_lem h t e = eq-eqb (count h t) S e

  pub not_full : (h : ℕ) (t : Tree h) → (count h t ≡ S → ⊥) → is_full S h t ≡ false
  unfolding is_full
  not_full h t e = ne_eqb (count h t) S e

  -- a full child is kept
  pub repack_full : (h : ℕ) (t : Tree h) (ts : List (Tree h)) → count h t ≡ S → repack S h (t ∷ ts) ≡ t ∷ repack S h ts
  unfolding repack
  repack_full h t ts c = rw (is_full_lem h t c)

  -- from another one on all slots are poured
  pub repack_short : (h : ℕ) (t : Tree h) (ts : List (Tree h)) → (count h t ≡ S → ⊥) → repack S h (t ∷ ts) ≡ pour S h (concat_map (slots h) (t ∷ ts))
  unfolding repack
  repack_short h t ts c = rw (not_full h t c)

module _ (S : ℕ) (pos : 0 < S) where
  -- One node after the other.
  pub pour_cons : (h : ℕ) (x : Slot h) (xs : List (Slot h)) → pour S h (x ∷ xs) ≡ make S h (take S (x ∷ xs)) ∷ pour S h (drop S (x ∷ xs))
  unfolding pour
  pour_cons h x xs = rw (cut_cons S x xs pos)

  pub pour_full : (h : ℕ) (p zs : List (Slot h)) → length p ≡ S → pour S h (p ++ zs) ≡ make S h p ∷ pour S h zs
  unfolding pour
  pour_full h p zs e = rw (cut_full S p zs pos e)

  pub pour_short : (h : ℕ) (x : Slot h) (xs : List (Slot h)) → suc (length xs) ≤ S → pour S h (x ∷ xs) ≡ make S h (x ∷ xs) ∷ []
  unfolding pour
  pour_short h x xs n = rw (cut_short S x xs n)

  -- The nodes poured: how many, their slots together, the slots themselves.
  pub pour-length : (h : ℕ) (xs : List (Slot h)) → length (pour S h xs) ≡ ceil (length xs) S
  unfolding pour
  pour-length h xs = length-map (cut S xs) (make S h) ∙ length-cut S xs pos

  pub pour-slots : (h : ℕ) (xs : List (Slot h)) → concat_map (slots h) (pour S h xs) ≡ xs
  unfolding pour
  pour-slots h xs =
      concat_map-map (slots h) (make S h) (cut S xs)
      ∙ concat_map_same _ _ (λ ys. make-slots S h ys ∙ sym (concat_map_singles ys)) (cut S xs)
      ∙ concat_cut (λ x. x ∷ []) S xs pos
      ∙ concat_map_singles xs

  pub pour_counts : (h : ℕ) (xs : List (Slot h)) → sum (count h) (pour S h xs) ≡ length xs
  pour_counts h xs = sym (slots_counts h (pour S h xs)) ∙ ap length (pour-slots h xs)

  -- Repacking keeps the slots in order.
  pub repack-slots : (h : ℕ) (ts : List (Tree h)) → concat_map (slots h) (repack S h ts) ≡ concat_map (slots h) ts
  unfolding repack
  repack-slots h [] = refl
  repack-slots h (t ∷ ts) = go (is_full S h t) (repack-slots h ts)
    where
      go : (b : Bool) → concat_map (slots h) (repack S h ts) ≡ concat_map (slots h) ts
          → concat_map (slots h) (cond b (t ∷ repack S h ts) (pour S h (concat_map (slots h) (t ∷ ts)))) ≡ concat_map (slots h) (t ∷ ts)
      go true ih = ap (λ (l : List (Slot h)). slots h t ++ l) ih
      go false ih = pour-slots h (concat_map (slots h) (t ∷ ts))

  pub repack_counts : (h : ℕ) (ts : List (Tree h)) → sum (count h) (repack S h ts) ≡ sum (count h) ts
  repack_counts h ts = sym (slots_counts h (repack S h ts)) ∙ ap length (repack-slots h ts) ∙ slots_counts h ts

  pub repack-length : (h : ℕ) (ts : List (Tree h)) → length (repack S h ts) ≡ ceil (sum (count h) ts) S
  unfolding repack
  repack-length h [] = sym (ceil_zero S pos)
  repack-length h (t ∷ ts) = go (is_full S h t) refl (repack-length h ts)
    where
      go : (b : Bool) → is_full S h t ≡ b → length (repack S h ts) ≡ ceil (sum (count h) ts) S
          → length (cond b (t ∷ repack S h ts) (pour S h (concat_map (slots h) (t ∷ ts)))) ≡ ceil (count h t + sum (count h) ts) S
      go true e ih = rw (full_is S h t e, ceil-step (sum (count h) ts) S pos, ih)
      go false e ih = pour-length h (concat_map (slots h) (t ∷ ts)) ∙ rw (slots_counts h (t ∷ ts))

  -- Leaves have no kind: repacking them is pouring.
  pub repack_leaves : (ts : List (List ℕ)) → repack S zero ts ≡ pour S zero (concat_map (slots zero) ts)
  unfolding repack pour cut
  repack_leaves [] = refl
  repack_leaves (t ∷ ts) = go (is_full S zero t) refl (repack_leaves ts)
    where
      go : (b : Bool) → is_full S zero t ≡ b → repack S zero ts ≡ pour S zero (concat_map (slots zero) ts)
          → cond b (t ∷ repack S zero ts) (pour S zero (concat_map (slots zero) (t ∷ ts))) ≡ pour S zero (concat_map (slots zero) (t ∷ ts))
      go true e ih =
          ap (λ (l : List (List ℕ)). t ∷ l) ih
          ∙ sym (pour_full zero t (concat_map (slots zero) ts) (counted zero t ∙ full_is S zero t e))
      go false e ih = refl

  -- The nodes below: those that were there go, and the slots divided by S come.
  slot_nodes : (h : ℕ) → Slot h → ℕ
  slot_nodes zero x = 0
  slot_nodes (suc h) t = nodes h t

  nodes-slots : (h : ℕ) (t : Tree h) → nodes h t ≡ suc (sum (slot_nodes h) (slots h t))
  unfolding nodes slot_nodes
  nodes-slots zero t = ap suc (sym (none_in t))
    where
      none_in : (xs : List ℕ) → sum (λ x. 0) xs ≡ 0
      none_in [] = refl
      none_in (x ∷ xs) = let e = none_in xs in omega arith
  nodes-slots (suc h) t = refl

  all_nodes : (h : ℕ) (ts : List (Tree h)) → sum (nodes h) ts ≡ length ts + sum (slot_nodes h) (concat_map (slots h) ts)
  all_nodes h ts =
      sum_same _ _ (nodes-slots h) ts
      ∙ sum_suc (λ u. sum (slot_nodes h) (slots h u)) ts
      ∙ ap (λ (n : ℕ). length ts + n) (sym (sum-concat_map (slot_nodes h) (slots h) ts))

  -- Two rows of nodes with the same slots have the same nodes below them.
  pub same_below : (h : ℕ) (ts us : List (Tree h)) → concat_map (slots h) ts ≡ concat_map (slots h) us → sum (nodes h) ts + length us ≡ length ts + sum (nodes h) us
  same_below h ts us e =
      let a = all_nodes h ts in
      let b = all_nodes h us in
      let c = ap (sum (slot_nodes h)) e in
      omega arith

  pub repack-nodes : (h : ℕ) (ts : List (Tree h)) → sum (nodes h) (repack S h ts) + length ts ≡ ceil (sum (count h) ts) S + sum (nodes h) ts
  repack-nodes h ts = let e = same_below h (repack S h ts) ts (repack-slots h ts) in let l = repack-length h ts in omega arith

  pub pour-nodes : (h : ℕ) (ts : List (Tree h)) → sum (nodes (suc h)) (pour S (suc h) ts) ≡ ceil (length ts) S + sum (nodes h) ts
  unfolding slot_nodes
  pour-nodes h ts =
      let e = all_nodes (suc h) (pour S (suc h) ts) in
      let s = ap (sum (nodes h)) (pour-slots (suc h) ts) in
      let l = pour-length (suc h) ts in
      omega arith
