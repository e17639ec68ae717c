-- Poured and repacked nodes are packed: all but the last have S slots.
use Prim.Native.Nat.{ℕ, zero, suc, ◌-◌, ◌*◌, ◌<◌, ◌≤◌}
use Rattle.std.specs.Prelude.{◌≡◌, Bool, cond, take}
use Rattle.std.proofs.Math.Path.{refl, ap}
use mathlib.Core.List.{List, [], ◌∷◌, map}
use Rattle.std.proofs.Math.Bool.{true, false}
use native.Mathlib.Omega.{arith}
use Rattle.std.proofs.Math.Decide.{dec_le}
use Rattle.std.proofs.Math.ListN.{length, drop, length-take, length-drop}
use Rattle.lists.specs.Ends.{init, length-init}
use Rattle.lists.specs.Alls.{All, all_last, all_by_last, all_take, init-take, take-init}
use Rattle.lists.specs.Sums.{concat_map, sum, sum_all, sum_by_last, sum-take}
use Rattle.lists.specs.Cuts.{cut, by_pieces}
use Rattle.rules.specs.Trees.{Tree, Slot, slots, nothing, count}
use Rattle.rules.specs.Rules.{is_full, make, pour, repack}
use Rattle.rules.specs.Shape.{Packed, Crowded}
use Rattle.rules.proofs.Pours.{make-count, full_is}

module _ (S : ℕ) (two : 2 ≤ S) where
  pos : 0 < S
  pos = omega arith

  -- at most S slots
  abbrev pub Small : (h : ℕ) → Tree h → Type 0
  Small h t = count h t ≤ S

  packed_nil : (h : ℕ) → Packed S h []
  packed_nil zero = pos
  packed_nil (suc h) = tt

  packed_cons : (h : ℕ) (t : Tree h) (ts : List (Tree h)) → count h t ≡ S → Packed S h ts → Packed S h (t ∷ ts)
  unfolding count
  packed_cons zero t ts c p = omega arith
  packed_cons (suc h) t [] c p = tt
  packed_cons (suc h) t (u ∷ us) c p = (c, p)

  packed_one : (h : ℕ) (t : Tree h) → 1 ≤ count h t → Packed S h (t ∷ [])
  unfolding count
  packed_one zero t c = omega arith
  packed_one (suc h) t c = tt

  pub packed_take : (h n : ℕ) (ts : List (Tree h)) → Packed S h ts → Packed S h (take n ts)
  packed_take zero n ts p = let e = sum-take (λ t. S - length t) n ts in omega arith
  packed_take (suc h) n ts p = init-take (λ t. count (suc h) t ≡ S) n ts p

  pub pour_packed : (h : ℕ) (xs : List (Slot h)) → Packed S h (pour S h xs)
  unfolding pour cut
  pour_packed h = by_pieces S (λ xs ps. Packed S h (map (make S h) ps)) pos (packed_nil h) (λ x xs ih. go x xs (drop S (x ∷ xs)) refl ih)
    where
      go : (x : Slot h) (xs ys : List (Slot h)) → drop S (x ∷ xs) ≡ ys → Packed S h (map (make S h) (cut S (drop S (x ∷ xs))))
          → Packed S h (make S h (take S (x ∷ xs)) ∷ map (make S h) (cut S (drop S (x ∷ xs))))
      go x xs [] q ih =
          let a = make-count S h (take S (x ∷ xs)) in
          let b = length-take S (x ∷ xs) in
          rw q (packed_one h (make S h (take S (x ∷ xs))) (omega arith))
      go x xs (y ∷ ys) q ih =
          let a = make-count S h (take S (x ∷ xs)) in
          let b = length-take S (x ∷ xs) in
          let c = length-drop S (x ∷ xs) in
          let d = ap length q in
          packed_cons h (make S h (take S (x ∷ xs))) (map (make S h) (cut S (drop S (x ∷ xs)))) (omega arith) ih

  pub repack_packed : (h : ℕ) (ts : List (Tree h)) → Packed S h (repack S h ts)
  unfolding repack
  repack_packed h [] = packed_nil h
  repack_packed h (t ∷ ts) = go (is_full S h t) refl (repack_packed h ts)
    where
      go : (b : Bool) → is_full S h t ≡ b → Packed S h (repack S h ts) → Packed S h (cond b (t ∷ repack S h ts) (pour S h (concat_map (slots h) (t ∷ ts))))
      go true e ih = packed_cons h t (repack S h ts) (full_is S h t e) ih
      go false e ih = pour_packed h (concat_map (slots h) (t ∷ ts))

  pour_small : (h : ℕ) (xs : List (Slot h)) → All (Small h) (pour S h xs)
  unfolding pour
  pour_small h =
      by_pieces S (λ xs ps. All (Small h) (map (make S h) ps)) pos tt
      (λ x xs ih. (let a = make-count S h (take S (x ∷ xs)) in let b = length-take S (x ∷ xs) in omega arith, ih))

  pub repack_small : (h : ℕ) (ts : List (Tree h)) → All (Small h) ts → All (Small h) (repack S h ts)
  unfolding repack
  repack_small h [] a = tt
  repack_small h (t ∷ ts) a = go (is_full S h t) (repack_small h ts a.1)
    where
      go : (b : Bool) → All (Small h) (repack S h ts) → All (Small h) (cond b (t ∷ repack S h ts) (pour S h (concat_map (slots h) (t ∷ ts))))
      go true ih = (a.0, ih)
      go false ih = pour_small h (concat_map (slots h) (t ∷ ts))

  -- the first S of them: all have count S, if there are more, or S S slots
  pub crowded : (h : ℕ) (ts : List (Tree h)) → Packed S h ts → All (Small h) ts → S ≤ length ts → (1 ≤ h → S * S ≤ sum (count h) ts) → Crowded S h (take S ts)
  crowded zero ts p a n g = packed_take zero S ts p
  crowded (suc h) ts p a n g = go (dec_le (suc S) (length ts))
    where
      go : Dec (suc S ≤ length ts) → All (λ t. count (suc h) t ≡ S) (take S ts)
      go (yes y) = take-init (λ t. count (suc h) t ≡ S) S ts p y
      go (no y) =
          let i = length-init ts in
          let q = sum_all (λ t. count (suc h) t ≡ S) (count (suc h)) S (λ t e. e) (init ts) p in
          let s = sum_by_last (count (suc h)) (nothing (suc h)) ts (omega arith) in
          let m : suc (length (init ts)) ≡ S = omega arith in
          let w : suc (length (init ts)) * S ≡ S * S = ap (λ (x : ℕ). x * S) m in
          let z = all_last (Small (suc h)) (nothing (suc h)) ts (omega arith) a in
          let k = g (omega arith) in
          all_take (λ t. count (suc h) t ≡ S) S ts (all_by_last (λ t. count (suc h) t ≡ S) (nothing (suc h)) ts p (omega arith))
