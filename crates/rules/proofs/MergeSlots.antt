-- A merge leaves the right tree's left edge enough slots: what comes up there fills nodes of S.
use Prim.Native.Nat.{ℕ, zero, suc, ◌+◌, ◌-◌, ◌*◌, ◌<◌, ◌≤◌}
use Rattle.std.specs.Prelude.{◌≡◌, length}
use Rattle.std.proofs.Math.Path.{refl}
use Rattle.std.proofs.Common.{◌∙◌, ap}
use mathlib.Core.List.{List, [], ◌∷◌}
use native.Mathlib.Omega.{arith}
use Rattle.lists.specs.Ends.{first_or, init}
use Rattle.lists.specs.Alls.{All, all_weak, all_by_last}
use Rattle.lists.specs.Sums.{sum, sum_all, sum_by_first}
use Rattle.lists.specs.Cuts.{ceil, ceil_ge}
use Rattle.rules.specs.Trees.{Tree, nothing, count, others, last_kid, first_kid, later_kids}
use Rattle.rules.specs.Rules.{Meet, leaves, level, left_taller, right_taller, merge}
use Rattle.rules.specs.Shape.{CountFits, Tidy, Edge, Crowded, Front}
use Rattle.rules.proofs.Dense.{tidy_edge}
use Rattle.rules.proofs.Pours.{repack_counts}
use Rattle.rules.proofs.MergeNodes.{ascend_counts}
use Rattle.rules.proofs.MergeRows.{edge_sized, tidy_sized}

pub meet_le : {h k m : ℕ} → Meet h k m → k ≤ m
meet_le leaves = omega arith
meet_le (level p) = omega arith
meet_le (left_taller p) = let e = meet_le p in omega arith
meet_le (right_taller p) = omega arith

module _ (S : ℕ) (two : 2 ≤ S) where
  pos : 0 < S
  pos = omega arith

  -- The left edge. A node of S children, fewer than S slots of them free.
  deficits : (ts : List (List ℕ)) → All (CountFits S zero) ts → sum (count zero) ts + sum (λ t. S - length t) ts ≡ length ts * S
  unfolding count
  deficits [] a = omega arith
  deficits (t ∷ ts) a = let ih = deficits ts a.1 in let s = a.0 in omega arith

  crowded_sum : (h : ℕ) (ts : List (Tree (suc h))) → length ts ≡ S → All (λ t. count (suc h) t ≡ S) ts → sum (count (suc h)) ts ≡ S * S
  crowded_sum h ts n p = sum_all (λ t. count (suc h) t ≡ S) (count (suc h)) S (λ t e. e) ts p ∙ ap (λ (x : ℕ). x * S) n

  near_full : (h : ℕ) (ts : List (Tree h)) → All (CountFits S h) ts → length ts ≡ S → Crowded S h ts → S * S < sum (count h) ts + S
  near_full zero ts a n p =
      let d = deficits ts a in
      let q : length ts * S ≡ S * S = ap (λ (x : ℕ). x * S) n in
      omega arith
  near_full (suc h) ts a n p = let q = crowded_sum h ts n p in omega arith

  pub front_count : (h : ℕ) (t : Tree h) → Front S h t → count h t ≡ S
  unfolding count
  front_count zero t f = f
  front_count (suc h) t f = f.0

  kids_sized : (h : ℕ) (t : Tree (suc h)) → Edge S (suc h) t → All (CountFits S h) t.1
  kids_sized h t e = all_by_last (CountFits S h) (nothing h) t.1 (all_weak (Tidy S h) (CountFits S h) (tidy_sized S two h) (others h t) e.1) (edge_sized S two h (last_kid h t) e.2)

  -- the first child of a node of the left edge
  pub first_edge : (h : ℕ) (t : Tree (suc h)) → 2 ≤ length t.1 → Edge S (suc h) t → Tidy S h (first_kid h t)
  first_edge h t n e = go t.1 n e.1
    where
      go : (ts : List (Tree h)) → 2 ≤ length ts → All (Tidy S h) (init ts) → Tidy S h (first_or (nothing h) ts)
      go [] m a = absurd (omega arith)
      go (x ∷ []) m a = absurd (omega arith)
      go (x ∷ y ∷ ys) m a = a.0

  -- its slots after a merge are still S
  enough : (h : ℕ) (r : Tree (suc h)) (x y : ℕ) → Edge S (suc h) r → Front S (suc h) r → S ≤ y → S ≤ ceil (x + y + sum (count h) (later_kids h r)) S
  enough h r x y b f g =
      let n = near_full h r.1 (kids_sized h r b) f.0 f.1 in
      let s = sum_by_first (count h) (nothing h) r.1 b.0.0 in
      let c = front_count h (first_kid h r) f.2 in
      ceil_ge _ S S pos (omega arith)

  -- and above height 1 its children's slots S S
  pub enough_below : (h : ℕ) (r : Tree (suc h)) (x y : ℕ) → Edge S (suc h) r → Front S (suc h) r → S ≤ y → 1 ≤ h → S * S ≤ x + y + sum (count h) (later_kids h r)
  enough_below zero r x y b f g z = absurd (omega arith)
  enough_below (suc h) r x y b f g z =
      let n = crowded_sum h r.1 f.0 f.1 in
      let s = sum_by_first (count (suc h)) (nothing (suc h)) r.1 b.0.0 in
      let c = front_count (suc h) (first_or (nothing (suc h)) r.1) f.2 in
      omega arith

  pub merge-slots : {h k m : ℕ} (p : Meet h k m) → m ≡ k → (l : Tree h) (r : Tree k) → Edge S h l → Edge S k r → Front S k r → S ≤ sum (count m) (merge S p l r)
  unfolding merge
  merge-slots leaves q l r a b f = let e = repack_counts S pos zero (l ∷ r ∷ []) in let c = front_count zero r f in omega arith
  merge-slots (level {h} p) q l r a b f =
      let r1 = first_kid h r in
      let mid = merge S p (last_kid h l) r1 in
      let e = ascend_counts S pos h (others h l) mid (later_kids h r) in
      let ih = merge-slots p refl (last_kid h l) r1 a.2 (tidy_edge S two h r1 (first_edge h r (omega arith) b)) f.2 in
      let g = enough h r (sum (count h) (others h l)) (sum (count h) mid) b f ih in
      omega arith
  merge-slots (left_taller p) q l r a b f = let z = meet_le p in absurd (omega arith)
  merge-slots (right_taller {k = n} p) q l r a b f =
      let r1 = first_kid n r in
      let mid = merge S p l r1 in
      let e = ascend_counts S pos n [] mid (later_kids n r) in
      let ih = merge-slots p refl l r1 a (tidy_edge S two n r1 (first_edge n r (omega arith) b)) f.2 in
      let g = enough n r (sum (count n) []) (sum (count n) mid) b f ih in
      omega arith
