-- A merge keeps the kinds right: its children are tidy, all but the last, which is as on the right edge; and they are one or two.
use Prim.Native.Nat.{ℕ, zero, suc, ◌*◌, ◌<◌, ◌≤◌}
use mathlib.Core.List.{List, [], ◌∷◌, ◌++◌, append-nil}
use native.Mathlib.Omega.{arith}
use Rattle.std.proofs.Math.Nat.{mul-le-mul_right}
use Rattle.std.proofs.Math.ListN.{length, length-append}
use Rattle.lists.specs.Ends.{length-init, length-rest, first_or, rest}
use Rattle.lists.specs.Alls.{All, all_join, all_rest, all_first}
use Rattle.lists.specs.Sums.{sum, sum_least, sum_most}
use Rattle.lists.specs.Cuts.{ceil, ceil_le, ceil_ge}
use Rattle.rules.specs.Trees.{Tree, nothing, count, others, last_kid, first_kid, later_kids}
use Rattle.rules.specs.Rules.{Meet, leaves, level, left_taller, right_taller, repack, ascend, merge}
use Rattle.rules.specs.Shape.{CountFits, Tidy, Edge, Kinds}
use Rattle.rules.proofs.Dense.{tidy_edge, tidy_kinds}
use Rattle.rules.proofs.Pours.{pour-length, repack-length}
use Rattle.rules.proofs.Rows.{Row, tidy_row, row_join, row_of, repack_tidy, ascend_tidy, ascend_row}

module _ (S : ℕ) (two : 2 ≤ S) where
  pos : 0 < S
  pos = omega arith

  -- The rows of a merge.
  spine_tidy : (h : ℕ) (ls mid cs : List (Tree h)) → All (Tidy S h) ls → All (Tidy S h) mid → All (Tidy S h) cs → All (Tidy S h) (ls ++ mid ++ rest cs)
  spine_tidy h ls mid cs a b c = all_join (Tidy S h) (ls ++ mid) (rest cs) (all_join (Tidy S h) ls mid a b) (all_rest (Tidy S h) cs c)

  spine_row : (h : ℕ) (ls mid cs : List (Tree h)) → All (Tidy S h) ls → 1 ≤ length cs → Row S h cs
      → (Tidy S h (first_or (nothing h) cs) → All (Tidy S h) mid) → (Edge S h (first_or (nothing h) cs) → Kinds S h (first_or (nothing h) cs) → Row S h mid)
      → Row S h (ls ++ mid ++ rest cs)
  spine_row h ls mid [] a n r f g = absurd (omega arith)
  spine_row h ls mid (c ∷ []) a n r f g = rw (append-nil (ls ++ mid)) (row_join S two h ls mid a (g r.0 r.1))
  spine_row h ls mid (c ∷ d ∷ ds) a n r f g = row_join S two h (ls ++ mid) (d ∷ ds) (all_join (Tidy S h) ls mid a (f r.0)) r.1

  pub row_first : (h : ℕ) (cs : List (Tree h)) → 1 ≤ length cs → Row S h cs → Edge S h (first_or (nothing h) cs) × Kinds S h (first_or (nothing h) cs)
  row_first h [] n r = absurd (omega arith)
  row_first h (c ∷ []) n r = r
  row_first h (c ∷ d ∷ ds) n r = (tidy_edge S two h c r.0, tidy_kinds S two h c r.0)

  pub kids_row : (h : ℕ) (t : Tree (suc h)) → Edge S (suc h) t → Kinds S (suc h) t → Row S h t.1
  kids_row h t e k = row_of S two h (nothing h) t.1 e.1 e.2 k.1

  pub merge_tidy : {h k m : ℕ} (p : Meet h k m) (l : Tree h) (r : Tree k) → Edge S h l → Tidy S k r → All (Tidy S m) (merge S p l r)
  unfolding merge
  merge_tidy leaves l r a b = repack_tidy S two zero (l ∷ r ∷ []) (a, (b, tt))
  merge_tidy (level {h} p) l r a b =
      let mid = merge_tidy p (last_kid h l) (first_kid h r) a.2 (all_first (Tidy S h) (nothing h) r.1 b.0.0 b.1) in
      ascend_tidy S two h (others h l) _ (later_kids h r) (spine_tidy h (others h l) _ r.1 a.1 mid b.1)
  merge_tidy (left_taller {h} p) l r a b =
      ascend_tidy S two h (others h l) _ [] (spine_tidy h (others h l) _ [] a.1 (merge_tidy p (last_kid h l) r a.2 b) tt)
  merge_tidy (right_taller {k = k} p) l r a b =
      let mid = merge_tidy p l (first_kid k r) a (all_first (Tidy S k) (nothing k) r.1 b.0.0 b.1) in
      ascend_tidy S two k [] _ (later_kids k r) (spine_tidy k [] (merge S p l (first_kid k r)) r.1 tt mid b.1)

  -- the items that are repacked on a way up
  pub level_items : {h : ℕ} (p : Meet h h h) (l r : Tree (suc h)) → Edge S (suc h) l → Edge S (suc h) r → Kinds S (suc h) r
      → (Edge S h (first_kid h r) → Kinds S h (first_kid h r) → Row S h (merge S p (last_kid h l) (first_kid h r)))
      → Row S h (others h l ++ merge S p (last_kid h l) (first_kid h r) ++ later_kids h r)
  level_items {h} p l r a b k mid = spine_row h (others h l) (merge S p (last_kid h l) (first_kid h r)) r.1 a.1 b.0.0 (kids_row h r b k) (merge_tidy p (last_kid h l) (first_kid h r) a.2) mid

  pub left_items : {h k : ℕ} (p : Meet h k h) (l : Tree (suc h)) (r : Tree k) → Edge S (suc h) l → Row S h (merge S p (last_kid h l) r)
      → Row S h (others h l ++ merge S p (last_kid h l) r ++ [])
  left_items {h} p l r a mid = rw append-nil (row_join S two h (others h l) (merge S p (last_kid h l) r) a.1 mid)

  pub right_items : {h k : ℕ} (p : Meet h k k) (l : Tree h) (r : Tree (suc k)) → Edge S h l → Edge S (suc k) r → Kinds S (suc k) r
      → (Edge S k (first_kid k r) → Kinds S k (first_kid k r) → Row S k (merge S p l (first_kid k r))) → Row S k (merge S p l (first_kid k r) ++ later_kids k r)
  right_items {k = n} p l r a b k mid = spine_row n [] (merge S p l (first_kid n r)) r.1 tt b.0.0 (kids_row n r b k) (merge_tidy p l (first_kid n r) a) mid

  pub merge_row : {h k m : ℕ} (p : Meet h k m) (l : Tree h) (r : Tree k) → Edge S h l → Edge S k r → Kinds S k r → Row S m (merge S p l r)
  unfolding merge
  merge_row leaves l r a b k = tidy_row S two zero (repack S zero (l ∷ r ∷ [])) (repack_tidy S two zero (l ∷ r ∷ []) (a, (b, tt)))
  merge_row (level {h} p) l r a b k =
      ascend_row S two h (others h l) _ (later_kids h r) (level_items p l r a b k (merge_row p (last_kid h l) (first_kid h r) a.2))
  merge_row (left_taller {h} p) l r a b k =
      ascend_row S two h (others h l) _ [] (left_items p l r a (merge_row p (last_kid h l) r a.2 b k))
  merge_row (right_taller {k = n} p) l r a b k =
      ascend_row S two n [] _ (later_kids n r) (right_items p l r a b k (merge_row p l (first_kid n r) a))

  -- "grouped by 32 under at most two nodes"
  pub edge_sized : (h : ℕ) (t : Tree h) → Edge S h t → CountFits S h t
  unfolding count
  edge_sized zero t e = e
  edge_sized (suc h) t e = e.0

  pub tidy_sized : (h : ℕ) (t : Tree h) → Tidy S h t → CountFits S h t
  tidy_sized h t d = edge_sized h t (tidy_edge S two h t d)

  pub row_sized : (h : ℕ) (ts : List (Tree h)) → Row S h ts → All (CountFits S h) ts
  row_sized h [] r = tt
  row_sized h (t ∷ []) r = (edge_sized h t r.0, tt)
  row_sized h (t ∷ u ∷ us) r = (tidy_sized h t r.0, row_sized h (u ∷ us) r.1)

  pub sized_sum : (h : ℕ) (ts : List (Tree h)) → All (CountFits S h) ts → (length ts ≤ sum (count h) ts) × (sum (count h) ts ≤ length ts * S)
  sized_sum h ts a =
      let l = sum_least (CountFits S h) (count h) 1 (λ t s. s.0) ts a in
      let u = sum_most (CountFits S h) (count h) S (λ t s. s.1) ts a in
      (omega arith, u)

  abbrev pub Few : {A : Type 0} → List A → Type 0
  Few ts = (1 ≤ length ts) × (length ts ≤ 2)

  up_few : (h : ℕ) (ls mid rs : List (Tree h)) → Row S h (ls ++ mid ++ rs) → length ls < S → Few mid → length rs < S → Few (ascend S h ls mid rs)
  unfolding ascend
  up_few h ls mid rs a n1 n2 n3 =
      let ts = ls ++ mid ++ rs in
      let e1 = length-append (ls ++ mid) rs in
      let e2 = length-append ls mid in
      let s = sized_sum h ts (row_sized h ts a) in
      let c = repack-length S pos h ts in
      let d = pour-length S pos (suc h) (repack S h ts) in
      let n : length ts ≤ 2 * S = omega arith in
      let m = mul-le-mul_right S n in
      let q : ceil (sum (count h) ts) S ≤ 2 * S = ceil_le _ (2 * S) S pos (omega arith) in
      let q1 : 1 ≤ ceil (sum (count h) ts) S = ceil_ge _ 1 S pos (omega arith) in
      let w : ceil (length (repack S h ts)) S ≤ 2 = ceil_le _ 2 S pos (omega arith) in
      let w1 : 1 ≤ ceil (length (repack S h ts)) S = ceil_ge _ 1 S pos (omega arith) in
      (omega arith, omega arith)

  pub one_less : (h : ℕ) (t : Tree (suc h)) → Edge S (suc h) t → (length (others h t) < S) × (length (later_kids h t) < S)
  one_less h t e = let a = length-init t.1 in let b = length-rest t.1 in (omega arith, omega arith)

  pub merge_few : {h k m : ℕ} (p : Meet h k m) (l : Tree h) (r : Tree k) → Edge S h l → Edge S k r → Kinds S k r → Few (merge S p l r)
  unfolding merge
  merge_few leaves l r a b k =
      let e = repack-length S pos zero (l ∷ r ∷ []) in
      let s = sized_sum zero (l ∷ r ∷ []) (edge_sized zero l a, (edge_sized zero r b, tt)) in
      let u : ceil (sum (count zero) (l ∷ r ∷ [])) S ≤ 2 = ceil_le _ 2 S pos s.1 in
      let w : 1 ≤ ceil (sum (count zero) (l ∷ r ∷ [])) S = let z = s.0 in ceil_ge _ 1 S pos (omega arith) in
      (omega arith, omega arith)
  merge_few (level {h} p) l r a b k =
      let f = row_first h r.1 b.0.0 (kids_row h r b k) in
      up_few h (others h l) _ (later_kids h r) (level_items p l r a b k (merge_row p (last_kid h l) (first_kid h r) a.2))
      (one_less h l a).0 (merge_few p (last_kid h l) (first_kid h r) a.2 f.0 f.1) (one_less h r b).1
  merge_few (left_taller {h} p) l r a b k =
      up_few h (others h l) _ [] (left_items p l r a (merge_row p (last_kid h l) r a.2 b k))
      (one_less h l a).0 (merge_few p (last_kid h l) r a.2 b k) pos
  merge_few (right_taller {k = n} p) l r a b k =
      let f = row_first n r.1 b.0.0 (kids_row n r b k) in
      up_few n [] _ (later_kids n r) (right_items p l r a b k (merge_row p l (first_kid n r) a))
      pos (merge_few p l (first_kid n r) a f.0 f.1) (one_less n r b).1
