-- How many nodes the two passes go through: packing makes no more of them, putting in no fewer; a row has at most 2 S - 2
-- nodes, and at most 2 S slots go up.
use Prim.Native.Nat.{ℕ, zero, suc, ◌+◌, ◌-◌, ◌*◌, ◌<◌, ◌≤◌}
use Rattle.std.specs.Prelude.{◌≡◌, List, ◌++◌}
use Rattle.std.proofs.Math.Path.{refl}
use Rattle.std.proofs.Common.{◌∙◌, ap, length-append}
use native.Mathlib.Omega.{arith}
use Rattle.std.proofs.Math.Nat.{mul-le-mul_right}
use Rattle.std.proofs.Math.ListN.{length}
use Rattle.lists.specs.Ends.{length-init, length-rest}
use Rattle.lists.specs.Alls.{All, all_join, all_weak, all_init, all_last, all_first, all_rest}
use Rattle.lists.specs.Sums.{sum, sum-join, sum_most}
use Rattle.lists.specs.Cuts.{ceil, ceil_le, ceil_mono}
use Rattle.rules.specs.Trees.{Tree, Slot, nothing, last_kid, others, first_kid, later_kids, count}
use Rattle.rules.specs.Rules.{Meet, leaves, level, left_taller, right_taller, pour}
use Rattle.rules.specs.Formed.{EveryNode}
use Rattle.rules.specs.Shape.{CountFits}
use Rattle.rules.proofs.Pours.{pour_counts, repack-length}
use Rattle.rules.specs.Sides.{Side, Sides, left_side, right_side, both}
use Rattle.rules.proofs.Sides.{left_below}
use Rattle.rules.specs.MergeNodes.{rise}
use Rattle.order.specs.Insert.{insert_at, squeeze}
use Rattle.order.proofs.Insert.{squeeze_is, insert_is}
use Rattle.order.specs.InOrder.{pack, climb}
use Rattle.order.specs.Bounds.{Short, ShortSide, ShortSides}

module _ (S : ℕ) (pos : 0 < S) where
  -- Counts alone decide.
  pub squeeze-length : (h : ℕ) (row : List (Tree h)) → length (squeeze S h row) ≡ ceil (sum (count h) row) S
  squeeze-length h row = ap length (squeeze_is S pos h row) ∙ repack-length S pos h row

  pub insert_length : (h : ℕ) (C : List (Slot h)) (L R : List (Tree h))
      → length (insert_at S h (squeeze S h (L ++ R)) (sum (count h) L) C) ≡ ceil (sum (count h) L + length C + sum (count h) R) S
  insert_length h C L R =
      let n : sum (count h) (L ++ (pour S h C ++ R)) ≡ sum (count h) L + length C + sum (count h) R =
      (let a = sum-join (count h) L (pour S h C ++ R) in let b = sum-join (count h) (pour S h C) R in let c = pour_counts S pos h C in omega arith) in
      ap length (insert_is S pos h C L R) ∙ repack-length S pos h (L ++ (pour S h C ++ R)) ∙ rw n

  pub climb-length : (m : ℕ) (s : Sides m) (xs : List ℕ) → length (climb S m (pack S m s) xs) ≡ rise S m s (length xs)
  unfolding climb pack rise
  climb-length zero s xs = refl
  climb-length (suc m) s xs = insert_length m (climb S m (pack S m s.0) xs) s.1 s.2 ∙ rw (climb-length m s.0 xs)

  -- Packing makes no more nodes.
  pub squeeze_fewer : (h : ℕ) (row : List (Tree h)) → All (λ t. count h t ≤ S) row → length (squeeze S h row) ≤ length row
  squeeze_fewer h row a =
      let e = squeeze-length h row in
      let l = ceil_le (sum (count h) row) (length row) S pos (sum_most (λ t. count h t ≤ S) (count h) S (λ t s. s) row a) in
      omega arith

  -- Putting in makes no fewer.
  pub insert_more : (h : ℕ) (C : List (Slot h)) (L R : List (Tree h))
      → length (squeeze S h (L ++ R)) ≤ length (insert_at S h (squeeze S h (L ++ R)) (sum (count h) L) C)
  insert_more h C L R =
      let a = squeeze-length h (L ++ R) in
      let b = insert_length h C L R in
      let c = sum-join (count h) L R in
      let d = ceil_mono (sum (count h) (L ++ R)) (sum (count h) L + length C + sum (count h) R) S pos (omega arith) in
      omega arith

  -- A row has at most 2 S - 2 nodes, packed or not.
  pub row_short : (h : ℕ) (L R : List (Tree h)) → Short S h L → Short S h R → (length (L ++ R) ≤ 2 * S - 2) × (length (squeeze S h (L ++ R)) ≤ 2 * S - 2)
  row_short h L R (a, b) (c, d) =
      let e = length-append L R in
      let f = squeeze_fewer h (L ++ R) (all_join (λ t. count h t ≤ S) L R b d) in
      (omega arith, omega arith)

  -- At most 2 S slots go up.
  pub climb_short : (m : ℕ) (s : Sides m) (xs : List ℕ) → ShortSides S m s → length xs ≤ 2 * S → length (climb S m (pack S m s) xs) ≤ 2 * S
  unfolding climb pack
  climb_short zero s xs q l = l
  climb_short (suc m) s xs q l =
      let ih = climb_short m s.0 xs q.0 l in
      let e = insert_length m (climb S m (pack S m s.0) xs) s.1 s.2 in
      let a = sum_most (λ t. count m t ≤ S) (count m) S (λ t s. s) s.1 q.1.1 in
      let b = sum_most (λ t. count m t ≤ S) (count m) S (λ t s. s) s.2 q.2.1 in
      let c : suc (length s.1) * S ≤ S * S = mul-le-mul_right S q.1.0 in
      let d : suc (length s.2) * S ≤ S * S = mul-le-mul_right S q.2.0 in
      let f : ceil (sum (count m) s.1 + length (climb S m (pack S m s.0) xs) + sum (count m) s.2) S ≤ 2 * S = ceil_le _ (2 * S) S pos (omega arith) in
      omega arith

  -- The sides of trees whose counts are 1 to S are so short.
  few_slots : (h : ℕ) (t : Tree h) → EveryNode (CountFits S) h t → count h t ≤ S
  few_slots zero t c = c.1
  few_slots (suc h) t c = c.0.1

  some_kids : (h : ℕ) (t : Tree (suc h)) → EveryNode (CountFits S) (suc h) t → (1 ≤ length t.1) × (length t.1 ≤ S)
  unfolding count
  some_kids h t c = c.0

  pub left_short : (h : ℕ) (t : Tree h) → EveryNode (CountFits S) h t → ShortSide S h (left_side h 0 t)
  left_short zero t c = tt
  left_short (suc h) t c =
      let n = some_kids h t c in
      let i = length-init t.1 in
      let a = all_weak (EveryNode (CountFits S) h) (λ u. count h u ≤ S) (few_slots h) (others h t) (all_init (EveryNode (CountFits S) h) t.1 c.1) in
      rw (left_below h 0 t (omega arith)) (left_short h (last_kid h t) (all_last (EveryNode (CountFits S) h) (nothing h) t.1 n.0 c.1), (omega arith, a))

  pub right_short : (h : ℕ) (t : Tree h) → EveryNode (CountFits S) h t → ShortSide S h (right_side h t)
  unfolding right_side
  right_short zero t c = tt
  right_short (suc h) t c =
      let n = some_kids h t c in
      let i = length-rest t.1 in
      let a = all_weak (EveryNode (CountFits S) h) (λ u. count h u ≤ S) (few_slots h) (later_kids h t) (all_rest (EveryNode (CountFits S) h) t.1 c.1) in
      (right_short h (first_kid h t) (all_first (EveryNode (CountFits S) h) (nothing h) t.1 n.0 c.1), (omega arith, a))

  pub both_short : {h k m : ℕ} (p : Meet h k m) (a : Side h) (b : Side k) → ShortSide S h a → ShortSide S k b → ShortSides S m (both p a b)
  unfolding both
  both_short leaves a b x y = tt
  both_short (level p) a b x y = (both_short p a.0 b.0 x.0 y.0, x.1, y.1)
  both_short (left_taller p) a b x y = (both_short p a.0 b x.0 y, x.1, (pos, tt))
  both_short (right_taller p) a b x y = (both_short p a b.0 x y.0, (pos, tt), y.1)
