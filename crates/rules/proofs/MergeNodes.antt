-- A merge makes as many nodes as specs/MergeNodes.antt works out from counts alone.
use Prim.Native.Nat.{ℕ, zero, suc, ◌+◌, ◌<◌}
use Rattle.std.specs.Prelude.{◌≡◌, refl, List, [], ◌∷◌, ◌++◌, length}
use Rattle.std.proofs.Common.{sym, ◌∙◌, ne_eqb}
use Rattle.std.proofs.Math.Path.{ap}
use Rattle.std.proofs.Math.Option.{some}
use native.Mathlib.Omega.{arith}
use Rattle.std.proofs.Math.ListN.{length-append}
use Rattle.lists.specs.Sums.{sum, sum-join}
use Rattle.lists.specs.Cuts.{ceil}
use Rattle.rules.specs.Trees.{Tree, count, nodes, tree_nodes}
use Rattle.rules.specs.Rules.{lower, build, pour, repack, ascend}
use Rattle.rules.proofs.Pours.{pour-length, pour_counts, pour-nodes, repack-length, repack-nodes}
use Rattle.rules.specs.Sides.{Sides, merge_sides, join_sides, sides_sum}
use Rattle.rules.specs.MergeNodes.{one, root_over, rise, made}

sum_one : (h : ℕ) (ts : List (Tree h)) → sum (one h) ts ≡ length ts
sum_one h [] = refl
sum_one h (t ∷ ts) = let e = sum_one h ts in omega arith

leaf_nodes : (ts : List (List ℕ)) → sum (nodes zero) ts ≡ length ts
unfolding nodes
leaf_nodes ts = sum_one zero ts

lower-nodes : (h : ℕ) (t : Tree (suc h)) → tree_nodes (some (lower (suc h) t)) ≡ sum (nodes h) t.1 + root_over (length t.1)
unfolding lower nodes
lower-nodes h t = go t.1 refl
  where
    go : (ts : List (Tree h)) → t.1 ≡ ts → tree_nodes (some (lower (suc h) t)) ≡ sum (nodes h) t.1 + root_over (length t.1)
    go [] e = rw e
    go (u ∷ []) e = rw e (omega arith)
    go (u ∷ w ∷ ts) e = rw (e, ne_eqb (suc (suc (length ts))) 1 (λ z. omega arith)) (omega arith)

module _ (S : ℕ) where
  module _ (pos : 0 < S) where
    pub ascend_counts : (h : ℕ) (ls mid rs : List (Tree h))
        → sum (count (suc h)) (ascend S h ls mid rs) ≡ ceil (sum (count h) ls + sum (count h) mid + sum (count h) rs) S
    unfolding ascend
    ascend_counts h ls mid rs =
        pour_counts S pos (suc h) (repack S h (ls ++ mid ++ rs)) ∙ repack-length S pos h (ls ++ mid ++ rs)
        ∙ rw (sum-join (count h) (ls ++ mid) rs, sum-join (count h) ls mid)

    ascend-length : (h : ℕ) (ls mid rs : List (Tree h)) → length (ascend S h ls mid rs) ≡ ceil (sum (count (suc h)) (ascend S h ls mid rs)) S
    unfolding ascend
    ascend-length h ls mid rs =
        let ts = repack S h (ls ++ mid ++ rs) in
        pour-length S pos (suc h) ts ∙ ap (λ (n : ℕ). ceil n S) (sym (pour_counts S pos (suc h) ts))

    -- the nodes that were there go, the slots divided by S come, and those that group them
    ascend-nodes : (h : ℕ) (ls mid rs : List (Tree h))
        → sum (nodes (suc h)) (ascend S h ls mid rs) + (length ls + length mid + length rs)
        ≡ length (ascend S h ls mid rs) + sum (count (suc h)) (ascend S h ls mid rs) + (sum (nodes h) ls + sum (nodes h) mid + sum (nodes h) rs)
    unfolding ascend
    ascend-nodes h ls mid rs =
        let all = ls ++ mid ++ rs in
        let p = pour-nodes S pos h (repack S h all) in
        let l = pour-length S pos (suc h) (repack S h all) in
        let c = pour_counts S pos (suc h) (repack S h all) in
        let r = repack-nodes S pos h all in
        let n = repack-length S pos h all in
        omega (arith, sum-join (nodes h) (ls ++ mid) rs, sum-join (nodes h) ls mid, length-append (ls ++ mid) rs, length-append ls mid)

    pub merged_slots : (m : ℕ) (s : Sides m) (xs : List ℕ) → sum (count m) (merge_sides S m s xs) ≡ rise S m s (length xs)
    unfolding merge_sides rise
    merged_slots zero s xs = pour_counts S pos zero xs
    merged_slots (suc m) s xs = ascend_counts m s.1 (merge_sides S m s.0 xs) s.2 ∙ rw (merged_slots m s.0 xs)

    pub merged_length : (m : ℕ) (s : Sides m) (xs : List ℕ) → length (merge_sides S m s xs) ≡ ceil (rise S m s (length xs)) S
    unfolding merge_sides
    merged_length zero s xs = pour-length S pos zero xs ∙ ap (λ (n : ℕ). ceil n S) (sym (pour_counts S pos zero xs) ∙ merged_slots zero s xs)
    merged_length (suc m) s xs =
        ascend-length m s.1 (merge_sides S m s.0 xs) s.2 ∙ ap (λ (n : ℕ). ceil n S) (merged_slots (suc m) s xs)

    pub merged_nodes : (m : ℕ) (s : Sides m) (xs : List ℕ)
        → sum (nodes m) (merge_sides S m s xs) + sides_sum one m s ≡ sides_sum nodes m s + (made S m s (length xs) + ceil (rise S m s (length xs)) S)
    unfolding merge_sides sides_sum made
    merged_nodes zero s xs = let n = leaf_nodes (pour S zero xs) in let l = merged_length zero s xs in omega arith
    merged_nodes (suc m) s xs =
        let mid = merge_sides S m s.0 xs in
        let ih = merged_nodes m s.0 xs in
        let a = ascend-nodes m s.1 mid s.2 in
        let len = merged_length m s.0 xs in
        let len2 = merged_length (suc m) s xs in
        let cnt = merged_slots (suc m) s xs in
        omega (arith, sum_one m s.1, sum_one m s.2)

    -- The nodes after a join: what hangs beside the two ways down, but for the nodes that are packed anew, and the new ones.
    pub join-nodes : (m : ℕ) (s : Sides m) (xs : List ℕ)
        → let top = ceil (rise S m s (length xs)) S in
        tree_nodes (some (join_sides S m s xs)) + sides_sum one m s ≡ sides_sum nodes m s + (made S m s (length xs) + (top + root_over top))
    unfolding join_sides
    join-nodes m s xs =
        let a = lower-nodes m (build S m (merge_sides S m s xs)) in
        let b = merged_nodes m s xs in
        let c = merged_length m s xs in
        rw (a, c) (omega arith)
