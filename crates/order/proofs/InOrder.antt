-- The merge in two passes gives the rules' join.
use Prim.Native.Nat.{ℕ, zero, suc, ◌<◌, ◌≤◌}
use Rattle.std.specs.Prelude.{◌≡◌, length}
use Rattle.std.proofs.Math.Path.{refl, sym, ap}
use Rattle.std.proofs.Common.{◌∙◌}
use mathlib.Core.List.{List, [], ◌∷◌, ◌++◌, append_assoc}
use Rattle.rules.specs.Trees.{Tree}
use Rattle.rules.specs.Rules.{lower, only_child, build, pour, repack, ascend}
use Rattle.rules.proofs.Pours.{pour_short}
use Rattle.rules.specs.Sides.{Sides, merge_sides, join_sides}
use Rattle.order.proofs.Insert.{insert_is, into_none}
use Rattle.order.specs.InOrder.{pack, climb, crown, merge_in_order}

module _ (S : ℕ) (pos : 0 < S) where
  -- Level by level it is the merge of the rules.
  pub climb_is : (m : ℕ) (s : Sides m) (xs : List ℕ) → merge_sides S m s xs ≡ pour S m (climb S m (pack S m s) xs)
  unfolding merge_sides climb pack ascend
  climb_is zero s xs = refl
  climb_is (suc m) s xs =
      let C = climb S m (pack S m s.0) xs in
      ap (λ (mid : List (Tree m)). pour S (suc m) (repack S m (s.1 ++ mid ++ s.2))) (climb_is m s.0 xs)
      ∙ ap (λ (ts : List (Tree m)). pour S (suc m) (repack S m ts)) (append_assoc s.1 (pour S m C) s.2)
      ∙ ap (pour S (suc m)) (sym (insert_is S pos m C s.1 s.2))

  crown_is : (m : ℕ) (ns : List (Tree m)) → length ns ≤ S → lower (suc m) (build S m ns) ≡ crown S m ns
  unfolding lower only_child crown
  crown_is m [] l = refl
  crown_is m (t ∷ []) l = refl
  crown_is m (t ∷ u ∷ ts) l = rw (into_none S pos (suc m) (t ∷ u ∷ ts), pour_short S pos (suc m) t (u ∷ ts) l)

  -- And so is the root.
  pub in_order : (m : ℕ) (s : Sides m) (xs : List ℕ) → length (merge_sides S m s xs) ≤ S → join_sides S m s xs ≡ merge_in_order S m s xs
  unfolding join_sides merge_in_order
  in_order m s xs l =
      crown_is m (merge_sides S m s xs) l
      ∙ ap (crown S m) (climb_is m s xs ∙ sym (into_none S pos m (climb S m (pack S m s) xs)))
