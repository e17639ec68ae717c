-- The machine's laws hold of the tree rules.
use Rattle.std.specs.Prelude.{ℕ, ◌-◌, ◌≤◌, ◌≡◌, refl, length, take}
use Rattle.std.proofs.Common.{sym, length-append, take_at}
use mathlib.Core.List.{List, [], ◌∷◌, ◌++◌}
use Rattle.std.proofs.Math.Option.{Option, none, some}
use native.Mathlib.Omega.{arith}
use Rattle.rules.specs.Trees.{Root, elements, held, tree_nodes}
use Rattle.rules.specs.Rules.{pop, popped, refill}
use Rattle.rules.specs.Shape.{SoundVector, SoundTree}
use Rattle.rules.proofs.Dense.{edge_solid}
use Rattle.rules.proofs.PopNodes.{leaf_pop-nodes}
use Rattle.rules.proofs.Vectors.{none_left, takes_nothing, takes_all}
use Rattle.rules.proofs.Laws.{laws}
use Rattle.machine.specs.Sizes.{block_words}
use Rattle.machine.specs.Laws.{Laws}
use Rattle.doc01.specs.Trees.{trees}

pub block_words_lem : (block_words 32 ≡ 66) × (block_words 4 ≡ 10)
block_words_lem = (refl, refl)

-- the last element gone
without_last : (xs : List ℕ) (y : ℕ) (zs : List ℕ) → xs ++ (y ∷ []) ≡ zs → xs ≡ take (length zs - 1) zs
without_last xs y zs e =
    let n = length-append xs (y ∷ []) in
    rw (← e) (sym (take_at xs (y ∷ []) (length (xs ++ (y ∷ [])) - 1) (omega arith)))

module _ (S W : ℕ) (two : 2 ≤ S) where
  -- pop frees blocks, or keeps them
  pop-held : (o : Option Root) (tail : List ℕ) → SoundTree S o → tree_nodes (refill o tail).tree ≤ tree_nodes o
  unfolding refill
  pop-held none tail s = omega arith
  pop-held (some r) [] s = let e = leaf_pop-nodes r (edge_solid S two r.0 r.1 s.edge) in omega arith
  pop-held (some r) (x ∷ xs) s = omega arith

  pub tree_laws : Laws (trees S W) (SoundVector S)
  unfolding trees elements held pop
  tree_laws =
      let L = laws S two in
      record {
        good_empty = L.new_sound;
        good_push = L.push_keeps;
        good_pop = λ a g h. L.pop_keeps a g;
        good_set = λ a i x g h. L.set_keeps a i x g;
        good_join = L.append_keeps;
        list_empty = refl;
        list_push = λ a x g. L.pushes a x;
        list_pop = λ a g h. without_last (elements (pop a)) (popped a) (elements a) (L.pops a g h);
        list_set = λ a i x g h. L.sets a i x g;
        list_join = λ a b g h. L.appends a b;
        held_empty = refl;
        held-pop = λ a g h. pop-held a.tree a.tail g.of_tree;
        held-set = λ a i x g h. L.set_holds a i x g;
        only_empty = none_left S two;
        join_empty = takes_nothing S two;
        empty_join = takes_all S two;
      }
