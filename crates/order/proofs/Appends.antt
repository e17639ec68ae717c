-- An append of two trees in order, the receiver's short tail not yet pushed: the rules' append, within the bounds.
use Rattle.std.specs.Prelude.{ℕ, zero, suc, ◌≤◌, ◌≡◌, length}
use Rattle.std.proofs.Common.{◌∙◌, ap, arith}
use Rattle.std.proofs.Math.Path.{subst}
use Rattle.std.proofs.Math.Option.{some}
use Rattle.std.proofs.Math.ListN.{length-append}
use Rattle.lists.specs.Alls.{all_first}
use Rattle.rules.specs.Trees.{Tree, nothing, first_kid, count, Root, Vector}
use Rattle.rules.specs.Rules.{last_leaf, meet, flush, append}
use Rattle.rules.specs.Shape.{CountFits, Edge, Sound, SoundVector}
use Rattle.rules.specs.Formed.{EveryNode}
use Rattle.rules.proofs.Formed.{edge_counts}
use Rattle.rules.specs.Sides.{Left, left_of, first_leaf, met, meeting}
use Rattle.rules.proofs.Sides.{merge_sides_lem, flush_left, join_meets}
use Rattle.rules.proofs.MergeRows.{merge_few}
use Rattle.rules.proofs.Vectors.{last_leaf-counted, flushed, append_trees}
use Rattle.order.specs.InOrder.{merge_in_order}
use Rattle.order.proofs.InOrder.{in_order}
use Rattle.order.proofs.Bounds.{left_short, right_short, both_short}
use Rattle.order.specs.Appends.{Bounded}

first_few : (S h : ℕ) (t : Tree h) → EveryNode (CountFits S) h t → length (first_leaf h t) ≤ S
unfolding first_leaf count
first_few S zero t c = c.1
first_few S (suc h) t c = first_few S h (first_kid h t) (all_first (EveryNode (CountFits S) h) (nothing h) t.1 c.0.0 c.1)

module _ (S : ℕ) (two : 2 ≤ S) where
  tree_bounded : (l r : Root) → Edge S l.0 l.1 → Sound S r.0 r.1 → Bounded S (met (left_of l) r)
  unfolding met
  tree_bounded l r e s =
      let c = edge_counts S r.0 r.1 s.edge in
      let p = meet l.0 r.0 in
      let a = last_leaf-counted S two l.0 l.1 e in
      let b = first_few S r.0 r.1 c in
      let n = length-append (last_leaf l.0 l.1) (first_leaf r.0 r.1) in
      record {
        rows = both_short S (omega arith) p.1 _ _ (left_short S (omega arith) l.0 l.1 (edge_counts S l.0 l.1 e)) (right_short S (omega arith) r.0 r.1 c);
        middle_few = omega arith;
        tops = rw (merge_sides_lem S (omega arith) p.1 l.1 r.1) at (merge_few S two p.1 l.1 r.1 e s.edge s.kinds);
      }

  -- The receiver's tree v and tail, the giver's tree r.
  pub append_bounded : (v : Vector) (l r : Root) → SoundVector S v → Sound S r.0 r.1 → flush S v.tree v.tail ≡ some l → Bounded S (meeting S v.tree v.tail r)
  unfolding meeting met
  append_bounded v l r a s f =
      subst (λ (x : Left). Bounded S (met x r)) (flush_left S v.tree v.tail l f) (tree_bounded l r (flushed S two v.tree v.tail a.of_tree a.of_tail l f).0 s)

  pub append_in_order : (v w : Vector) (l r : Root) → SoundVector S v → SoundVector S w → w.tree ≡ some r → flush S v.tree v.tail ≡ some l
      → let m = meeting S v.tree v.tail r in
      append S v w ≡ record { tree = some (merge_in_order S m.height m.sides m.middle); tail = w.tail }
  append_in_order v w l r a b e f =
      let m = meeting S v.tree v.tail r in
      let B = append_bounded v l r a (rw e at b.of_tree) f in
      let t = B.tops in
      append_trees S v w l r e f
      ∙ ap (λ (q : Root). record { tree = some q; tail = w.tail }) (join_meets S (omega arith) v.tree v.tail l r f ∙ in_order S (omega arith) m.height m.sides m.middle (omega arith))
