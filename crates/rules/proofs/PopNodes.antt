-- A leaf pop frees the nodes that specs/PopNodes.antt reads off the tree.
use Rattle.std.specs.Prelude.{ℕ, zero, suc, ◌+◌, ◌-◌, ◌≤◌, ◌≡◌, refl, List, [], ◌∷◌, ◌++◌, true, false, cond, eqb, length}
use Rattle.std.proofs.Common.{ap, arith, eq-eqb, ne_eqb}
use Rattle.std.proofs.Math.Bool.{and-false}
use Rattle.std.proofs.Math.Option.{Option, none, some, map}
use Rattle.lists.specs.Ends.{length-init}
use Rattle.lists.specs.Sums.{sum, sum-join, sum_by_last}
use Rattle.rules.specs.Trees.{Tree, nothing, nodes, others, last_kid, Root, tree_nodes}
use Rattle.rules.specs.Rules.{lower, without, if_any, only_child, leaf_pop}
use Rattle.rules.specs.Shape.{Solid}
use Rattle.rules.proofs.PushNodes.{solid_some, solid_last}
use Rattle.rules.specs.PopNodes.{thin, taken, Popped, replaced}

pub without-nodes : (h : ℕ) (t : Tree h) → Solid h t → Popped h t (without h t)
unfolding without nodes taken thin
without-nodes zero t s = (refl, refl)
without-nodes (suc h) t s = go (without h (last_kid h t)) (without-nodes h (last_kid h t) (solid_last h t s))
  where
    l : sum (nodes h) t.1 ≡ sum (nodes h) (others h t) + nodes h (last_kid h t)
    l = sum_by_last (nodes h) (nothing h) t.1 (solid_some h t s)

    i : length (others h t) ≡ length t.1 - 1
    i = length-init t.1

    n : 1 ≤ length t.1
    n = solid_some h t s

    none_left : (ts : List (Tree h)) → others h t ≡ ts → thin h (last_kid h t) ≡ true → nodes h (last_kid h t) ≡ taken h (last_kid h t) → Popped (suc h) t (if_any t.0 ts)
    none_left [] e f g =
        let z = ap length e in
        let y = n in
        let x = i in
        let o : eqb (length t.1) 1 ≡ true = eq-eqb (length t.1) 1 (omega arith) in
        let a : sum (nodes h) (others h t) ≡ 0 = ap (sum (nodes h)) e in
        let w = l in
        (rw (o, f), rw (o, f) (omega arith))
    none_left (u ∷ us) e f g =
        let z = ap length e in
        let y = n in
        let x = i in
        let o : eqb (length t.1) 1 ≡ false = ne_eqb (length t.1) 1 (λ q. omega arith) in
        let a : sum (nodes h) (others h t) ≡ sum (nodes h) (u ∷ us) = ap (sum (nodes h)) e in
        let w = l in
        (rw o, rw o (omega arith))

    go : (o : Option (Tree h)) → Popped h (last_kid h t) o → Popped (suc h) t (elim o [ some u ↦ some (t.0, others h t ++ (u ∷ [])) | none ↦ if_any t.0 (others h t) ])
    go (some u) p =
        let f = p.0 in
        let g = p.1 in
        let w = l in
        let j = sum-join (nodes h) (others h t) (u ∷ []) in
        let b = and-false (eqb (length t.1) 1) in
        (rw (f, b), rw (f, b) (omega arith))
    go none p = none_left (others h t) refl p.0 p.1

lowered : (h : ℕ) (u : Tree h) → tree_nodes (some (lower h u)) + replaced h (some u) ≡ nodes h u
unfolding lower nodes
lowered zero u = omega arith
lowered (suc h) u = go u.1 refl
  where
    go : (ts : List (Tree h)) → u.1 ≡ ts → tree_nodes (some (only_child h (suc h, u) ts)) + cond (eqb (length ts) 1) 1 0 ≡ suc (sum (nodes h) ts)
    go [] e = rw e (omega arith)
    go (x ∷ []) e = omega arith
    go (x ∷ y ∷ ys) e =
        let o : eqb (suc (suc (length ys))) 1 ≡ false = ne_eqb (suc (suc (length ys))) 1 (λ q. omega arith) in
        let z : cond {A = ℕ} (eqb (suc (suc (length ys))) 1) 1 0 ≡ 0 = rw o in
        rw e (omega arith)

-- the nodes after a leaf pop
pub leaf_pop-nodes : (r : Root) → Solid r.0 r.1
    → tree_nodes (leaf_pop r) + (taken r.0 r.1 + replaced r.0 (without r.0 r.1)) ≡ tree_nodes (some r)
unfolding leaf_pop
leaf_pop-nodes r s = go r.0 r.1 (without r.0 r.1) (without-nodes r.0 r.1 s)
  where
    go : (h : ℕ) (t : Tree h) (o : Option (Tree h)) → Popped h t o → tree_nodes (map (lower h) o) + (taken h t + replaced h o) ≡ nodes h t
    go h t none p = let e = p.1 in omega arith
    go h t (some u) p = let e = p.1 in let f = lowered h u in omega arith
