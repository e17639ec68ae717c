-- Where a leaf push puts the leaf, and how many nodes it makes: as many as the room found is high.
use Rattle.std.specs.Prelude.{ℕ, zero, suc, ◌+◌, ◌≤◌, ◌≡◌, List, [], ◌∷◌, ◌++◌, Bool, true, false, cond, eqb, length}
use Rattle.std.proofs.Math.Path.{refl}
use Rattle.std.proofs.Math.Option.{Option, none, some}
use native.Mathlib.Omega.{arith}
use Rattle.std.proofs.Common.{eqb-true, eq-eqb, ne_eqb}
use Rattle.std.proofs.lemmas.Bool.{eqb-false}
use Rattle.lists.specs.Alls.{all_last, all_first}
use Rattle.lists.specs.Sums.{sum, sum-join, sum_by_last}
use Rattle.rules.specs.Trees.{Tree, nothing, last_kid, others, first_kid, nodes, Root, tree_nodes}
use Rattle.rules.specs.Rules.{chain, put, push_into, room, leaf_push}
use Rattle.rules.specs.Shape.{Solid, SolidTree}
use Rattle.rules.proofs.Rooms.{Between, room_in}
use Rattle.rules.specs.PushNodes.{added_by, added}

pub solid_some : (h : ℕ) (t : Tree (suc h)) → Solid (suc h) t → 1 ≤ length t.1
unfolding Solid
solid_some h t s = s.0

pub solid_last : (h : ℕ) (t : Tree (suc h)) → Solid (suc h) t → Solid h (last_kid h t)
unfolding Solid
solid_last h t s = all_last (Solid h) (nothing h) t.1 s.0 s.1

pub solid_first : (h : ℕ) (t : Tree (suc h)) → Solid (suc h) t → Solid h (first_kid h t)
unfolding Solid
solid_first h t s = all_first (Solid h) (nothing h) t.1 s.0 s.1

pub chain-nodes : (h : ℕ) (leaf : List ℕ) → nodes h (chain h leaf) ≡ suc h
unfolding nodes chain
chain-nodes zero leaf = refl
chain-nodes (suc h) leaf = let e = chain-nodes h leaf in omega arith

-- The leaf's path is a new child here, or goes further down.
pub put_here : (h : ℕ) (t : Tree (suc h)) (leaf : List ℕ) → put (suc h) (suc h) t leaf ≡ (t.0, t.1 ++ (chain h leaf ∷ []))
unfolding put
put_here h t leaf = rw (eq-eqb (suc h) (suc h) refl)

pub put-below : (h k : ℕ) (t : Tree (suc h)) (leaf : List ℕ) → k ≤ h → put (suc h) k t leaf ≡ (t.0, others h t ++ (put h k (last_kid h t) leaf ∷ []))
unfolding put
put-below h k t leaf l = rw (ne_eqb k (suc h) (λ e. omega arith))

-- The node of height k gets a new child: k nodes down to the leaf.
pub put-nodes : (h k : ℕ) (t : Tree h) (leaf : List ℕ) → Solid h t → 1 ≤ k → k ≤ h → nodes h (put h k t leaf) ≡ nodes h t + k
unfolding nodes put
put-nodes zero k t leaf s a b = absurd (omega arith)
put-nodes (suc h) k t leaf s a b = go (eqb k (suc h)) refl (put-nodes h k (last_kid h t) leaf (solid_last h t s) a)
  where
    go : (q : Bool) → eqb k (suc h) ≡ q → (k ≤ h → nodes h (put h k (last_kid h t) leaf) ≡ nodes h (last_kid h t) + k)
        → suc (sum (nodes h) (cond q (t.1 ++ (chain h leaf ∷ [])) (others h t ++ (put h k (last_kid h t) leaf ∷ [])))) ≡ suc (sum (nodes h) t.1) + k
    go true e ih =
        let j = sum-join (nodes h) t.1 (chain h leaf ∷ []) in
        omega (arith, chain-nodes h leaf, eqb-true k (suc h) e)
    go false e ih =
        let ne = eqb-false k (suc h) e in
        let i = ih (omega arith) in
        let j = sum-join (nodes h) (others h t) (put h k (last_kid h t) leaf ∷ []) in
        let l = sum_by_last (nodes h) (nothing h) t.1 (solid_some h t s) in
        omega arith

module _ (S : ℕ) where
  pub leaf_push-nodes : (o : Option Root) (leaf : List ℕ) → SolidTree o → tree_nodes (some (leaf_push S o leaf)) ≡ tree_nodes o + added S o
  unfolding leaf_push added nodes push_into
  leaf_push-nodes none leaf s = refl
  leaf_push-nodes (some r) leaf s = go (room S r.0 r.1) (room_in S r.0 r.1)
    where
      go : (o : Option ℕ) → Between r.0 o → tree_nodes (some (push_into r leaf o)) ≡ nodes r.0 r.1 + added_by S r o
      go (some k) i = put-nodes r.0 k r.1 leaf s i.0 i.1
      go none i = let c = chain-nodes r.0 leaf in omega arith
