-- Held after a push and after an append, from the room found and from counts: known before anything changes.
use Prim.Native.Nat.{ℕ, suc, ◌+◌, ◌≤◌}
use Rattle.std.specs.Prelude.{◌≡◌, refl, List, [], ◌∷◌, ◌++◌, Bool, ltb, take}
use Rattle.std.proofs.Common.{sym, ◌∙◌}
use Rattle.std.proofs.Math.Path.{ap}
use Rattle.std.proofs.Math.Bool.{true, false, cond}
use Rattle.std.proofs.Math.Option.{Option, none, some}
use native.Mathlib.Omega.{arith}
use Rattle.std.proofs.Math.ListN.{length, drop, length-append}
use Rattle.lists.specs.Cuts.{ceil}
use Rattle.rules.specs.Trees.{nodes, Root, Vector, tree_nodes, held}
use Rattle.rules.specs.Rules.{room, leaf_push, meet, settle, push, flush, append}
use Rattle.rules.specs.Shape.{SolidTree, SoundTree, SoundVector}
use Rattle.rules.proofs.Rooms.{Between, room_in}
use Rattle.rules.specs.PushNodes.{added}
use Rattle.rules.proofs.PushNodes.{leaf_push-nodes}
use Rattle.rules.proofs.Dense.{edge_solid}
use Rattle.rules.specs.Sides.{hung, receiver, met, meeting, side_sum, sides_sum, right_side}
use Rattle.rules.proofs.Sides.{join_meets, both-sum, no_side-sum, left_nodes, right_nodes}
use Rattle.rules.specs.MergeNodes.{one, rise, made, root_over}
use Rattle.rules.proofs.MergeNodes.{join-nodes}
use Rattle.rules.proofs.Vectors.{append_tails, append_moves, append_trees}
use Rattle.rules.specs.HeldAfter.{way_to, on_way}

-- Its nodes are those and the ones beside the way.
receiver-nodes : (S : ℕ) (o : Option Root) (tail : List ℕ) → SolidTree o
    → tree_nodes o ≡ side_sum nodes (receiver S o tail).0 (receiver S o tail).1 + on_way S o tail
unfolding receiver on_way side_sum
receiver-nodes S none tail s = refl
receiver-nodes S (some r) [] s = let e = left_nodes r.0 0 r.1 s (omega arith) in omega arith
receiver-nodes S (some r) (x ∷ xs) s = go (room S r.0 r.1) (room_in S r.0 r.1)
  where
    go : (q : Option ℕ) → Between r.0 q → nodes r.0 r.1 ≡ side_sum nodes (hung r q).0 (hung r q).1 + way_to r q
    go (some k) i = left_nodes r.0 k r.1 s i.1
    go none i = let z = no_side-sum nodes r.0 in omega arith

module _ (S : ℕ) (two : 2 ≤ S) where
  sound_solid : (o : Option Root) → SoundTree S o → SolidTree o
  sound_solid none s = tt
  sound_solid (some r) s = edge_solid S two r.0 r.1 s.edge

  settle-held : (o : Option Root) (tail : List ℕ) → SoundTree S o → held (settle S o tail) ≡ tree_nodes o + cond (ltb (length tail) S) 0 (added S o)
  unfolding settle held
  settle-held o tail s = go (ltb (length tail) S)
    where
      go : (b : Bool) → held (cond b record { tree = o; tail = tail } record { tree = some (leaf_push S o (take S tail)); tail = drop S tail }) ≡ tree_nodes o + cond b 0 (added S o)
      go true = omega arith
      go false = leaf_push-nodes S o (take S tail) (sound_solid o s)

  -- A push: what a leaf push adds, when the tail fills.
  pub push-held : (v : Vector) (x : ℕ) → SoundVector S v → held (push S v x) ≡ held v + cond (ltb (suc (length v.tail)) S) 0 (added S v.tree)
  unfolding push held
  push-held v x s =
      let n : length (v.tail ++ (x ∷ [])) ≡ suc (length v.tail) = let e = length-append v.tail (x ∷ []) in omega arith in
      settle-held v.tree (v.tail ++ (x ∷ [])) s.of_tree ∙ rw n

  -- An append, the giver treeless: the same by both tails.
  pub append-held_tails : (v w : Vector) → SoundVector S v → w.tree ≡ none
      → held (append S v w) ≡ held v + cond (ltb (length v.tail + length w.tail) S) 0 (added S v.tree)
  unfolding held
  append-held_tails v w s e =
      ap held (append_tails S v w e) ∙ settle-held v.tree (v.tail ++ w.tail) s.of_tree ∙ rw (length-append v.tail w.tail)

  -- The receiver empty: the giver's.
  pub append-held_moves : (v w : Vector) (r : Root) → w.tree ≡ some r → flush S v.tree v.tail ≡ none → held (append S v w) ≡ held w
  unfolding held
  append-held_moves v w r e f = ap held (append_moves S v w r e f) ∙ ap tree_nodes (sym e)

  -- Two trees: both, but for the nodes on the two ways down and those beside them, which are packed anew.
  pub append-held_trees : (v w : Vector) (l r : Root) → SoundVector S v → SoundVector S w → w.tree ≡ some r → flush S v.tree v.tail ≡ some l
      → let m = meeting S v.tree v.tail r in
      let n = length m.middle in
      let top = ceil (rise S m.height m.sides n) S in
      held (append S v w) + (on_way S v.tree v.tail + suc r.0 + sides_sum one m.height m.sides) ≡ held v + held w + (made S m.height m.sides n + (top + root_over top))
  unfolding held meeting met
  append-held_trees v w l r s t e f =
      let m = meeting S v.tree v.tail r in
      let a = receiver S v.tree v.tail in
      let j = join-nodes S (omega arith) m.height m.sides m.middle in
      let h = ap held (append_trees S v w l r e f) ∙ ap (λ (q : Root). tree_nodes (some q)) (join_meets S (omega arith) v.tree v.tail l r f) in
      let b = both-sum nodes (meet a.0 r.0).1 a.1 (right_side r.0 r.1) in
      let x = receiver-nodes S v.tree v.tail (sound_solid v.tree s.of_tree) in
      let y : tree_nodes (some r) ≡ side_sum nodes r.0 (right_side r.0 r.1) + suc r.0 = right_nodes r.0 r.1 (rw e at (sound_solid w.tree t.of_tree)) in
      let z = ap tree_nodes e in
      omega arith
