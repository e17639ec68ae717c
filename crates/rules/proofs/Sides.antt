-- A merge and a join come from the two sides and the leaves that meet alone; and how many nodes the sides have.
use Rattle.std.specs.Prelude.{ℕ, zero, suc, ◌+◌, ◌-◌, ◌<◌, ◌≤◌, ◌≡◌, refl, List, [], ◌∷◌, ◌++◌, Bool, false}
use Rattle.std.proofs.Common.{sym, ◌∙◌, ap, append-nil, arith, eq-eqb, ne_eqb}
use Rattle.std.proofs.Math.Option.{Option, none, some, none-ne-some, some-injective}
use Rattle.std.proofs.Math.Decide.{ℕ_discrete}
use Rattle.lists.specs.Ends.{init_snoc, last_snoc}
use Rattle.lists.specs.Sums.{sum, sum_by_last, sum_by_first}
use Rattle.rules.specs.Trees.{Tree, nothing, last_kid, others, first_kid, later_kids, relaxed, nodes, Root}
use Rattle.rules.specs.Rules.{chain, put, push_into, room, leaf_push, last_leaf, Meet, leaves, level, left_taller, right_taller, meet, pour, ascend, merge, join, flush}
use Rattle.rules.specs.Shape.{Solid}
use Rattle.rules.proofs.PushNodes.{solid_some, solid_last, solid_first, put_here, put-below}
use Rattle.rules.proofs.Rooms.{Between, room_in}
use Rattle.rules.proofs.Pours.{repack_leaves}
use Rattle.rules.specs.Sides.{Side, no_side, left_side, right_side, first_leaf, both, merge_sides, join_sides, hung, Left, left_of, receiver, met, meeting, side_sum, sides_sum}

pub left_below : (h stop : ℕ) (t : Tree (suc h)) → stop ≤ h → left_side (suc h) stop t ≡ (left_side h stop (last_kid h t), others h t)
unfolding left_side
left_below h stop t l = rw (ne_eqb stop (suc h) (λ e. omega arith))

left_here : (h : ℕ) (t : Tree (suc h)) → left_side (suc h) (suc h) t ≡ (no_side h, t.1)
unfolding left_side
left_here h t = rw (eq-eqb (suc h) (suc h) refl)

-- That is all that a merge sees.
pub merge_sides_lem : (S : ℕ) → 0 < S → {h k m : ℕ} (p : Meet h k m) (l : Tree h) (r : Tree k)
    → merge S p l r ≡ merge_sides S m (both p (left_side h 0 l) (right_side k r)) (last_leaf h l ++ first_leaf k r)
unfolding merge merge_sides both left_side right_side last_leaf first_leaf
merge_sides_lem S pos leaves l r = repack_leaves S pos (l ∷ r ∷ []) ∙ ap (λ (x : List ℕ). pour S zero (l ++ x)) (append-nil r)
merge_sides_lem S pos (level {h} p) l r =
    rw (left_below h 0 l (omega arith)) (ap (λ (x : List (Tree h)). ascend S h (others h l) x (later_kids h r)) (merge_sides_lem S pos p (last_kid h l) (first_kid h r)))
merge_sides_lem S pos (left_taller {h} p) l r =
    rw (left_below h 0 l (omega arith)) (ap (λ (x : List (Tree h)). ascend S h (others h l) x []) (merge_sides_lem S pos p (last_kid h l) r))
merge_sides_lem S pos (right_taller {k = k} p) l r = ap (λ (x : List (Tree k)). ascend S k [] x (later_kids k r)) (merge_sides_lem S pos p l (first_kid k r))

pub join_sides_lem : (S : ℕ) → 0 < S → (l r : Root)
    → join S l r ≡ join_sides S (meet l.0 r.0).0 (both (meet l.0 r.0).1 (left_side l.0 0 l.1) (right_side r.0 r.1))
    (last_leaf l.0 l.1 ++ first_leaf r.0 r.1)
unfolding join join_sides
join_sides_lem S pos l r = rw (merge_sides_lem S pos (meet l.0 r.0).1 l.1 r.1)

-- A leaf pushed first.
snoc_left : (h : ℕ) (b : Bool) (ts : List (Tree h)) (t : Tree h)
    → (left_side (suc h) 0 (b, ts ++ (t ∷ [])) ≡ (left_side h 0 t, ts)) × (last_leaf (suc h) (b, ts ++ (t ∷ [])) ≡ last_leaf h t)
unfolding last_leaf
snoc_left h b ts t = (left_below h 0 (b, ts ++ (t ∷ [])) (omega arith) ∙ rw (last_snoc (nothing h) ts t, init_snoc ts t), rw (last_snoc (nothing h) ts t))

chain_left : (h : ℕ) (leaf : List ℕ) → (left_side h 0 (chain h leaf) ≡ no_side h) × (last_leaf h (chain h leaf) ≡ leaf)
unfolding left_side chain last_leaf
chain_left zero leaf = (refl, refl)
chain_left (suc h) leaf = let c = chain_left h leaf in let s = snoc_left h false [] (chain h leaf) in (s.0 ∙ rw c.0, s.1 ∙ c.1)

put_left : (h k : ℕ) (t : Tree h) (leaf : List ℕ) → 1 ≤ k → k ≤ h → (left_side h 0 (put h k t leaf) ≡ left_side h k t) × (last_leaf h (put h k t leaf) ≡ leaf)
put_left zero k t leaf a b = absurd (omega arith)
put_left (suc h) k t leaf a b = go (ℕ_discrete k (suc h)) (put_left h k (last_kid h t) leaf a)
  where
    go : Dec (k ≡ suc h) → (k ≤ h → (left_side h 0 (put h k (last_kid h t) leaf) ≡ left_side h k (last_kid h t)) × (last_leaf h (put h k (last_kid h t) leaf) ≡ leaf))
        → (left_side (suc h) 0 (put (suc h) k t leaf) ≡ left_side (suc h) k t) × (last_leaf (suc h) (put (suc h) k t leaf) ≡ leaf)
    go (yes e) ih =
        let c = chain_left h leaf in
        let s = snoc_left h t.0 t.1 (chain h leaf) in
        rw (e, put_here h t leaf) (s.0 ∙ rw c.0 (sym (left_here h t)), s.1 ∙ c.1)
    go (no e) ih =
        let i = ih (omega arith) in
        let s = snoc_left h t.0 (others h t) (put h k (last_kid h t) leaf) in
        rw (put-below h k t leaf (omega arith)) (s.0 ∙ rw i.0 (sym (left_below h k t (omega arith))), s.1 ∙ i.1)

pushed_left : (r : Root) (leaf : List ℕ) (o : Option ℕ) → Between r.0 o → left_of (push_into r leaf o) ≡ ((hung r o).0, (hung r o).1, leaf)
unfolding push_into
pushed_left r leaf (some k) i = let e = put_left r.0 k r.1 leaf i.0 i.1 in rw (e.0, e.1)
pushed_left r leaf none i =
    let c = chain_left r.0 leaf in
    let s = snoc_left r.0 (relaxed r.0 r.1) (r.1 ∷ []) (chain r.0 leaf) in
    rw (s.0, s.1, c.0, c.1)

pub flush_left : (S : ℕ) (o : Option Root) (tail : List ℕ) (l : Root) → flush S o tail ≡ some l → left_of l ≡ receiver S o tail
unfolding flush receiver leaf_push left_side last_leaf
flush_left S none [] l e = absurd (none-ne-some l e)
flush_left S (some r) [] l e = ap left_of (sym (some-injective r l e))
flush_left S none (x ∷ xs) l e = ap left_of (sym (some-injective _ l e))
flush_left S (some r) (x ∷ xs) l e =
    ap left_of (sym (some-injective _ l e)) ∙ pushed_left r (x ∷ xs) (room S r.0 r.1) (room_in S r.0 r.1)

pub join_meets : (S : ℕ) → 0 < S → (o : Option Root) (tail : List ℕ) (l r : Root) → flush S o tail ≡ some l
    → let m = meeting S o tail r in join S l r ≡ join_sides S m.height m.sides m.middle
unfolding meeting met
join_meets S pos o tail l r e =
    join_sides_lem S pos l r ∙ ap (λ (a : Left). let m = met a r in join_sides S m.height m.sides m.middle) (flush_left S o tail l e)

pub both-sum : (f : (h : ℕ) → Tree h → ℕ) {h k m : ℕ} (p : Meet h k m) (a : Side h) (b : Side k) → sides_sum f m (both p a b) ≡ side_sum f h a + side_sum f k b
unfolding sides_sum side_sum both
both-sum f leaves a b = refl
both-sum f (level p) a b = let e = both-sum f p a.0 b.0 in omega arith
both-sum f (left_taller p) a b = let e = both-sum f p a.0 b in omega arith
both-sum f (right_taller p) a b = let e = both-sum f p a b.0 in omega arith

pub no_side-sum : (f : (h : ℕ) → Tree h → ℕ) (h : ℕ) → side_sum f h (no_side h) ≡ 0
unfolding side_sum
no_side-sum f zero = refl
no_side-sum f (suc h) = let e = no_side-sum f h in omega arith

-- A tree's nodes: those of its side, and the ones on the way down, from the root to the leaf or to the height stop.
pub left_nodes : (h stop : ℕ) (t : Tree h) → Solid h t → stop ≤ h → nodes h t ≡ side_sum nodes h (left_side h stop t) + (suc h - stop)
unfolding nodes side_sum left_side
left_nodes zero stop t s l = omega arith
left_nodes (suc h) stop t s l = go (ℕ_discrete stop (suc h)) (left_nodes h stop (last_kid h t) (solid_last h t s))
  where
    go : Dec (stop ≡ suc h) → (stop ≤ h → nodes h (last_kid h t) ≡ side_sum nodes h (left_side h stop (last_kid h t)) + (suc h - stop))
        → suc (sum (nodes h) t.1) ≡ side_sum nodes (suc h) (left_side (suc h) stop t) + (suc (suc h) - stop)
    go (yes e) ih = let z = no_side-sum nodes h in rw (e, left_here h t) (omega arith)
    go (no e) ih =
        let i = ih (omega arith) in
        let b = sum_by_last (nodes h) (nothing h) t.1 (solid_some h t s) in
        rw (left_below h stop t (omega arith)) (omega arith)

pub right_nodes : (h : ℕ) (t : Tree h) → Solid h t → nodes h t ≡ side_sum nodes h (right_side h t) + suc h
unfolding nodes side_sum right_side
right_nodes zero t s = refl
right_nodes (suc h) t s =
    let i = right_nodes h (first_kid h t) (solid_first h t s) in
    let b = sum_by_first (nodes h) (nothing h) t.1 (solid_some h t s) in
    omega arith
