-- The merge: a recursion down both spines and up again, on the words of a pool (ws) and of the work area (w).
use Rattle.std.specs.Prelude.{◌≡◌, ℕ, zero, suc, ◌+◌, ◌-◌, ◌*◌, ◌<◌, ◌≤◌, min, List, Option, None, Some, length, replicate, nat_lt, slice_index, slice_set}
use Rattle.std.proofs.Math.Path.{refl}
use Rattle.std.proofs.Common.{◌∙◌, ap, add-one}
use native.Mathlib.Omega.{arith}
use borrow.Author.Tests.{lt-ltb, le-ltb}
use Rattle.std.proofs.lemmas.List.Edits.{sets}
use Rattle.blocks.specs.Words.{pick, count_of, slot_of}
use Rattle.blocks.specs.Chain.{on_chain, release_of}
use Rattle.blocks.specs.declared.State.{State}
use Rattle.node.specs.Leaves.{slots_from}
use Rattle.merging.specs.Areas.{row_len, set_row_place, item_of, add_item, node_at}
use Rattle.merging.specs.Spines.{others_of, below_of}
use Rattle.merging.specs.Packs.{Out, insert_of, squeeze_of}
use Rattle.levels.specs.declared.Shift.{Shift}
use Rattle.merging.specs.declared.spines.Spine.{Spine}
use Rattle.merging.specs.declared.spines.Pair.{Pair}
use Rattle.merging.specs.declared.spines.Others.{Others}
use Rattle.merging.specs.declared.spines.Others.TheVariants as others

-- the merged tree's root and level, and the state after
pub record Merged : Type 0 where
  pub root : ℕ
  pub shift : Shift
  pub state : State

-- n children of b from child i on added to row j
unfoldable pub add_from : List ℕ → List ℕ → ℕ → ℕ → ℕ → ℕ → List ℕ
add_from ws w j b zero i = w
add_from ws w j b (suc n) i = add_from ws (add_item w j (slot_of ws b i)) j b n (suc i)

unfoldable pub add_items : List ℕ → List ℕ → ℕ → ℕ → ℕ → ℕ → List ℕ
add_items ws w j b start to = add_from ws w j b (min to 32 - start) start

-- the slots of n nodes of row j from node i on
unfoldable pub slots_sum : List ℕ → List ℕ → ℕ → ℕ → ℕ → ℕ
slots_sum ws w j zero i = 0
slots_sum ws w j (suc n) i = count_of ws (item_of w j i) + slots_sum ws w j n (suc i)

unfoldable pub row_slots : List ℕ → List ℕ → ℕ → ℕ
row_slots ws w j = slots_sum ws w j (row_len w j) 0

-- the nodes beside a spine go into row j, and their spine node is released
unfoldable pub collect_of : List ℕ → State → List ℕ → ℕ → Option Others → State × List ℕ × List ℕ
collect_of ws st w j None = (st, ws, w)
collect_of ws st w j (Some (others.Kids k)) = (on_chain st k.block, release_of ws st k.block, add_items ws w j k.block k.from k.to)
collect_of ws st w j (Some (others.Only b)) = (st, ws, add_item w j b)

-- both spines' nodes go into row j, the left ones first; its place is after those
unfoldable pub collect_both : List ℕ → State → List ℕ → ℕ → Option Others → Option Others → State × List ℕ × List ℕ
collect_both ws st w j l r =
    let p = collect_of ws st w j l in
    collect_of p.1 p.0 (set_row_place p.2 j (row_slots p.1 p.2 j)) j r

-- n elements of leaf b from element i on go up, after the first out
unfoldable pub lift_from : List ℕ → List ℕ → ℕ → ℕ → ℕ → ℕ → List ℕ
lift_from ws w b out zero i = w
lift_from ws w b out (suc n) i = lift_from ws (slice_set w (node_at out + i) (slot_of ws b i)) b out n (suc i)

unfoldable pub lift_leaf : List ℕ → List ℕ → ℕ → ℕ → List ℕ
lift_leaf ws w b out = lift_from ws w b out (count_of ws b) 0

unfoldable pub lift_tail : List ℕ → List ℕ → List ℕ
lift_tail w xs = sets w (node_at 0) xs

-- the elements of the two leaves that meet go up; a tail stands for the left one
unfoldable pub lift_leaves : List ℕ → State → List ℕ → List ℕ → ℕ → ℕ → Out
lift_leaves ws st w xs l r =
    let t = length xs in
    let n = count_of ws r in
    let m = count_of ws l in
    pick (nat_lt 0 t)
    (record { n = t + n; state = on_chain st r }, release_of ws st r, lift_leaf ws (lift_tail w xs) r t) (
      record { n = m + n; state = on_chain (on_chain st l) r },
      release_of (release_of ws st l) (on_chain st l) r,
      lift_leaf ws (lift_leaf ws w l 0) r m,
    )

-- the spines from height j down: what goes up to height j
unfoldable pub merge_level : ℕ → List ℕ → State → List ℕ → List ℕ → Spine → Spine → Out
merge_level zero ws st w xs l r = lift_leaves ws st w xs l.block r.block
merge_level (suc k) ws st w xs l r =
    let p = collect_both ws st w k (others_of ws l (suc k)) (others_of ws r (suc k)) in
    let s = squeeze_of p.1 p.0 p.2 k in
    let m = merge_level k s.1 s.0 s.2 xs (below_of ws l (suc k)) (below_of ws r (suc k)) in
    insert_of m.1 m.0.state m.2 k m.0.n

-- what was packed at a height as a tree: its root is the first node that goes up
abbrev pub as_tree : ℕ → Out → Merged × List ℕ × List ℕ
as_tree height o = (record { root = slice_index o.2 (node_at 0); shift = record { 0 = min height 48 * 5 }; state = o.0.state }, o.1, o.2)

-- "A merged root of one child is replaced by the child; otherwise the shift rises by 5."
unfoldable pub merge_of : List ℕ → State → List ℕ → List ℕ → Pair → Merged × List ℕ × List ℕ
merge_of ws st w xs p =
    let top = p.top in
    let m = merge_level top ws st (replicate (length w) 0) xs p.left p.right in
    let one = insert_of m.1 m.0.state m.2 top m.0.n in
    pick (nat_lt one.0.n 2) (as_tree top one) (as_tree (top + 1) (insert_of one.1 one.0.state one.2 (top + 1) one.0.n))

pub merged_same : (m : Merged) (root shift : ℕ) (st : State) → m.root ≡ root → m.shift.0 ≡ shift → m.state ≡ st
    → m ≡ record { root = root; shift = record { 0 = shift }; state = st }
merged_same m root shift st e f g = λ i. record { root = e i; shift = record { 0 = f i }; state = g i }

-- The laws by which loops and recursion go on.
module _ (ws w : List ℕ) (j b n i : ℕ) where
  pub add_end : n ≤ i → add_from ws w j b (n - i) i ≡ w
  unfolding add_from
  add_end h = let e : n - i ≡ 0 = omega arith in rw e

  pub add_at : i < n → add_from ws w j b (n - i) i ≡ add_from ws (add_item w j (slot_of ws b i)) j b (n - (i + 1)) (i + 1)
  unfolding add_from
  add_at h = let e : n - i ≡ suc (n - (i + 1)) = omega arith in rw (e, add-one)

module _ (ws w : List ℕ) (j n i : ℕ) where
  pub slots_end : n ≤ i → slots_sum ws w j (n - i) i ≡ 0
  unfolding slots_sum
  slots_end h = let e : n - i ≡ 0 = omega arith in rw e

  pub slots_at : i < n → slots_sum ws w j (n - i) i ≡ count_of ws (item_of w j i) + slots_sum ws w j (n - (i + 1)) (i + 1)
  unfolding slots_sum
  slots_at h = let e : n - i ≡ suc (n - (i + 1)) = omega arith in rw (e, add-one)

module _ (ws w : List ℕ) (b out n i : ℕ) where
  pub lift_end : n ≤ i → lift_from ws w b out (n - i) i ≡ w
  unfolding lift_from
  lift_end h = let e : n - i ≡ 0 = omega arith in rw e

  pub lift_at : i < n → lift_from ws w b out (n - i) i ≡ lift_from ws (slice_set w (node_at out + i) (slot_of ws b i)) b out (n - (i + 1)) (i + 1)
  unfolding lift_from
  lift_at h = let e : n - i ≡ suc (n - (i + 1)) = omega arith in rw (e, add-one)

-- a leaf's elements go up as a tail's words do
lift_sets : (ws w : List ℕ) (b out n i : ℕ) → lift_from ws w b out n i ≡ sets w (node_at out + i) (slots_from ws b i n)
unfolding lift_from slots_from
lift_sets ws w b out zero i = refl
lift_sets ws w b out (suc n) i =
    let v = slice_set w (node_at out + i) (slot_of ws b i) in
    let e : node_at out + suc i ≡ suc (node_at out + i) = omega arith in
    lift_sets ws v b out n (suc i) ∙ ap (λ (p : ℕ). sets v p (slots_from ws b (suc i) n)) e

pub leaf_sets : (ws w : List ℕ) (b out : ℕ) → lift_leaf ws w b out ≡ sets w (node_at out) (slots_from ws b 0 (count_of ws b))
unfolding lift_leaf
leaf_sets ws w b out = let e : node_at out + 0 ≡ node_at out = omega arith in rw (lift_sets ws w b out (count_of ws b) 0, e)

module _ (ws : List ℕ) (st : State) (w xs : List ℕ) (l r : Spine) where
  pub merge_bottom : (j : ℕ) → j ≡ 0 → merge_level j ws st w xs l r ≡ lift_leaves ws st w xs l.block r.block
  unfolding merge_level
  merge_bottom zero e = refl
  merge_bottom (suc j) e = absurd (omega arith)

  merge_suc : (k : ℕ) (p s : State × List ℕ × List ℕ) (m : Out)
      → p ≡ collect_both ws st w k (others_of ws l (suc k)) (others_of ws r (suc k)) → s ≡ squeeze_of p.1 p.0 p.2 k
      → m ≡ merge_level k s.1 s.0 s.2 xs (below_of ws l (suc k)) (below_of ws r (suc k))
      → merge_level (suc k) ws st w xs l r ≡ insert_of m.1 m.0.state m.2 k m.0.n
  unfolding merge_level
  merge_suc k p s m e f g = rw (g, f, e)

  pub merge_up : (j : ℕ) → 0 < j → (p s : State × List ℕ × List ℕ) (m : Out)
      → p ≡ collect_both ws st w (j - 1) (others_of ws l j) (others_of ws r j) → s ≡ squeeze_of p.1 p.0 p.2 (j - 1)
      → m ≡ merge_level (j - 1) s.1 s.0 s.2 xs (below_of ws l j) (below_of ws r j)
      → merge_level j ws st w xs l r ≡ insert_of m.1 m.0.state m.2 (j - 1) m.0.n
  merge_up zero h p s m e f g = absurd (omega arith)
  merge_up (suc j) h p s m e f g = let d : suc j - 1 ≡ j = omega arith in rw d (merge_suc j p s m (rw d at e) (rw d at f) (rw d at g))

module _ (ws : List ℕ) (st : State) (w xs : List ℕ) (p : Pair) (v : List ℕ) (m one : Out) (e : v ≡ replicate (length w) 0)
    (f : m ≡ merge_level p.top ws st v xs p.left p.right) (g : one ≡ insert_of m.1 m.0.state m.2 p.top m.0.n) where
  pub merge_one : one.0.n < 2 → merge_of ws st w xs p ≡ as_tree p.top one
  unfolding merge_of
  merge_one h = rw (← e, ← f, ← g, lt-ltb _ _ h)

  pub merge_two : 2 ≤ one.0.n → (two : Out) → two ≡ insert_of one.1 one.0.state one.2 (p.top + 1) one.0.n
      → merge_of ws st w xs p ≡ as_tree (p.top + 1) two
  unfolding merge_of
  merge_two h two d = rw (← e, ← f, ← g, le-ltb _ _ h, ← d)
