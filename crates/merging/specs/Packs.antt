-- Packing the nodes of one height, on the words of a pool (ws) and of the work area (w).
use Rattle.std.specs.Prelude.{◌≡◌, ℕ, zero, suc, ◌+◌, ◌-◌, ◌*◌, ◌/◌, ◌%◌, ◌<◌, ◌≤◌, min, Bool, false, List, length, ◌==◌, nat_le, nat_lt, slice_index, slice_set}
use Rattle.std.proofs.Math.Path.{refl}
use Rattle.std.proofs.Math.Numerals.{add-one}
use native.Mathlib.Omega.{arith}
use Rattle.std.proofs.Common.{sym, ◌∙◌, lt-ltb, le-ltb}
use borrow.Rule.Slice.PartMut.{mid_of}
use Rattle.blocks.specs.Words.{pick, count_of, slot_of}
use Rattle.blocks.specs.Chain.{Got, alloc_of, on_chain, release_of}
use Rattle.blocks.specs.declared.State.{State}
use Rattle.node.specs.Leaves.{store_of}
use Rattle.node.specs.Builds.{built_of}
use Rattle.merging.specs.Areas.{row_len, set_row_len, row_place, item_of, node_at, flat_at}

-- how many nodes go up, and the state after
pub record Packed : Type 0 where
  pub n : ℕ
  pub state : State

-- what packing answers, the pool's words and the area's after it
abbrev pub Out : Type 0
Out = Packed × List ℕ × List ℕ

-- of n nodes of row j from node i on, the first that is not full; i + n where there is none
unfoldable pub lead_from : List ℕ → List ℕ → ℕ → ℕ → ℕ → ℕ
lead_from ws w j zero i = i
lead_from ws w j (suc n) i = pick (count_of ws (item_of w j i) == 32) (lead_from ws w j n (suc i)) i

-- n nodes from below, from node i on, as the flat slots from q + i on
unfoldable pub lay_nodes : List ℕ → ℕ → ℕ → ℕ → List ℕ
lay_nodes w q zero i = w
lay_nodes w q (suc n) i = lay_nodes (slice_set w (flat_at q + i) (slice_index w (node_at i))) q n (suc i)

-- the flat slot t, or the one past a gap of c that begins there
unfoldable pub next_flat : ℕ → ℕ → ℕ → ℕ
next_flat t q c = pick (t == q) (t + c) t

-- n slots of block b from slot s on as the flat slots from t on, past the gap: the next flat slot, and the area
unfoldable pub pour_node : List ℕ → ℕ → ℕ → ℕ → ℕ → ℕ → ℕ → List ℕ → ℕ × List ℕ
pour_node ws b q c zero s t w = (t, w)
pour_node ws b q c (suc n) s t w = pour_node ws b q c n (suc s) (next_flat (t + 1) q c) (slice_set w (flat_at t) (slot_of ws b s))

-- the slots of n nodes of row j from node i on
unfoldable pub pour_nodes : List ℕ → ℕ → ℕ → ℕ → ℕ → ℕ → ℕ → List ℕ → ℕ × List ℕ
pour_nodes ws j q c zero i t w = (t, w)
pour_nodes ws j q c (suc n) i t w =
    let b = item_of w j i in
    let p = pour_node ws b q c (count_of ws b) 0 t w in
    pour_nodes ws j q c n (suc i) p.0 p.1

unfoldable pub pour_out : List ℕ → List ℕ → ℕ → ℕ → ℕ → ℕ → ℕ × List ℕ
pour_out ws w j k q c = pour_nodes ws j q c (row_len w j - k) k (next_flat 0 q c) w

-- n nodes of row j from node i on as the nodes from out on that go up
unfoldable pub keep_of : List ℕ → ℕ → ℕ → ℕ → ℕ → List ℕ
keep_of w j zero i out = w
keep_of w j (suc n) i out = keep_of (slice_set w (node_at out) (item_of w j i)) j n (suc i) (suc out)

-- a block for a node: the row's node i, or a free one
unfoldable pub block_for : List ℕ → State → List ℕ → ℕ → ℕ → Got
block_for ws st w j i = pick (nat_lt i (row_len w j)) (record { block = item_of w j i; state = st }) (alloc_of ws st)

-- block b as a node of height j of the m flat slots from t on
unfoldable pub write_node : List ℕ → List ℕ → ℕ → ℕ → ℕ → ℕ → List ℕ
write_node ws w b t m j =
    let start = flat_at t in
    pick (nat_le (start + m) (length w)) (built_of (store_of ws b 2 (mid_of start (start + m - start) w)) b m (min j 48 * 5)) ws

-- "poured into children of 32 slots": what is left of the flat slots goes into node i and those after it
unfoldable pub pour_from : ℕ → List ℕ → State → List ℕ → ℕ → ℕ → ℕ → ℕ → ℕ → Out
pour_from zero ws st w j k out left i = (record { n = out + i; state = st }, ws, w)
pour_from (suc fuel) ws st w j k out left i =
    let g = block_for ws st w j (k + i) in
    let m = min 32 left in
    pick (nat_lt 0 left)
    (pour_from fuel (write_node ws w g.block (i * 32) m j) g.state (slice_set w (node_at out + i) g.block) j k out (left - m) (i + 1))
    (record { n = out + i; state = st }, ws, w)

unfoldable pub pour_in : List ℕ → State → List ℕ → ℕ → ℕ → ℕ → ℕ → Out
pour_in ws st w j k total out = pour_from total ws st w j k out total 0

-- n nodes of row j from node i on released
unfoldable pub release_from : ℕ → List ℕ → State → List ℕ → ℕ → ℕ → State × List ℕ
release_from zero ws st w j i = (st, ws)
release_from (suc n) ws st w j i = release_from n (release_of ws st (item_of w j i)) (on_chain st (item_of w j i)) w j (suc i)

unfoldable pub release_items : List ℕ → State → List ℕ → ℕ → ℕ → State × List ℕ
release_items ws st w j k = release_from (row_len w j - k) ws st w j k

unfoldable pub pour_of : List ℕ → State → List ℕ → ℕ → ℕ → ℕ → ℕ → Out
pour_of ws st w j k total out =
    let r = release_items ws st w j (k + (total + 31) / 32) in
    pour_in r.1 r.0 w j k total out

-- the first k nodes of row j go up, and after them new nodes of the c from below
unfoldable pub raise_nodes : List ℕ → State → List ℕ → ℕ → ℕ → ℕ → State × List ℕ × List ℕ
raise_nodes ws st w j k c =
    let p = pour_in ws st (keep_of (lay_nodes w 0 c 0) j (k - 0) 0 0) j (row_len w j) c k in
    (p.0.state, p.1, p.2)

-- the nodes k..l of row j go up after the first out, and after them what the others are poured into
unfoldable pub raise_rest : List ℕ → State → List ℕ → ℕ → ℕ → ℕ → ℕ → Out
raise_rest ws st w j k l out =
    let q = pour_out ws (keep_of w j (l - k) k out) j l 0 0 in
    pour_of ws st q.1 j l q.0 (out + (l - k))

-- the c nodes from below go whole between the first k nodes of row j and the others, of which full ones stay whole
unfoldable pub insert_whole : List ℕ → State → List ℕ → ℕ → ℕ → ℕ → Out
insert_whole ws st w j k c =
    let p = raise_nodes ws st w j k c in
    raise_rest p.1 p.0 p.2 j k (lead_from ws w j (row_len w j - k) k) (k + (c + 31) / 32)

-- the c nodes from below go between the slots, q after those of the first k nodes of row j, and all from there on is poured
unfoldable pub insert_poured : List ℕ → State → List ℕ → ℕ → ℕ → ℕ → ℕ → Out
insert_poured ws st w j k q c =
    let p = pour_out ws (lay_nodes w q c 0) j k q c in
    pour_of ws st (keep_of p.1 j (k - 0) 0 0) j k p.0 k

-- whether c nodes from below at place p, after k full nodes, leave whole what follows them
unfoldable pub stays_whole : ℕ → ℕ → ℕ → Bool
stays_whole k p c = pick (k * 32 == p) (c % 32 == 0) false

-- the nodes from below at the place of row j
unfoldable pub insert_of : List ℕ → State → List ℕ → ℕ → ℕ → Out
insert_of ws st w j c =
    let d = min c 64 in
    let p = row_place w j in
    let k = lead_from ws w j (min (p / 32) (row_len w j) - 0) 0 in
    pick (stays_whole k p d) (insert_whole ws st w j k d) (insert_poured ws st w j k (p - k * 32) d)

-- the nodes of row j packed: full ones at the start stay whole, the others are poured
unfoldable pub squeeze_of : List ℕ → State → List ℕ → ℕ → State × List ℕ × List ℕ
squeeze_of ws st w j =
    let p = insert_whole ws st w j 0 0 in
    (p.0.state, p.1, set_row_len p.2 j p.0.n)

-- an answer and two lists that are those of a triple, each by itself
pub triple_same : {A : Type 0} (t : A × List ℕ × List ℕ) (a : A) (xs ys : List ℕ) → (a ≡ t.0) × ((xs ≡ t.1) × (ys ≡ t.2))
    → ◌≡◌ {A = A × List ℕ × List ℕ} (a, xs, ys) t
triple_same t a xs ys e = λ i. (e.0 i, e.1.0 i, e.1.1 i)

-- The laws by which the loops go on.
module _ (ws w : List ℕ) (j n i : ℕ) where
  pub lead_end : n ≤ i → lead_from ws w j (n - i) i ≡ i
  unfolding lead_from
  lead_end h = let e : n - i ≡ 0 = omega arith in rw e

  pub lead_at : i < n → lead_from ws w j (n - i) i ≡ pick (count_of ws (item_of w j i) == 32) (lead_from ws w j (n - (i + 1)) (i + 1)) i
  unfolding lead_from
  lead_at h = let e : n - i ≡ suc (n - (i + 1)) = omega arith in rw (e, add-one)

module _ (w : List ℕ) (q n i : ℕ) where
  pub lay_end : n ≤ i → lay_nodes w q (n - i) i ≡ w
  unfolding lay_nodes
  lay_end h = let e : n - i ≡ 0 = omega arith in rw e

  pub lay_at : i < n → lay_nodes w q (n - i) i ≡ lay_nodes (slice_set w (flat_at q + i) (slice_index w (node_at i))) q (n - (i + 1)) (i + 1)
  unfolding lay_nodes
  lay_at h = let e : n - i ≡ suc (n - (i + 1)) = omega arith in rw (e, add-one)

module _ (ws : List ℕ) (b q c n s t : ℕ) (w : List ℕ) where
  pub node_end : n ≤ s → pour_node ws b q c (n - s) s t w ≡ (t, w)
  unfolding pour_node
  node_end h = let e : n - s ≡ 0 = omega arith in rw e

  pub node-at : s < n → pour_node ws b q c (n - s) s t w ≡ pour_node ws b q c (n - (s + 1)) (s + 1) (next_flat (t + 1) q c) (slice_set w (flat_at t) (slot_of ws b s))
  unfolding pour_node
  node-at h = let e : n - s ≡ suc (n - (s + 1)) = omega arith in rw (e, add-one s)

module _ (ws : List ℕ) (j q c n i t : ℕ) (w : List ℕ) where
  pub nodes_end : n ≤ i → pour_nodes ws j q c (n - i) i t w ≡ (t, w)
  unfolding pour_nodes
  nodes_end h = let e : n - i ≡ 0 = omega arith in rw e

  pub nodes_at : i < n → (b : ℕ) (p : ℕ × List ℕ) → b ≡ item_of w j i → p ≡ pour_node ws b q c (count_of ws b) 0 t w
      → pour_nodes ws j q c (n - i) i t w ≡ pour_nodes ws j q c (n - (i + 1)) (i + 1) p.0 p.1
  unfolding pour_nodes
  nodes_at h b p f g = let e : n - i ≡ suc (n - (i + 1)) = omega arith in rw (e, add-one, g, f)

  -- a node whose slots were all laid
  pub nodes_more : i < n → (b m s u : ℕ) (v : List ℕ) → b ≡ item_of w j i → m ≡ count_of ws b → m ≤ s
      → pour_node ws b q c m 0 t w ≡ pour_node ws b q c (m - s) s u v
      → pour_nodes ws j q c (n - i) i t w ≡ pour_nodes ws j q c (n - (i + 1)) (i + 1) u v
  nodes_more h b m s u v f g l e = nodes_at h b (u, v) f (sym (rw (← g) (e ∙ node_end ws b q c m s u v l)))

module _ (w : List ℕ) (j n i out : ℕ) where
  pub keep_end : n ≤ i → keep_of w j (n - i) i out ≡ w
  unfolding keep_of
  keep_end h = let e : n - i ≡ 0 = omega arith in rw e

  pub keep_at : i < n → keep_of w j (n - i) i out ≡ keep_of (slice_set w (node_at out) (item_of w j i)) j (n - (i + 1)) (i + 1) (out + 1)
  unfolding keep_of
  keep_at h = let e : n - i ≡ suc (n - (i + 1)) = omega arith in rw (e, add-one i, add-one out)

module _ (ws : List ℕ) (st : State) (w : List ℕ) (j k out left i : ℕ) where
  pub pour_end : (fuel : ℕ) → left ≤ 0 → pour_from fuel ws st w j k out left i ≡ (record { n = out + i; state = st }, ws, w)
  unfolding pour_from
  pour_end zero h = refl
  pour_end (suc fuel) h = rw (le-ltb 0 left h)

  pub pour_at : (fuel : ℕ) → 0 < left → left ≤ fuel → (g : Got) (m : ℕ) → g ≡ block_for ws st w j (k + i) → m ≡ min 32 left
      → pour_from fuel ws st w j k out left i
      ≡ pour_from (fuel - 1) (write_node ws w g.block (i * 32) m j) g.state (slice_set w (node_at out + i) g.block) j k out (left - m) (i + 1)
  unfolding pour_from
  pour_at zero p l g m e f = absurd (omega arith)
  pour_at (suc fuel) p l g m e f = let d : suc fuel - 1 ≡ fuel = omega arith in rw (lt-ltb 0 left p, d, e, f)

module _ (ws : List ℕ) (st : State) (w : List ℕ) (j n i : ℕ) where
  pub release_end : n ≤ i → release_from (n - i) ws st w j i ≡ (st, ws)
  unfolding release_from
  release_end h = let e : n - i ≡ 0 = omega arith in rw e

  pub release_at : i < n
      → release_from (n - i) ws st w j i ≡ release_from (n - (i + 1)) (release_of ws st (item_of w j i)) (on_chain st (item_of w j i)) w j (i + 1)
  unfolding release_from
  release_at h = let e : n - i ≡ suc (n - (i + 1)) = omega arith in rw (e, add-one)
