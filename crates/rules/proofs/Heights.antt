-- How tall a tree of so many nodes can be: each level of the left edge costs more nodes than the one below it.
use Prim.Native.Nat.{ℕ, zero, suc, ◌+◌, ◌-◌, ◌*◌, ◌<◌, ◌≤◌, max}
use Rattle.std.specs.Prelude.{◌≡◌}
use mathlib.Core.List.{List, [], ◌∷◌}
use native.Mathlib.Omega.{arith}
use Rattle.std.proofs.Math.Decide.{dec_le}
use Rattle.std.proofs.Math.ListN.{length}
use Rattle.lists.specs.Ends.{first_or, length-rest}
use Rattle.lists.specs.Alls.{All, all_both, all_rest}
use Rattle.lists.specs.Sums.{sum, sum_by_first, sum_least}
use Rattle.rules.specs.Trees.{Tree, nothing, count, nodes, first_kid, later_kids, Root}
use Rattle.rules.specs.Rules.{lower, only_child, Meet, leaves, level, left_taller, right_taller, meet, build, merge, join}
use Rattle.rules.specs.Shape.{Solid, Front, Top, Sound}
use Rattle.rules.proofs.PushNodes.{solid_some, solid_first}
use Rattle.rules.proofs.Dense.{edge_solid}
use Rattle.rules.specs.Heights.{below, least_nodes}

below_more : (m n : ℕ) → m ≤ n → below m ≤ below n
unfolding below
below_more m zero h = let e : m ≡ 0 = omega arith in rw e (omega arith)
below_more m (suc n) h = go (dec_le m n) (below_more m n)
  where
    go : Dec (m ≤ n) → (m ≤ n → below m ≤ below n) → below m ≤ below n + n
    go (yes k) ih = let i = ih k in omega arith
    go (no k) ih = let e : m ≡ suc n = omega arith in rw e (omega arith)

kids_solid : (h : ℕ) (t : Tree (suc h)) → Solid (suc h) t → All (Solid h) t.1
unfolding Solid
kids_solid h t s = s.1

-- a tree has a node at each level
pub path_nodes : (h : ℕ) (t : Tree h) → Solid h t → suc h ≤ nodes h t
unfolding nodes
path_nodes zero t s = omega arith
path_nodes (suc h) t s =
    let a = path_nodes h (first_kid h t) (solid_first h t s) in
    let b = sum_by_first (nodes h) (nothing h) t.1 (solid_some h t s) in
    omega arith

-- numbers: one level more on the left edge
raised : {S : ℕ} (n h b x y : ℕ) → S ≡ suc n → S * (S - 1) * b + S * suc h + 1 ≤ x → x + (n * (S * suc h + 1) + 1) ≤ y
    → S * (S - 1) * (b + suc h) + S * suc (suc h) + 1 ≤ y
raised {S} n h b x y e p q =
    let m : S - 1 ≡ n = omega arith in
    let p2 : suc n * n * b + suc n * suc h + 1 ≤ x = rw (m, e) at p in
    let q2 : x + (n * (suc n * suc h + 1) + 1) ≤ y = rw e at q in
    rw (m, e) (omega arith)

at_least : (k c : ℕ) → 1 ≤ k → c ≤ k * c
at_least zero c h = absurd (omega arith)
at_least (suc k) c h = omega arith

more : (c m n : ℕ) → m ≤ n → c * m ≤ c * n
more c m n h = let e : n ≡ m + (n - m) = omega arith in rw e (omega arith)

module _ (S : ℕ) where
  -- a node of S children: S such paths
  wide_nodes : (h : ℕ) (t : Tree (suc h)) → (count (suc h) t ≡ S) × Solid (suc h) t → S * suc h + 1 ≤ nodes (suc h) t
  unfolding count nodes
  wide_nodes h t (e, s) =
      let a = sum_least (Solid h) (nodes h) (suc h) (path_nodes h) t.1 (kids_solid h t s) in
      let b : S * suc h ≤ sum (nodes h) t.1 = rw e at a in
      omega arith

  -- a node of the left edge below the root: the next one down it, and S - 1 children of S children
  front_step : (h n : ℕ) (t : Tree (suc (suc h))) → S ≡ suc n → Front S (suc (suc h)) t → Solid (suc (suc h)) t
      → nodes (suc h) (first_kid (suc h) t) + (n * (S * suc h + 1) + 1) ≤ nodes (suc (suc h)) t
  unfolding nodes
  front_step h n t e f s = let z = go t.1 f.0 f.1 (kids_solid (suc h) t s) in omega arith
    where
      go : (ts : List (Tree (suc h))) → length ts ≡ S → All (λ u. count (suc h) u ≡ S) ts → All (Solid (suc h)) ts
          → nodes (suc h) (first_or (nothing (suc h)) ts) + n * (S * suc h + 1) ≤ sum (nodes (suc h)) ts
      go [] l a s = absurd (omega arith)
      go (x ∷ xs) l a s =
          let c = all_both (λ u. count (suc h) u ≡ S) (Solid (suc h)) xs a.1 s.1 in
          let b = sum_least (λ u. (count (suc h) u ≡ S) × Solid (suc h) u) (nodes (suc h)) (S * suc h + 1) (wide_nodes h) xs c in
          let m : length xs ≡ n = omega arith in
          let b2 : n * (S * suc h + 1) ≤ sum (nodes (suc h)) xs = rw m at b in
          omega arith

  front_count : (h : ℕ) (t : Tree (suc h)) → Front S (suc h) t → count (suc h) t ≡ S
  unfolding count
  front_count h t f = f.0

  front_nodes : (h n : ℕ) (t : Tree h) → S ≡ suc n → Front S h t → Solid h t → S * (S - 1) * below h + S * h + 1 ≤ nodes h t
  unfolding nodes below
  front_nodes zero n t e f s = omega arith
  front_nodes (suc zero) n t e f s = let a = wide_nodes zero t (front_count zero t f, s) in omega arith
  front_nodes (suc (suc h)) n t e f s =
      let ih = front_nodes (suc h) n (first_kid (suc h) t) e f.2 (solid_first (suc h) t s) in
      let a = front_step h n t e f s in
      raised n h (below h + h) _ _ e ih a

  -- the root: at least one more child
  tall_nodes : (h n : ℕ) (t : Tree (suc h)) → S ≡ suc n → Top S (suc h) t → Solid (suc h) t → S * (S - 1) * below h + (S + 1) * h + 3 ≤ nodes (suc h) t
  unfolding nodes
  tall_nodes h n t e w s =
      let a = front_nodes h n (first_kid h t) e w.2 (solid_first h t s) in
      let b = sum_by_first (nodes h) (nothing h) t.1 (solid_some h t s) in
      let c = sum_least (Solid h) (nodes h) (suc h) (path_nodes h) (later_kids h t) (all_rest (Solid h) t.1 (kids_solid h t s)) in
      let l = length-rest t.1 in
      let x = w.0 in
      let d = at_least (length (later_kids h t)) (suc h) (omega arith) in
      omega arith

module _ (S : ℕ) (two : 2 ≤ S) where
  pub tall : (h : ℕ) (t : Tree (suc h)) → Sound S (suc h) t → least_nodes S h ≤ nodes (suc h) t
  unfolding least_nodes
  tall h t s = tall_nodes S h (S - 1) t (omega arith) s.top (edge_solid S two (suc h) t s.edge)

  -- So a tree of at most N nodes has at most b levels above its leaves, if one with more levels has more nodes.
  pub within_levels : (b N : ℕ) → N < least_nodes S b → (h : ℕ) (t : Tree h) → Sound S h t → nodes h t ≤ N → h ≤ b
  unfolding least_nodes
  within_levels b N p zero t s l = omega arith
  within_levels b N p (suc h) t s l = go (dec_le b h)
    where
      go : Dec (b ≤ h) → suc h ≤ b
      go (no k) = omega arith
      go (yes k) =
          let a : S * (S - 1) * below h + (S + 1) * h + 3 ≤ nodes (suc h) t = tall h t s in
          let c = more (S * (S - 1)) (below b) (below h) (below_more b h k) in
          let d = more (S + 1) b h k in
          absurd (omega arith)

-- A join is no lower than either tree, and at most one level higher than the taller.
levels-lower : (h : ℕ) (t : Tree (suc h)) → (h ≤ (lower (suc h) t).0) × ((lower (suc h) t).0 ≤ suc h)
unfolding lower only_child
levels-lower h t = go t.1
  where
    go : (ts : List (Tree h)) → (h ≤ (only_child h (suc h, t) ts).0) × ((only_child h (suc h, t) ts).0 ≤ suc h)
    go [] = (omega arith, omega arith)
    go (u ∷ []) = (omega arith, omega arith)
    go (u ∷ w ∷ us) = (omega arith, omega arith)

meet-max : {h k m : ℕ} → Meet h k m → m ≡ max h k
meet-max leaves = omega arith
meet-max (level p) = let e = meet-max p in omega arith
meet-max (left_taller p) = let e = meet-max p in omega arith
meet-max (right_taller p) = let e = meet-max p in omega arith

pub join-levels : (S : ℕ) (l r : Root) → (max l.0 r.0 ≤ (join S l r).0) × ((join S l r).0 ≤ suc (max l.0 r.0))
unfolding join
join-levels S l r =
    let m = (meet l.0 r.0).0 in
    let p = (meet l.0 r.0).1 in
    let e = meet-max p in
    let z = levels-lower m (build S m (merge S p l.1 r.1)) in
    (omega arith, omega arith)
