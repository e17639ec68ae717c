-- Sound trees are well formed, as specs/Formed.antt says it in document 01's words.
use Prim.Native.Nat.{ℕ, zero, suc, ◌+◌, ◌*◌, ◌%◌, ◌^◌, ◌≤◌}
use Rattle.std.specs.Prelude.{◌≡◌}
use Rattle.std.proofs.Math.Path.{sym, ap}
use Rattle.std.proofs.Common.{◌∙◌}
use mathlib.Core.List.{List, [], ◌∷◌}
use native.Mathlib.Omega.{arith}
use Rattle.std.proofs.Math.Nat.{pow-suc, mul-mod_left, mul_assoc, add-mul}
use Rattle.std.proofs.Math.ListN.{length}
use Rattle.lists.specs.Alls.{All, all_weak, all_by_last}
use Rattle.lists.specs.Sums.{sum, sum_least}
use Rattle.rules.specs.Trees.{Tree, nothing, count, size, nodes, others, last_kid, entries}
use Rattle.rules.specs.Shape.{CountFits, Full, Dense, Tidy, Edge, Kinds, Top, Sound}
use Rattle.rules.proofs.Dense.{dense_split}
use Rattle.rules.specs.Formed.{EveryNode, Rising, SizesRise, RootFits, FullDown, BranchFits, TreeFormed}

module _ (S : ℕ) where
  full_down : (h : ℕ) (t : Tree h) → Full S h t → FullDown S h t
  full_down zero t f = f
  full_down (suc h) t f = (f.1, all_weak (Full S h) (FullDown S h) (full_down h) t.1 f.2)

  tidy_counts : (h : ℕ) (t : Tree h) → Tidy S h t → EveryNode (CountFits S) h t
  unfolding count
  tidy_counts zero t d = d
  tidy_counts (suc h) t d = (d.0, all_weak (Tidy S h) (EveryNode (CountFits S) h) (tidy_counts h) t.1 d.1)

  pub edge_counts : (h : ℕ) (t : Tree h) → Edge S h t → EveryNode (CountFits S) h t
  unfolding count
  edge_counts zero t e = e
  edge_counts (suc h) t e =
      (e.0, all_by_last (EveryNode (CountFits S) h) (nothing h) t.1 (all_weak (Tidy S h) (EveryNode (CountFits S) h) (tidy_counts h) (others h t) e.1) (edge_counts h (last_kid h t) e.2))

  fits_size : (h : ℕ) (t : Tree h) → EveryNode (CountFits S) h t → 1 ≤ size h t
  unfolding size count
  fits_size zero t c = c.0
  fits_size (suc h) t c =
      let s = sum_least (EveryNode (CountFits S) h) (size h) 1 (fits_size h) t.1 c.1 in
      let n = c.0.0 in
      omega arith

  -- a node holds at most S elements of its own
  pub fits_nodes : (h : ℕ) (t : Tree h) → EveryNode (CountFits S) h t → size h t ≤ nodes h t * S
  unfolding size nodes count
  fits_nodes zero t c = let n = c.1 in omega arith
  fits_nodes (suc h) t c = let e = go (fits_nodes h) t.1 c.1 in omega arith
    where
      go : ((u : Tree h) → EveryNode (CountFits S) h u → size h u ≤ nodes h u * S) → (ts : List (Tree h)) → All (EveryNode (CountFits S) h) ts → sum (size h) ts ≤ sum (nodes h) ts * S
      go ih [] a = omega arith
      go ih (u ∷ us) a = let x = ih u a.0 in let y = go ih us a.1 in omega arith

  rising : (h a : ℕ) (ts : List (Tree h)) → All (EveryNode (CountFits S) h) ts → Rising a (entries h a ts)
  unfolding entries
  rising h a [] c = tt
  rising h a (t ∷ ts) c = (let e = fits_size h t c.0 in omega arith, rising h (a + size h t) ts c.1)

  module _ (two : 2 ≤ S) where
    -- a dense tree's size is a multiple of S
    multiple : (h : ℕ) (t : Tree h) → Dense S h t → (q : ℕ) × (size h t ≡ q * S)
    unfolding size
    multiple zero t d = (1, d ∙ (let e : 1 * S ≡ S = omega arith in sym e))
    multiple (suc h) t d =
        let m = multiple h (last_kid h t) d.3 in
        let s = dense_split S two h t d in
        let n = length (others h t) in
        let e = pow-suc S h in
        let a = mul_assoc n (S ^ h) S in
        let b : n * S ^ suc h ≡ n * (S ^ h * S) = ap (λ (x : ℕ). n * x) e in
        let c = add-mul (n * S ^ h) m.0 S in
        let z = m.1 in
        (n * S ^ h + m.0, (let g : sum (size h) t.1 ≡ (n * S ^ h + m.0) * S = omega arith in g))

    branch_fits : (h : ℕ) (t : Tree (suc h)) → Dense S (suc h) t → All (FullDown S h) (others h t) × (size (suc h) t % S ≡ 0)
    branch_fits h t d =
        let m = multiple (suc h) t d in
        (all_weak (Full S h) (FullDown S h) (full_down h) (others h t) d.2, rw m.1 (mul-mod_left m.0 S))

    tidy_branches : (h : ℕ) (t : Tree h) → Tidy S h t → EveryNode (BranchFits S) h t
    tidy_branches zero t d = tt
    tidy_branches (suc h) t d = ((λ e. branch_fits h t (d.2 e)), all_weak (Tidy S h) (EveryNode (BranchFits S) h) (tidy_branches h) t.1 d.1)

    edge_branches : (h : ℕ) (t : Tree h) → Edge S h t → Kinds S h t → EveryNode (BranchFits S) h t
    edge_branches zero t e k = tt
    edge_branches (suc h) t e k = (
      (λ f. branch_fits h t (k.0 f)),
      all_by_last (EveryNode (BranchFits S) h) (nothing h) t.1 (all_weak (Tidy S h) (EveryNode (BranchFits S) h) (tidy_branches h) (others h t) e.1) (edge_branches h (last_kid h t) e.2 k.1),
    )

    root_fits : (h : ℕ) (t : Tree h) → Top S h t → RootFits h t
    root_fits zero t w = tt
    root_fits (suc h) t w = w.0

    sizes_rise : (h : ℕ) (t : Tree h) → EveryNode (CountFits S) h t → EveryNode SizesRise h t
    sizes_rise zero t c = tt
    sizes_rise (suc h) t c = ((λ e. rising h 0 t.1 c.1), all_weak (EveryNode (CountFits S) h) (EveryNode SizesRise h) (sizes_rise h) t.1 c.1)

    pub sound_formed : (h : ℕ) (t : Tree h) → Sound S h t → TreeFormed S h t
    sound_formed h t s =
        let c = edge_counts h t s.edge in
        record {
          counts = c;
          root = root_fits h t s.top;
          branches = edge_branches h t s.edge s.kinds;
          sizes = sizes_rise h t c;
        }
