-- The shapes full, dense and tidy: which follows from which, and how many elements such trees have.
use Prim.Native.Nat.{ℕ, zero, suc, ◌+◌, ◌*◌, ◌^◌, ◌<◌, ◌≤◌}
use Rattle.std.specs.Prelude.{◌≡◌, refl, List, [], ◌∷◌, ◌++◌, Bool, false}
use Rattle.std.proofs.Common.{sym, ◌∙◌, pow-suc, length-append}
use Rattle.std.proofs.Math.Path.{ap}
use native.Mathlib.Omega.{arith}
use Rattle.std.proofs.Math.Nat.{pow-zero, pow-succ', mul-le-mul_right, one-le-pow}
use Rattle.std.proofs.Math.Decide.{dec_le}
use Rattle.std.proofs.Math.ListN.{length}
use Rattle.lists.specs.Ends.{init_snoc, last_snoc, length-init}
use Rattle.lists.specs.Alls.{All, all_init, all_last, all_by_last, all_weak}
use Rattle.lists.specs.Sums.{sum_all, sum_by_last}
use Rattle.rules.specs.Trees.{Tree, nothing, size, others, last_kid}
use Rattle.rules.specs.Rules.{chain}
use Rattle.rules.specs.Shape.{Solid, Counted, Full, Dense, Tidy, Edge, Kinds}

module _ (S : ℕ) (two : 2 ≤ S) where
  pub full_dense : (h : ℕ) (t : Tree h) → Full S h t → Dense S h t
  full_dense zero t f = f
  full_dense (suc h) t f =
      let c : Counted S t.1 = omega arith in
      (f.0, c, all_init (Full S h) t.1 f.2, full_dense h (last_kid h t) (all_last (Full S h) (nothing h) t.1 c.0 f.2))

  pub full_tidy : (h : ℕ) (t : Tree h) → Full S h t → Tidy S h t
  full_tidy zero t f = omega arith
  full_tidy (suc h) t f =
      let c : Counted S t.1 = omega arith in
      (c, all_weak (Full S h) (Tidy S h) (full_tidy h) t.1 f.2, (λ e. full_dense (suc h) t f), (λ e n. f))

  pub tidy_edge : (h : ℕ) (t : Tree h) → Tidy S h t → Edge S h t
  tidy_edge zero t d = d
  tidy_edge (suc h) t d = (d.0, all_init (Tidy S h) t.1 d.1, tidy_edge h (last_kid h t) (all_last (Tidy S h) (nothing h) t.1 d.0.0 d.1))

  pub tidy_kinds : (h : ℕ) (t : Tree h) → Tidy S h t → Kinds S h t
  tidy_kinds zero t d = tt
  tidy_kinds (suc h) t d = (d.2, tidy_kinds h (last_kid h t) (all_last (Tidy S h) (nothing h) t.1 d.0.0 d.1))

  pub dense_kinds : (h : ℕ) (t : Tree h) → Dense S h t → Kinds S h t
  dense_kinds zero t d = tt
  dense_kinds (suc h) t d = ((λ e. d), dense_kinds h (last_kid h t) d.3)

  pub pow_one : S ^ 1 ≡ S
  pow_one = let e = pow-suc S 0 in let z : S ^ 0 * S ≡ 1 * S = ap (λ (n : ℕ). n * S) (pow-zero S) in omega arith

  -- a tree full to the bottom has S to the power of its levels
  pub full_size : (h : ℕ) (t : Tree h) → Full S h t → size h t ≡ S ^ suc h
  unfolding size
  full_size zero t f = let e = pow_one in omega arith
  full_size (suc h) t f =
      let s = sum_all (Full S h) (size h) (S ^ suc h) (full_size h) t.1 f.2 in
      let e = pow-succ' S (suc h) in
      s ∙ rw f.1 (sym e)

  -- a dense node's size: its other children are full
  pub dense_split : (h : ℕ) (t : Tree (suc h)) → Dense S (suc h) t → size (suc h) t ≡ length (others h t) * S ^ suc h + size h (last_kid h t)
  unfolding size
  dense_split h t d =
      let a = sum_by_last (size h) (nothing h) t.1 d.1.0 in
      let b = sum_all (Full S h) (size h) (S ^ suc h) (full_size h) (others h t) d.2 in
      omega arith

  pub dense_size : (h : ℕ) (t : Tree h) → Dense S h t → size h t ≤ S ^ suc h
  unfolding size
  dense_size zero t d = let e = pow_one in omega arith
  dense_size (suc h) t d =
      let s = dense_split h t d in
      let i = dense_size h (last_kid h t) d.3 in
      let l = length-init t.1 in
      let e = pow-succ' S (suc h) in
      let n : suc (length (others h t)) ≤ S = omega arith in
      let m = mul-le-mul_right (S ^ suc h) n in
      omega arith

  pub dense_full : (h : ℕ) (t : Tree h) → Dense S h t → S ^ suc h ≤ size h t → Full S h t
  unfolding size
  dense_full zero t d g = d
  dense_full (suc h) t d g =
      let s = dense_split h t d in
      let i = dense_size h (last_kid h t) d.3 in
      let l = length-init t.1 in
      let e = pow-succ' S (suc h) in
      let c : length t.1 ≡ S = go (dec_le S (length t.1)) in
      let m : suc (length (others h t)) ≡ S = omega arith in
      let q : suc (length (others h t)) * S ^ suc h ≡ S * S ^ suc h = ap (λ (n : ℕ). n * S ^ suc h) m in
      (d.0, c, all_by_last (Full S h) (nothing h) t.1 d.2 (dense_full h (last_kid h t) d.3 (omega arith)))
    where
      go : Dec (S ≤ length t.1) → length t.1 ≡ S
      go (yes y) = omega arith
      go (no y) =
          let s = dense_split h t d in
          let i = dense_size h (last_kid h t) d.3 in
          let l = length-init t.1 in
          let e = pow-succ' S (suc h) in
          let n : suc (suc (length (others h t))) ≤ S = omega arith in
          let m = mul-le-mul_right (S ^ suc h) n in
          let z = one-le-pow (suc h) S (omega arith) in
          absurd (omega arith)

  -- a dense node of count S but for one more child
  pub dense_snoc : (h : ℕ) (ts : List (Tree h)) (t : Tree h) → All (Full S h) ts → Dense S h t → length ts < S → Dense S (suc h) (false, ts ++ (t ∷ []))
  dense_snoc h ts t f d l = let e = length-append ts (t ∷ []) in (refl, omega arith, rw init_snoc f, rw last_snoc d)

  pub edge_snoc : (h : ℕ) (b : Bool) (ts : List (Tree h)) (t : Tree h) → All (Tidy S h) ts → Edge S h t → length ts < S → Edge S (suc h) (b, ts ++ (t ∷ []))
  edge_snoc h b ts t f d l = let e = length-append ts (t ∷ []) in (omega arith, rw init_snoc f, rw last_snoc d)

  pub chain_dense : (h : ℕ) (leaf : List ℕ) → length leaf ≡ S → Dense S h (chain h leaf)
  unfolding chain
  chain_dense zero leaf l = l
  chain_dense (suc h) leaf l = (refl, omega arith, tt, chain_dense h leaf l)

  pub chain_edge : (h : ℕ) (leaf : List ℕ) → Counted S leaf → Edge S h (chain h leaf)
  unfolding chain
  chain_edge zero leaf l = l
  chain_edge (suc h) leaf l = (omega arith, tt, chain_edge h leaf l)

  -- no node of a sound tree is empty
  tidy_solid : (h : ℕ) (t : Tree h) → Tidy S h t → Solid h t
  unfolding Solid
  tidy_solid zero t d = d.0
  tidy_solid (suc h) t d = (d.0.0, all_weak (Tidy S h) (Solid h) (tidy_solid h) t.1 d.1)

  pub edge_solid : (h : ℕ) (t : Tree h) → Edge S h t → Solid h t
  unfolding Solid
  edge_solid zero t e = e.0
  edge_solid (suc h) t e =
      (e.0.0, all_by_last (Solid h) (nothing h) t.1 (all_weak (Tidy S h) (Solid h) (tidy_solid h) (others h t) e.1) (edge_solid h (last_kid h t) e.2))
