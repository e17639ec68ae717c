-- The walk down to the leaf that holds a place, on the words of a pool.
use Rattle.std.specs.Prelude.{◌≡◌, ℕ, zero, suc, ◌-◌, ◌≤◌, List, ◌==◌, ◌≢◌}
use Rattle.std.proofs.Math.Path.{refl}
use native.Mathlib.Omega.{arith}
use Rattle.std.proofs.Common.{eq-eqb, ne_eqb}
use Rattle.levels.specs.Place.{child_of, element_of}
use Rattle.blocks.specs.Words.{pick, kind_of, slot_of}
use Rattle.node.specs.Branches.{above_of, before_of}
use Rattle.rrbtree.specs.declared.Tree.{Tree}
use Rattle.levels.specs.declared.Index.{Index}

-- a child's block, and the place in it
pub record Down : Type 0 where
  pub block : ℕ
  pub place : Index

-- a leaf's block, and the slot in it
pub record Found : Type 0 where
  pub block : ℕ
  pub slot : ℕ

-- "In a `Branch` the child slot is place div 2^shift, mod 32. In a `RelaxedBranch` it is the first slot whose size entry
-- exceeds the place; the entry before it is then subtracted."
unfoldable pub down_of : List ℕ → ℕ → ℕ → ℕ → Down
down_of ws b shift place =
    let i = above_of ws b shift place in
    pick (kind_of ws b == 3)
    (record { block = slot_of ws b i; place = record { 0 = place - before_of ws b i } })
    (record { block = slot_of ws b (child_of place shift); place = record { 0 = place } })

-- the leaf, and the slot in it; the fuel is at least the shift
unfoldable pub walk_of : ℕ → List ℕ → ℕ → ℕ → ℕ → Found
walk_of zero ws b shift place = record { block = b; slot = element_of place }
walk_of (suc k) ws b shift place =
    let d = down_of ws b shift place in
    pick (shift == 0) (record { block = b; slot = element_of place }) (walk_of k ws d.block (shift - 5) d.place.0)

unfoldable pub found_of : List ℕ → Tree → ℕ → Found
found_of ws t place = walk_of t.shift.0 ws t.root t.shift.0 place

-- The laws by which the walk goes on.
pub down_same : (d : Down) (b place : ℕ) → d.block ≡ b → d.place.0 ≡ place → d ≡ record { block = b; place = record { 0 = place } }
down_same d b place e f = λ i. record { block = e i; place = record { 0 = f i } }

module _ (ws : List ℕ) (b shift place : ℕ) where
  pub walk_leaf : (k : ℕ) → shift ≡ 0 → walk_of k ws b shift place ≡ record { block = b; slot = element_of place }
  unfolding walk_of
  walk_leaf zero e = refl
  walk_leaf (suc k) e = rw (eq-eqb _ _ e)

  pub walk_on : (k : ℕ) → (shift ≢ 0) → shift ≤ k
      → walk_of k ws b shift place ≡ walk_of (k - 1) ws (down_of ws b shift place).block (shift - 5) (down_of ws b shift place).place.0
  unfolding walk_of
  walk_on zero n l = absurd (n (omega arith))
  walk_on (suc k) n l = let e : suc k - 1 ≡ k = omega arith in rw (ne_eqb _ _ n, e)
