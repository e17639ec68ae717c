-- Held after a merge, from counts alone.
use Rattle.std.specs.Prelude.{◌≡◌, ℕ, zero, suc, ◌+◌, ◌-◌, ◌/◌, ◌<◌, ◌≤◌, min, List, Option, None, Some, nat_lt, refl}
use Rattle.std.proofs.Common.{add-one}
use native.Mathlib.Omega.{arith}
use Rattle.levels.specs.Place.{plus}
use Rattle.blocks.specs.Words.{pick, count_of, slot_of}
use Rattle.merging.specs.Spines.{others_of, below_of}
use Rattle.merging.specs.declared.plans.Plan.{Plan}
use Rattle.merging.specs.declared.spines.Spine.{Spine}
use Rattle.merging.specs.declared.spines.Pair.{Pair}
use Rattle.merging.specs.declared.spines.Others.{Others}
use Rattle.merging.specs.declared.spines.Others.TheVariants as others

-- the counts of n children of b from child i on, after a sum
unfoldable pub counts_from : List ℕ → ℕ → ℕ → ℕ → ℕ → ℕ
counts_from ws b zero i sum = sum
counts_from ws b (suc n) i sum = counts_from ws b n (suc i) (plus sum (count_of ws (slot_of ws b i)))

unfoldable pub counts_of : List ℕ → ℕ → ℕ → ℕ → ℕ
counts_of ws b start to = counts_from ws b (min to 32 - start) start 0

-- the plan with the nodes beside a spine added
unfoldable pub with_others : List ℕ → Plan → Option Others → Plan
with_others ws p None = p
with_others ws p (Some (others.Kids k)) =
    record { slots = plus p.slots (counts_of ws k.block k.from k.to); made = p.made; gone = plus p.gone (plus (k.to - k.from) 1) }
with_others ws p (Some (others.Only b)) = record { slots = plus p.slots (count_of ws b); made = p.made; gone = plus p.gone 1 }

-- the plan with its slots packed into nodes
unfoldable pub packed_of : Plan → Plan
packed_of p =
    let n = plus p.slots 31 / 32 in
    record { slots = n; made = plus p.made n; gone = p.gone }

-- the two leaves that meet; a tail stands for the left one
unfoldable pub plan_leaves : List ℕ → Spine → ℕ → Spine → Plan
plan_leaves ws l tail r =
    let n = count_of ws r.block in
    pick (nat_lt 0 tail) (record { slots = plus tail n; made = 0; gone = 1 })
    (record { slots = plus (count_of ws l.block) n; made = 0; gone = 2 })

-- the plan up to height j
unfoldable pub plan_level : ℕ → List ℕ → Spine → ℕ → Spine → Plan
plan_level zero ws l tail r = plan_leaves ws l tail r
plan_level (suc j) ws l tail r =
    let p = plan_level j ws (below_of ws l (suc j)) tail (below_of ws r (suc j)) in
    packed_of (with_others ws (with_others ws p (others_of ws l (suc j))) (others_of ws r (suc j)))

-- the blocks held after a merge by trees that hold so many together
unfoldable pub held_after : List ℕ → Pair → ℕ → ℕ → ℕ
held_after ws p tail held =
    let q = packed_of (plan_level p.top ws p.left tail p.right) in
    let after = plus (held - q.gone) q.made in
    pick (nat_lt 1 q.slots) (plus after 1) after

-- The laws by which loop and recursion go on.
module _ (ws : List ℕ) (b n i sum : ℕ) where
  pub counts_end : n ≤ i → counts_from ws b (n - i) i sum ≡ sum
  unfolding counts_from
  counts_end h = let e : n - i ≡ 0 = omega arith in rw e

  pub counts_at : i < n → counts_from ws b (n - i) i sum ≡ counts_from ws b (n - (i + 1)) (i + 1) (plus sum (count_of ws (slot_of ws b i)))
  unfolding counts_from
  counts_at h = let e : n - i ≡ suc (n - (i + 1)) = omega arith in rw (e, add-one)

pub plan_bottom : (j : ℕ) (ws : List ℕ) (l : Spine) (tail : ℕ) (r : Spine) → j ≡ 0 → plan_level j ws l tail r ≡ plan_leaves ws l tail r
unfolding plan_level
plan_bottom zero ws l tail r e = refl
plan_bottom (suc j) ws l tail r e = absurd (omega arith)

pub plan_up : (j : ℕ) (ws : List ℕ) (l : Spine) (tail : ℕ) (r : Spine) → 0 < j
    → plan_level j ws l tail r ≡ packed_of (with_others ws (with_others ws (plan_level (j - 1) ws (below_of ws l j) tail (below_of ws r j)) (others_of ws l j)) (others_of ws r j))
unfolding plan_level
plan_up zero ws l tail r h = absurd (omega arith)
plan_up (suc j) ws l tail r h = let e : suc j - 1 ≡ j = omega arith in rw e
