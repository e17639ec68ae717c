-- Leaf pop, on the words of a pool: what it answers, and the words after.
use Rattle.std.specs.Prelude.{◌≡◌, ℕ, zero, suc, ◌+◌, ◌-◌, ◌/◌, ◌<◌, ◌≤◌, Bool, List, ◌==◌}
use Rattle.std.proofs.Math.Path.{refl}
use Rattle.std.proofs.Common.{ap}
use native.Mathlib.Omega.{arith}
use Rattle.levels.specs.Place.{plus}
use Rattle.blocks.specs.Words.{pick, put_of, kind_of, count_of, last_of, slot_of}
use Rattle.blocks.specs.Chain.{on_chain, release_of}
use Rattle.blocks.specs.declared.State.{State}
use Rattle.node.specs.Branches.{less_kid}
use Rattle.rrbtree.specs.declared.Tree.{Tree}
use Rattle.blocks.specs.declared.pools.Pool.{Pool}
use Rattle.blocks.specs.Pools.{Leaves}
use Rattle.rrbtree.specs.declared.pops.Taken.{Taken}

-- what a pop answers, and the state after
pub record Popped : Type 0 where
  pub state : State
  pub leaf : ℕ
  pub len : ℕ
  pub left : ℕ
  pub freed : ℕ

-- an answer with the state after
abbrev pub popped : Taken → State → Popped
popped t st = record { state = st; leaf = t.leaf; len = t.len; left = t.left; freed = t.freed }

-- a call answers, and leaves of the pool, what a definition gives
abbrev pub Takes : Pool → Pool → Taken → Popped × List ℕ → Type 0
Takes old new t x = (popped t x.0.state ≡ x.0) × Leaves old new x.0.state x.1

-- the last child of branch b, a leaf, goes
unfoldable pub take_leaf : List ℕ → State → ℕ → Popped × List ℕ
take_leaf ws st b =
    let i = last_of ws b in
    let leaf = slot_of ws b i in
    (record { state = st; leaf = leaf; len = count_of ws leaf; left = i; freed = 0 }, put_of ws b 1 i)

-- "emptied branches go with it": block kid, child i and the last of branch b
unfoldable pub drop_kid : List ℕ → Popped → ℕ → ℕ → ℕ → Popped × List ℕ
drop_kid ws t b i kid = (
  record { state = on_chain t.state kid; leaf = t.leaf; len = t.len; left = i; freed = plus t.freed 1 },
  put_of (release_of ws t.state kid) b 1 i,
)

-- child i, the last, has less
unfoldable pub keep_kid : Popped → ℕ → Popped
keep_kid t i = record { state = t.state; leaf = t.leaf; len = t.len; left = i + 1; freed = t.freed }

-- branch b after a leaf was taken off its last child; "relaxed nodes on the path subtract its length"
unfoldable pub after_kid : Bool → List ℕ → ℕ → Popped × List ℕ → Popped × List ℕ
after_kid relaxed ws b p =
    let i = last_of ws b in
    pick (p.0.left == 0) (drop_kid p.1 p.0 b i (slot_of ws b i))
    (keep_kid p.0 i, pick relaxed (less_kid p.1 b i p.0.len) p.1)

-- the last leaf below the branch in block b, so many levels up, goes
unfoldable pub node_pop : ℕ → List ℕ → State → ℕ → Popped × List ℕ
node_pop zero ws st b = take_leaf ws st b
node_pop (suc zero) ws st b = take_leaf ws st b
node_pop (suc (suc h)) ws st b = after_kid (kind_of ws b == 3) ws b (node_pop (suc h) ws st (slot_of ws b (last_of ws b)))

-- the same of a branch of a kind, whose children are so many levels up
unfoldable pub branch_pop : Bool → ℕ → List ℕ → State → ℕ → Popped × List ℕ
branch_pop relaxed h ws st b = after_kid relaxed ws b (node_pop h ws st (slot_of ws b (last_of ws b)))

-- "the last leaf goes"; a root that is a leaf goes whole
unfoldable pub pop_of : List ℕ → State → Tree → Popped × List ℕ
pop_of ws st t =
    pick (t.shift.0 == 0)
    (record { state = st; leaf = t.root; len = count_of ws t.root; left = 0; freed = 0 }, ws)
    (node_pop (t.shift.0 / 5) ws st t.root)

-- The laws by which the cycle of calls goes on.
module _ (shift : ℕ) (ws : List ℕ) (st : State) (b : ℕ) where
  pub pop_low : shift / 5 < 2 → node_pop (shift / 5) ws st b ≡ take_leaf ws st b
  unfolding node_pop
  pop_low h = go (shift / 5) h
    where
      go : (n : ℕ) → n < 2 → node_pop n ws st b ≡ take_leaf ws st b
      go zero l = refl
      go (suc zero) l = refl
      go (suc (suc n)) l = absurd (omega arith)

  pub pop_high : 2 ≤ shift / 5 → node_pop (shift / 5) ws st b ≡ branch_pop (kind_of ws b == 3) ((shift - 5) / 5) ws st b
  unfolding node_pop branch_pop
  pop_high h =
      let m : (shift - 5) / 5 ≡ suc (shift / 5 - 2) = omega arith in
      let n : shift / 5 ≡ suc (suc (shift / 5 - 2)) = omega arith in
      rw m (ap (λ (k : ℕ). node_pop k ws st b) n)
