-- Branches: children and size tables, on the words of a pool.
use Rattle.std.specs.Prelude.{◌≡◌, ℕ, zero, suc, ◌+◌, ◌-◌, ◌<◌, ◌≤◌, List, ◌==◌, nat_lt}
use native.Mathlib.Omega.{arith}
use Rattle.std.proofs.Common.{add-one}
use Rattle.levels.specs.Place.{child_of, plus}
use Rattle.blocks.specs.Words.{pick, put_of, kind_of, size_of}

-- the first of the k slots from i on whose size entry exceeds the place; i + k where there is none
unfoldable pub first_from : List ℕ → ℕ → ℕ → ℕ → ℕ → ℕ
first_from ws b place zero i = i
first_from ws b place (suc k) i = pick (nat_lt place (size_of ws b i)) i (first_from ws b place k (suc i))

-- the first such slot from the place's own slot in a dense branch on, 31 at most
unfoldable pub above_of : List ℕ → ℕ → ℕ → ℕ → ℕ
above_of ws b shift place = first_from ws b place (31 - child_of place shift) (child_of place shift)

-- the elements before slot i
unfoldable pub before_of : List ℕ → ℕ → ℕ → ℕ
before_of ws b i = pick (nat_lt 0 i) (size_of ws b (i - 1)) 0

-- block k as the child after the first n of branch b, with len elements
unfoldable pub link_of : List ℕ → ℕ → ℕ → ℕ → ℕ → List ℕ
link_of ws b n k len =
    let vs = put_of (put_of ws b (2 + n) k) b 1 (n + 1) in
    pick (kind_of ws b == 3) (put_of vs b (34 + n) (plus (before_of ws b n) len)) vs

-- child i, the last of branch b, with len elements more; of a relaxed branch, with len elements less
unfoldable pub more_kid : List ℕ → ℕ → ℕ → ℕ → List ℕ
more_kid ws b i len = pick (kind_of ws b == 3) (put_of ws b (34 + i) (plus (size_of ws b i) len)) ws

unfoldable pub less_kid : List ℕ → ℕ → ℕ → ℕ → List ℕ
less_kid ws b i len = put_of ws b (34 + i) (size_of ws b i - len)

-- block b as a dense branch over block k; as a branch over block k of len elements that is relaxed where k is
unfoldable pub over_of : List ℕ → ℕ → ℕ → List ℕ
over_of ws b k = put_of (put_of (put_of ws b 0 2) b 1 1) b 2 k

unfoldable pub pair_of : List ℕ → ℕ → ℕ → ℕ → List ℕ
pair_of ws b k len =
    let vs = over_of ws b k in
    pick (kind_of ws k == 3) (put_of (put_of vs b 0 3) b 34 len) vs

-- The laws by which the search for a slot goes on.
module _ (ws : List ℕ) (b place n i : ℕ) where
  pub first_end : n ≤ i → first_from ws b place (n - i) i ≡ i
  unfolding first_from
  first_end h = let e : n - i ≡ 0 = omega arith in rw e

  pub first_at : i < n → first_from ws b place (n - i) i ≡ pick (nat_lt place (size_of ws b i)) i (first_from ws b place (n - (i + 1)) (i + 1))
  unfolding first_from
  first_at h = let e : n - i ≡ suc (n - (i + 1)) = omega arith in rw (e, add-one)
