-- The free chain: a free block's count is the next one, and the last one's is the number of blocks.
use Prim.Native.Nat.{ℕ, zero, suc, ◌+◌, ◌-◌, ◌<◌, ◌≤◌}
use Rattle.std.specs.Prelude.{◌≡◌, refl, List, leb, length}
use Rattle.std.proofs.Common.{◌∙◌, add-one}
use native.Mathlib.Omega.{arith}
use borrow.Author.Tests.{le-leb, lt-leb}
use Rattle.blocks.specs.Words.{pick, word_of, put_of, length-put}
use Rattle.blocks.specs.declared.State.{State}

-- a block taken off the chain, and the state after
pub record Got : Type 0 where
  pub block : ℕ
  pub state : State

-- the first block of the chain, and the state without it
unfoldable pub alloc_of : List ℕ → State → Got
alloc_of ws st = record { block = st.free; state = record { free = word_of ws st.free 1; promised = st.promised } }

-- the state and the words with block b before the chain
abbrev pub on_chain : State → ℕ → State
on_chain st b = record { free = b; promised = st.promised }

unfoldable pub release_of : List ℕ → State → ℕ → List ℕ
release_of ws st b = put_of (put_of ws b 0 0) b 1 st.free

-- the words with the first n blocks on the chain, in order
unfoldable pub chained_of : List ℕ → ℕ → List ℕ
chained_of ws zero = ws
chained_of ws (suc n) = let vs = chained_of ws n in put_of (put_of vs n 0 0) n 1 (suc n)

-- the blocks of the chain from b on, at most as many as the fuel says
unfoldable pub chain_from : List ℕ → ℕ → ℕ → ℕ → ℕ
chain_from ws n zero b = 0
chain_from ws n (suc k) b = pick (leb n b) 0 (suc (chain_from ws n k (word_of ws b 1)))

unfoldable pub free_count_of : List ℕ → ℕ → ℕ → ℕ
free_count_of ws n b = chain_from ws n n b

-- The laws by which the loops go on.
chained_suc : (ws : List ℕ) (n : ℕ) → chained_of ws (suc n) ≡ put_of (put_of (chained_of ws n) n 0 0) n 1 (suc n)
unfolding chained_of
chained_suc ws n = refl

pub chained_more : (ws : List ℕ) (n : ℕ) → chained_of ws (n + 1) ≡ put_of (put_of (chained_of ws n) n 0 0) n 1 (n + 1)
chained_more ws n = rw add-one (chained_suc ws n)

pub length_chained : (ws : List ℕ) (n : ℕ) → length (chained_of ws n) ≡ length ws
unfolding chained_of
length_chained ws zero = refl
length_chained ws (suc n) = length-put _ n 1 (suc n) ∙ length-put _ n 0 0 ∙ length_chained ws n

module _ (ws : List ℕ) (n b k : ℕ) where
  pub chain_end : n ≤ k → k + chain_from ws n (n - k) b ≡ k
  unfolding chain_from
  chain_end h = let e : n - k ≡ 0 = omega arith in rw e (omega arith)

  pub chain_out : n ≤ b → k + chain_from ws n (n - k) b ≡ k
  unfolding chain_from
  chain_out h = go (n - k)
    where
      go : (m : ℕ) → k + chain_from ws n m b ≡ k
      go zero = omega arith
      go (suc m) = rw (le-leb _ _ h) (omega arith)

  pub chain_more : k < n → b < n → k + 1 + chain_from ws n (n - (k + 1)) (word_of ws b 1) ≡ k + chain_from ws n (n - k) b
  unfolding chain_from
  chain_more h l = let e : n - k ≡ suc (n - (k + 1)) = omega arith in rw (e, lt-leb _ _ l) (omega arith)
