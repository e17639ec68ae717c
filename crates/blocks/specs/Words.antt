-- The words of a pool: 66 to a block. What lies in no block reads as 0, and a store there changes nothing.
use Rattle.std.specs.Prelude.{ℕ, ◌+◌, ◌*◌, ◌-◌, ◌/◌, min, ◌≡◌, refl, List, Bool, true, false, ltb, length, get_or, set}
use Rattle.std.proofs.Common.{length-set}

-- one of two, by a test
abbrev pub pick {ℓ} : {A : Type ℓ} → Bool → A → A → A
pick true a b = a
pick false a b = b

-- word j of block b
unfoldable pub word_of : List ℕ → ℕ → ℕ → ℕ
word_of ws b j = pick (ltb b (length ws / 66)) (get_or ws (b * 66 + j) 0) 0

-- the words with x as word j of block b
unfoldable pub put_of : List ℕ → ℕ → ℕ → ℕ → List ℕ
put_of ws b j x = pick (ltb b (length ws / 66)) (set ws (b * 66 + j) x) ws

-- "A block is 66 words: kind, count, 32 children or elements, 32 sizes."
abbrev pub kind_of : List ℕ → ℕ → ℕ
kind_of ws b = word_of ws b 0

-- a count above 32 is none that calls make, and is read as 32
abbrev pub count_of : List ℕ → ℕ → ℕ
count_of ws b = min (word_of ws b 1) 32

abbrev pub last_of : List ℕ → ℕ → ℕ
last_of ws b = count_of ws b - 1

abbrev pub slot_of : List ℕ → ℕ → ℕ → ℕ
slot_of ws b i = word_of ws b (2 + i)

abbrev pub size_of : List ℕ → ℕ → ℕ → ℕ
size_of ws b i = word_of ws b (34 + i)

-- The laws by which callers use the two.
pub length-put : (ws : List ℕ) (b j x : ℕ) → length (put_of ws b j x) ≡ length ws
unfolding put_of
length-put ws b j x = go (ltb b (length ws / 66))
  where
    go : (t : Bool) → length (pick t (set ws (b * 66 + j) x) ws) ≡ length ws
    go true = length-set ws (b * 66 + j) x
    go false = refl
