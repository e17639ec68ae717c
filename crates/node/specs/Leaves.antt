-- Leaves, on the words of a pool.
use Rattle.std.specs.Prelude.{◌≡◌, ℕ, zero, suc, ◌+◌, ◌-◌, ◌*◌, ◌/◌, ◌<◌, ◌≤◌, List, [], ◌∷◌, ◌++◌, length, take, drop, replicate, slice_set, refl}
use Rattle.std.proofs.Common.{sym, ◌∙◌, ap, append_assoc, add-one, arith, lt-ltb, le-ltb, length-set, take-append-drop, drop-drop, drop-cons}
use borrow.Rule.Slice.PartMut.{mid_of, post_of, put_mid, mid_len}
use Rattle.std.proofs.lemmas.List.Edits.{sets, sets-eq}
use Rattle.std.proofs.Math.Seq.{set_out}
use Rattle.std.proofs.lemmas.List.{set_at, drop-append-le}
use Rattle.blocks.specs.Words.{word_of, put_of, count_of, slot_of}

-- the words of xs as the words of block b from word j on
unfoldable pub store_of : List ℕ → ℕ → ℕ → List ℕ → List ℕ
store_of ws b j [] = ws
store_of ws b j (x ∷ xs) = store_of (put_of ws b j x) b (suc j) xs

-- block b as a leaf of the elements xs
unfoldable pub leaf_of : List ℕ → ℕ → List ℕ → List ℕ
leaf_of ws b xs = put_of (put_of (store_of ws b 2 xs) b 0 1) b 1 (length xs)

-- n slots of block b from slot i on
unfoldable pub slots_from : List ℕ → ℕ → ℕ → ℕ → List ℕ
slots_from ws b i zero = []
slots_from ws b i (suc n) = slot_of ws b i ∷ slots_from ws b (suc i) n

-- the elements of the leaf in block b, and zeros up to 32
unfoldable pub take_of : List ℕ → ℕ → List ℕ
take_of ws b = slots_from ws b 0 (count_of ws b) ++ replicate (32 - count_of ws b) 0

-- The laws by which the loops go on, and by which a part that comes back is a run of stores.
pub slots_more : (ws : List ℕ) (b i n : ℕ) → slots_from ws b i (n + 1) ≡ slots_from ws b i n ++ (slot_of ws b (i + n) ∷ [])
unfolding slots_from
slots_more ws b i n = rw add-one (go i n)
  where
    go : (j m : ℕ) → slots_from ws b j (suc m) ≡ slots_from ws b j m ++ (slot_of ws b (j + m) ∷ [])
    go j zero = let e : j + 0 ≡ j = omega arith in rw e
    go j (suc m) = let e : j + suc m ≡ suc j + m = omega arith in rw e (ap (λ (l : List ℕ). slot_of ws b j ∷ l) (go (suc j) m))

pub length-slots : (ws : List ℕ) (b i n : ℕ) → length (slots_from ws b i n) ≡ n
unfolding slots_from
length-slots ws b i zero = refl
length-slots ws b i (suc n) = ap suc (length-slots ws b (suc i) n)

-- the slots of a block stand one after the other in the pool; where there is no block, none is in use
pub slots_in : (ws : List ℕ) (b i n : ℕ) → b < length ws / 66 → i + n ≤ 32 → slots_from ws b i n ≡ take n (drop (b * 66 + (2 + i)) ws)
unfolding slots_from word_of
slots_in ws b i zero h l = refl
slots_in ws b i (suc n) h l =
    let p = b * 66 + (2 + i) in
    let q : p < length ws = omega arith in
    let e : b * 66 + (2 + suc i) ≡ suc p = omega arith in
    rw (lt-ltb _ _ h, slots_in ws b (suc i) n h (omega arith), e, drop-cons ws p 0 q)

pub slots_out : (ws : List ℕ) (b : ℕ) → length ws / 66 ≤ b → slots_from ws b 0 (count_of ws b) ≡ []
unfolding slots_from word_of
slots_out ws b h = rw (le-ltb _ _ h)

pub taken_more : (ws : List ℕ) (b i : ℕ) → i < 32
    → slice_set (slots_from ws b 0 i ++ replicate (32 - i) 0) i (slot_of ws b i) ≡ slots_from ws b 0 (i + 1) ++ replicate (32 - (i + 1)) 0
taken_more ws b i h =
    let e : 32 - i ≡ suc (32 - (i + 1)) = omega arith in
    let z : 0 + i ≡ i = omega arith in
    let xs = slots_from ws b 0 i in
    rw (e, slots_more ws b 0 i, z, append_assoc xs (slot_of ws b i ∷ []) (replicate (32 - (i + 1)) 0))
    (set_at xs 0 (replicate (32 - (i + 1)) 0) (slot_of ws b i) i (length-slots ws b 0 i))

-- past the end of a list nothing is stored
pub sets_out : (ws : List ℕ) (n : ℕ) (xs : List ℕ) → length ws ≤ n → sets ws n xs ≡ ws
sets_out ws n [] h = refl
sets_out ws n (x ∷ xs) h = rw (set_out ws n x h) (sets_out ws (suc n) xs (omega arith))

pub store_in : (ws : List ℕ) (b j : ℕ) (xs : List ℕ) → b < length ws / 66 → store_of ws b j xs ≡ sets ws (b * 66 + j) xs
unfolding store_of put_of
store_in ws b j [] h = refl
store_in ws b j (x ∷ xs) h =
    let e : suc (b * 66 + j) ≡ b * 66 + suc j = omega arith in
    rw (lt-ltb _ _ h, e) (store_in (slice_set ws (b * 66 + j) x) b (suc j) xs (rw length-set h))

pub store_out : (ws : List ℕ) (b j : ℕ) (xs : List ℕ) → length ws / 66 ≤ b → store_of ws b j xs ≡ ws
unfolding store_of put_of
store_out ws b j [] h = refl
store_out ws b j (x ∷ xs) h = rw (le-ltb _ _ h) (store_out ws b (suc j) xs h)

pub part_back : (ws : List ℕ) (a e : ℕ) (xs : List ℕ) → a ≤ e → e ≤ length ws → length xs ≤ e - a
    → put_mid a (e - a) ws (sets (mid_of a (e - a) ws) 0 xs) ≡ sets ws a xs
part_back ws a e xs p q r =
    let k = e - a in
    let m = mid_of a k ws in
    let x = length xs in
    let l = mid_len a e ws q in
    let z : 0 + x ≡ x = omega arith in
    let d : drop x m ++ post_of a k ws ≡ drop (a + x) ws
    = sym (drop-append-le x m (post_of a k ws) (rw l r)) ∙ ap (drop x) (take-append-drop k (drop a ws)) ∙ drop-drop x a ws in
    rw (sets-eq xs m 0 (rw l (omega arith)), sets-eq xs ws a (omega arith), z, append_assoc xs (drop x m) (post_of a k ws), d)
    (sym (append_assoc (take a ws) xs (drop (a + x) ws)))
