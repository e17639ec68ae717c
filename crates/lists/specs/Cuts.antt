-- A list cut into pieces of n, and quotients rounded up, which count the pieces.
use Rattle.std.specs.Prelude.{ℕ, zero, suc, ◌+◌, ◌-◌, ◌*◌, ◌/◌, ◌<◌, ◌≤◌, ◌≡◌, refl, List, [], ◌∷◌, ◌++◌, length, take, drop}
use Rattle.std.proofs.Common.{sym, ◌∙◌, ap, arith, div-lt_iff_lt-mul, div-add-mod', mod-lt, mul-le-mul_right, add-one, length-drop, take-append-drop, take_all, take_at, drop_at, length-take-le}
use Rattle.std.proofs.Math.Nat.{div-eq_of_lt, div-eq-sub-div}
use Rattle.std.proofs.Math.Decide.{dec_le}
use Rattle.lists.specs.Sums.{concat_map, concat_map-join}

-- The pieces, the last one the rest; the first number bounds how many there can be.
abbrev pub cut_by : {A : Type 0} → ℕ → ℕ → List A → List (List A)
cut_by zero n xs = []
cut_by (suc k) n [] = []
cut_by (suc k) n (x ∷ xs) = take n (x ∷ xs) ∷ cut_by k n (drop n (x ∷ xs))

unfoldable pub cut : {A : Type 0} → ℕ → List A → List (List A)
cut n xs = cut_by (length xs) n xs

-- a quotient rounded up
unfoldable pub ceil : ℕ → ℕ → ℕ
ceil m n = (m + (n - 1)) / n

pub ceil_zero : (n : ℕ) → 0 < n → ceil 0 n ≡ 0
unfolding ceil
ceil_zero n p = div-eq_of_lt (omega arith)

pub ceil_some : (m n : ℕ) → 0 < n → 0 < m → ceil m n ≡ suc (ceil (m - n) n)
unfolding ceil
ceil_some m n p q = go (dec_le n m)
  where
    go : Dec (n ≤ m) → (m + (n - 1)) / n ≡ suc ((m - n + (n - 1)) / n)
    go (yes y) =
        let e : m + (n - 1) - n ≡ m - n + (n - 1) = omega arith in
        div-eq-sub-div p (omega arith) ∙ rw e (add-one _)
    go (no y) =
        let z : m - n ≡ 0 = omega arith in
        let a : (m + (n - 1) - n) / n ≡ 0 = div-eq_of_lt (omega arith) in
        let b : (m - n + (n - 1)) / n ≡ 0 = div-eq_of_lt (omega arith) in
        div-eq-sub-div p (omega arith) ∙ rw (a, b)

pub ceil-step : (m n : ℕ) → 0 < n → ceil (n + m) n ≡ suc (ceil m n)
ceil-step m n p = let e : n + m - n ≡ m = omega arith in ceil_some (n + m) n p (omega arith) ∙ rw e

pub ceil_le : (m k n : ℕ) → 0 < n → m ≤ k * n → ceil m n ≤ k
unfolding ceil
ceil_le m k n p h = let e : (m + (n - 1)) / n < suc k = (div-lt_iff_lt-mul {k = n} {x = m + (n - 1)} {y = suc k} p).1 (omega arith) in omega arith

le_ceil : (m n : ℕ) → 0 < n → m ≤ ceil m n * n
unfolding ceil
le_ceil m n p = let e = div-add-mod' (m + (n - 1)) n in let l = mod-lt (m + (n - 1)) p in omega arith

pub ceil_mono : (m k n : ℕ) → 0 < n → m ≤ k → ceil m n ≤ ceil k n
ceil_mono m k n p h = let a = le_ceil k n p in ceil_le m (ceil k n) n p (omega arith)

pub ceil_ge : (m k n : ℕ) → 0 < n → k * n < m + n → k ≤ ceil m n
ceil_ge m k n p h = go (dec_le k (ceil m n))
  where
    go : Dec (k ≤ ceil m n) → k ≤ ceil m n
    go (yes y) = y
    go (no y) =
        let a = le_ceil m n p in
        let s : suc (ceil m n) ≤ k = omega arith in
        let b = mul-le-mul_right n s in
        absurd (omega arith)

-- More fuel cuts no other way.
fuel : {A : Type 0} (n j k : ℕ) (xs : List A) → 0 < n → length xs ≤ j → length xs ≤ k → cut_by j n xs ≡ cut_by k n xs
fuel n zero zero xs p a b = refl
fuel n zero (suc k) [] p a b = refl
fuel n zero (suc k) (x ∷ xs) p a b = absurd (omega arith)
fuel n (suc j) zero [] p a b = refl
fuel n (suc j) zero (x ∷ xs) p a b = absurd (omega arith)
fuel n (suc j) (suc k) [] p a b = refl
fuel n (suc j) (suc k) (x ∷ xs) p a b =
    let l = length-drop n (x ∷ xs) in
    ap (λ (r : List (List _)). take n (x ∷ xs) ∷ r) (fuel n j k (drop n (x ∷ xs)) p (omega arith) (omega arith))

-- One piece after the other.
pub cut_cons : {A : Type 0} (n : ℕ) (x : A) (xs : List A) → 0 < n → cut n (x ∷ xs) ≡ take n (x ∷ xs) ∷ cut n (drop n (x ∷ xs))
unfolding cut
cut_cons n x xs p =
    let l = length-drop n (x ∷ xs) in
    ap (λ (r : List (List _)). take n (x ∷ xs) ∷ r) (fuel n (length xs) (length (drop n (x ∷ xs))) (drop n (x ∷ xs)) p (omega arith) (omega arith))

pub cut_full : {A : Type 0} (n : ℕ) (p zs : List A) → 0 < n → length p ≡ n → cut n (p ++ zs) ≡ p ∷ cut n zs
cut_full n [] zs z e = absurd (omega arith)
cut_full n (x ∷ xs) zs z e = cut_cons n x (xs ++ zs) z ∙ rw (take_at (x ∷ xs) zs n e, drop_at (x ∷ xs) zs n e)

pub cut_short : {A : Type 0} (n : ℕ) (x : A) (xs : List A) → suc (length xs) ≤ n → cut n (x ∷ xs) ≡ (x ∷ xs) ∷ []
unfolding cut
cut_short n x xs h = cut_cons n x xs (omega arith) ∙ rw (take_all n (x ∷ xs) h, none_left (drop n (x ∷ xs)) (let l = length-drop n (x ∷ xs) in omega arith))
  where
    none_left : {A : Type 0} (ys : List A) → length ys ≡ 0 → cut n ys ≡ []
    none_left [] e = refl
    none_left (y ∷ ys) e = absurd (omega arith)

-- To show something of a list's pieces: of none, and of a piece before others.
pub by_pieces : {A : Type 0} (n : ℕ) (P : List A → List (List A) → Type 0) → 0 < n → P [] []
    → ((x : A) (xs : List A) → P (drop n (x ∷ xs)) (cut n (drop n (x ∷ xs))) → P (x ∷ xs) (take n (x ∷ xs) ∷ cut n (drop n (x ∷ xs))))
    → (xs : List A) → P xs (cut n xs)
unfolding cut
by_pieces n P p base step xs = go (length xs) xs (omega arith)
  where
    go : (k : ℕ) (ys : List _) → length ys ≤ k → P ys (cut n ys)
    go zero [] h = base
    go zero (y ∷ ys) h = absurd (omega arith)
    go (suc k) [] h = base
    go (suc k) (y ∷ ys) h = let l = length-drop n (y ∷ ys) in rw (cut_cons n y ys p) (step y ys (go k (drop n (y ∷ ys)) (omega arith)))

-- To show something of a list: of one shorter than n, and of n elements before another list.
pub by_full : {A : Type 0} (n : ℕ) (P : List A → Type 0) → 0 < n → ((xs : List A) → length xs < n → P xs)
    → ((p xs : List A) → length p ≡ n → P xs → P (p ++ xs)) → (xs : List A) → P xs
by_full n P z short full xs = go (length xs) xs (omega arith)
  where
    step : (k : ℕ) (ys : List _) → length ys ≤ suc k → (P (drop n ys)) → Dec (n ≤ length ys) → P ys
    step k ys h ih (yes q) = rw (take-append-drop n ys) at (full (take n ys) (drop n ys) (length-take-le n ys q) ih)
    step k ys h ih (no q) = short ys (omega arith)

    go : (k : ℕ) (ys : List _) → length ys ≤ k → P ys
    go zero ys h = short ys (omega arith)
    go (suc k) ys h = step k ys h (go k (drop n ys) (let l = length-drop n ys in omega arith)) (dec_le n (length ys))

-- The pieces, put together again, are the list; how many they are.
pub concat_cut : {A B : Type 0} (f : A → List B) (n : ℕ) (xs : List A) → 0 < n → concat_map (concat_map f) (cut n xs) ≡ concat_map f xs
concat_cut f n xs p =
    by_pieces n (λ ys ps. concat_map (concat_map f) ps ≡ concat_map f ys) p refl
    (λ y ys ih. ap (λ (l : List _). concat_map f (take n (y ∷ ys)) ++ l) ih ∙ sym (concat_map-join f (take n (y ∷ ys)) (drop n (y ∷ ys))) ∙ ap (concat_map f) (take-append-drop n (y ∷ ys)))
    xs

pub length-cut : {A : Type 0} (n : ℕ) (xs : List A) → 0 < n → length (cut n xs) ≡ ceil (length xs) n
length-cut n xs p =
    by_pieces n (λ ys ps. length ps ≡ ceil (length ys) n) p (sym (ceil_zero n p))
    (λ y ys ih. ap suc (ih ∙ rw (length-drop n (y ∷ ys))) ∙ sym (ceil_some (suc (length ys)) n p (omega arith)))
    xs
