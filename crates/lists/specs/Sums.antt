-- Sums over a list, and lists put together from a list's elements.
use Rattle.std.specs.Prelude.{ℕ, zero, suc, ◌+◌, ◌*◌, ◌<◌, ◌≤◌, ◌≡◌, refl, List, [], ◌∷◌, ◌++◌, map, length, take, drop, get_or, set, replicate}
use Rattle.std.proofs.Common.{sym, ◌∙◌, ap, append_assoc, arith, length-append, take-append-drop}
use Rattle.lists.specs.Ends.{init, last_or, first_or, rest, modify}
use Rattle.lists.specs.Alls.{All}

-- the kit's `flat_map`, but open everywhere: types compute with it
abbrev pub concat_map : {A B : Type 0} → (A → List B) → List A → List B
concat_map f [] = []
concat_map f (x ∷ xs) = f x ++ concat_map f xs

abbrev pub sum : {A : Type 0} → (A → ℕ) → List A → ℕ
sum f [] = 0
sum f (x ∷ xs) = f x + sum f xs

-- Lists put together.
pub concat_map-join : {A B : Type 0} (f : A → List B) (xs ys : List A) → concat_map f (xs ++ ys) ≡ concat_map f xs ++ concat_map f ys
concat_map-join f [] ys = refl
concat_map-join f (x ∷ xs) ys = rw (concat_map-join f xs ys) (sym (append_assoc (f x) (concat_map f xs) (concat_map f ys)))

pub concat_map-concat_map : {A B C : Type 0} (f : B → List C) (g : A → List B) (xs : List A)
    → concat_map f (concat_map g xs) ≡ concat_map (λ x. concat_map f (g x)) xs
concat_map-concat_map f g [] = refl
concat_map-concat_map f g (x ∷ xs) =
    concat_map-join f (g x) (concat_map g xs) ∙ ap (λ (l : List _). concat_map f (g x) ++ l) (concat_map-concat_map f g xs)

pub concat_map-map : {A B C : Type 0} (f : B → List C) (g : A → B) (xs : List A) → concat_map f (map g xs) ≡ concat_map (λ x. f (g x)) xs
concat_map-map f g [] = refl
concat_map-map f g (x ∷ xs) = ap (λ (l : List _). f (g x) ++ l) (concat_map-map f g xs)

pub concat_map_same : {A B : Type 0} (f g : A → List B) → ((x : A) → f x ≡ g x) → (xs : List A) → concat_map f xs ≡ concat_map g xs
concat_map_same f g e [] = refl
concat_map_same f g e (x ∷ xs) = rw (e x, concat_map_same f g e xs)

pub concat_map_singles : {A : Type 0} (xs : List A) → concat_map (λ x. x ∷ []) xs ≡ xs
concat_map_singles [] = refl
concat_map_singles (x ∷ xs) = ap (λ (l : List _). x ∷ l) (concat_map_singles xs)

pub length-concat_map : {A B : Type 0} (f : A → List B) (g : A → ℕ) → ((a : A) → length (f a) ≡ g a) → (xs : List A)
    → length (concat_map f xs) ≡ sum g xs
length-concat_map f g e [] = refl
length-concat_map f g e (x ∷ xs) = let ih = length-concat_map f g e xs in omega (arith, length-append (f x) (concat_map f xs), e x)

-- Sums.
pub sum-join : {A : Type 0} (f : A → ℕ) (xs ys : List A) → sum f (xs ++ ys) ≡ sum f xs + sum f ys
sum-join f [] ys = omega arith
sum-join f (x ∷ xs) ys = let h = sum-join f xs ys in omega arith

pub sum_same : {A : Type 0} (f g : A → ℕ) → ((x : A) → f x ≡ g x) → (xs : List A) → sum f xs ≡ sum g xs
sum_same f g e [] = refl
sum_same f g e (x ∷ xs) = let h = sum_same f g e xs in let k = e x in omega arith

pub sum_suc : {A : Type 0} (f : A → ℕ) (xs : List A) → sum (λ x. suc (f x)) xs ≡ length xs + sum f xs
sum_suc f [] = refl
sum_suc f (x ∷ xs) = let h = sum_suc f xs in omega arith

pub sum-concat_map : {A B : Type 0} (f : B → ℕ) (g : A → List B) (xs : List A) → sum f (concat_map g xs) ≡ sum (λ x. sum f (g x)) xs
sum-concat_map f g [] = refl
sum-concat_map f g (x ∷ xs) = let h = sum-concat_map f g xs in let k = sum-join f (g x) (concat_map g xs) in omega arith

pub sum_le : {A : Type 0} (f g : A → ℕ) → ((a : A) → f a ≤ g a) → (xs : List A) → sum f xs ≤ sum g xs
sum_le f g h [] = omega arith
sum_le f g h (x ∷ xs) = omega (arith, h x, sum_le f g h xs)

-- by the ends
pub sum_by_last : {A : Type 0} (f : A → ℕ) (d : A) (xs : List A) → 1 ≤ length xs → sum f xs ≡ sum f (init xs) + f (last_or d xs)
sum_by_last f d [] h = absurd (omega arith)
sum_by_last f d (x ∷ []) h = omega arith
sum_by_last f d (x ∷ y ∷ ys) h = let ih = sum_by_last f x (y ∷ ys) (omega arith) in omega arith

pub sum_by_first : {A : Type 0} (f : A → ℕ) (d : A) (xs : List A) → 1 ≤ length xs → sum f xs ≡ f (first_or d xs) + sum f (rest xs)
sum_by_first f d [] h = absurd (omega arith)
sum_by_first f d (x ∷ xs) h = refl

-- a part, one element changed or stored, one element so many times
pub sum-take : {A : Type 0} (f : A → ℕ) (n : ℕ) (xs : List A) → sum f (take n xs) ≤ sum f xs
sum-take f n xs = let e = sum-join f (take n xs) (drop n xs) in let q = ap (sum f) (take-append-drop n xs) in omega arith

pub sum-modify : {A : Type 0} (f : A → ℕ) (i : ℕ) (g : A → A) → ((a : A) → f (g a) ≡ f a) → (xs : List A) → sum f (modify i g xs) ≡ sum f xs
sum-modify f i g c [] = refl
sum-modify f zero g c (x ∷ xs) = let e = c x in omega arith
sum-modify f (suc i) g c (x ∷ xs) = let e = sum-modify f i g c xs in omega arith

pub sum-set : {A : Type 0} (f : A → ℕ) (d : A) (xs : List A) (i : ℕ) (y : A) → i < length xs → sum f (set xs i y) + f (get_or xs i d) ≡ sum f xs + f y
sum-set f d [] i y h = absurd (omega arith)
sum-set f d (x ∷ xs) zero y h = omega arith
sum-set f d (x ∷ xs) (suc i) y h = let ih = sum-set f d xs i y (omega arith) in omega arith

pub sum-replicate : {A : Type 0} (f : A → ℕ) (n : ℕ) (x : A) → sum f (replicate n x) ≡ n * f x
sum-replicate f zero x = omega arith
sum-replicate f (suc n) x = let ih = sum-replicate f n x in omega arith

-- of equal summands, and of summands that have a bound
pub sum_all : {A : Type 0} (P : A → Type 0) (f : A → ℕ) (n : ℕ) → ((a : A) → P a → f a ≡ n) → (xs : List A) → All P xs → sum f xs ≡ length xs * n
sum_all P f n e [] p = omega arith
sum_all P f n e (x ∷ xs) p = let ih = sum_all P f n e xs p.1 in let h = e x p.0 in omega arith

pub sum_least : {A : Type 0} (P : A → Type 0) (f : A → ℕ) (c : ℕ) → ((a : A) → P a → c ≤ f a) → (xs : List A) → All P xs → length xs * c ≤ sum f xs
sum_least P f c g [] a = omega arith
sum_least P f c g (x ∷ xs) a = let h = g x a.0 in let i = sum_least P f c g xs a.1 in omega arith

pub sum_most : {A : Type 0} (P : A → Type 0) (f : A → ℕ) (c : ℕ) → ((a : A) → P a → f a ≤ c) → (xs : List A) → All P xs → sum f xs ≤ length xs * c
sum_most P f c g [] a = omega arith
sum_most P f c g (x ∷ xs) a = let h = g x a.0 in let i = sum_most P f c g xs a.1 in omega arith
