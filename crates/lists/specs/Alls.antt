-- A property of every element of a list.
use Rattle.std.specs.Prelude.{ℕ, zero, suc, ◌<◌, ◌≤◌, List, [], ◌∷◌, ◌++◌, Bool, false, ◌||◌, length, take, drop, get_or, set}
use Rattle.std.proofs.Common.{arith}
use Rattle.lists.specs.Ends.{init, last_or, first_or, rest, modify}

abbrev pub All : {A : Type 0} → (A → Type 0) → List A → Type 0
All P [] = Unit {0}
All P (x ∷ xs) = P x × All P xs

-- some element passes the test
abbrev pub any : {A : Type 0} → (A → Bool) → List A → Bool
any f [] = false
any f (x ∷ xs) = f x || any f xs

pub all_weak : {A : Type 0} (P Q : A → Type 0) → ((a : A) → P a → Q a) → (xs : List A) → All P xs → All Q xs
all_weak P Q f [] p = tt
all_weak P Q f (x ∷ xs) p = (f x p.0, all_weak P Q f xs p.1)

pub all_both : {A : Type 0} (P Q : A → Type 0) (xs : List A) → All P xs → All Q xs → All (λ x. P x × Q x) xs
all_both P Q [] p q = tt
all_both P Q (x ∷ xs) p q = ((p.0, q.0), all_both P Q xs p.1 q.1)

pub all_join : {A : Type 0} (P : A → Type 0) (xs ys : List A) → All P xs → All P ys → All P (xs ++ ys)
all_join P [] ys p q = q
all_join P (x ∷ xs) ys p q = (p.0, all_join P xs ys p.1 q)

-- the ends
pub all_init : {A : Type 0} (P : A → Type 0) (xs : List A) → All P xs → All P (init xs)
all_init P [] p = tt
all_init P (x ∷ []) p = tt
all_init P (x ∷ y ∷ ys) p = (p.0, all_init P (y ∷ ys) p.1)

pub all_last : {A : Type 0} (P : A → Type 0) (d : A) (xs : List A) → 1 ≤ length xs → All P xs → P (last_or d xs)
all_last P d [] h p = absurd (omega arith)
all_last P d (x ∷ []) h p = p.0
all_last P d (x ∷ y ∷ ys) h p = all_last P x (y ∷ ys) (omega arith) p.1

pub all_by_last : {A : Type 0} (P : A → Type 0) (d : A) (xs : List A) → All P (init xs) → P (last_or d xs) → All P xs
all_by_last P d [] p q = tt
all_by_last P d (x ∷ []) p q = (q, tt)
all_by_last P d (x ∷ y ∷ ys) p q = (p.0, all_by_last P x (y ∷ ys) p.1 q)

pub all_first : {A : Type 0} (P : A → Type 0) (d : A) (xs : List A) → 1 ≤ length xs → All P xs → P (first_or d xs)
all_first P d [] h p = absurd (omega arith)
all_first P d (x ∷ xs) h p = p.0

pub all_rest : {A : Type 0} (P : A → Type 0) (xs : List A) → All P xs → All P (rest xs)
all_rest P [] p = tt
all_rest P (x ∷ xs) p = p.1

-- a part, one element, one element stored or changed
pub all_take : {A : Type 0} (P : A → Type 0) (n : ℕ) (xs : List A) → All P xs → All P (take n xs)
all_take P zero xs p = tt
all_take P (suc n) [] p = tt
all_take P (suc n) (x ∷ xs) p = (p.0, all_take P n xs p.1)

pub all_drop : {A : Type 0} (P : A → Type 0) (n : ℕ) (xs : List A) → All P xs → All P (drop n xs)
all_drop P zero xs p = p
all_drop P (suc n) [] p = tt
all_drop P (suc n) (x ∷ xs) p = all_drop P n xs p.1

pub all_at : {A : Type 0} (P : A → Type 0) (d : A) (xs : List A) (i : ℕ) → i < length xs → All P xs → P (get_or xs i d)
all_at P d [] i n a = absurd (omega arith)
all_at P d (x ∷ xs) zero n a = a.0
all_at P d (x ∷ xs) (suc i) n a = all_at P d xs i (omega arith) a.1

pub all_set : {A : Type 0} (P : A → Type 0) (i : ℕ) (y : A) (xs : List A) → P y → All P xs → All P (set xs i y)
all_set P i y [] q p = tt
all_set P zero y (x ∷ xs) q p = (q, p.1)
all_set P (suc i) y (x ∷ xs) q p = (p.0, all_set P i y xs q p.1)

pub all_modify : {A : Type 0} (P : A → Type 0) (i : ℕ) (g : A → A) → ((a : A) → P a → P (g a)) → (xs : List A) → All P xs → All P (modify i g xs)
all_modify P i g c [] a = tt
all_modify P zero g c (x ∷ xs) a = (c x a.0, a.1)
all_modify P (suc i) g c (x ∷ xs) a = (a.0, all_modify P i g c xs a.1)

-- all but the last, and a part
pub init-take : {A : Type 0} (P : A → Type 0) (n : ℕ) (xs : List A) → All P (init xs) → All P (init (take n xs))
init-take P zero xs a = tt
init-take P (suc n) [] a = tt
init-take P (suc zero) (x ∷ []) a = tt
init-take P (suc zero) (x ∷ y ∷ ys) a = tt
init-take P (suc (suc n)) (x ∷ []) a = tt
init-take P (suc (suc n)) (x ∷ y ∷ ys) a = (a.0, init-take P (suc n) (y ∷ ys) a.1)

pub take-init : {A : Type 0} (P : A → Type 0) (n : ℕ) (xs : List A) → All P (init xs) → suc n ≤ length xs → All P (take n xs)
take-init P zero xs a l = tt
take-init P (suc n) [] a l = absurd (omega arith)
take-init P (suc n) (x ∷ []) a l = absurd (omega arith)
take-init P (suc n) (x ∷ y ∷ ys) a l = (a.0, take-init P n (y ∷ ys) a.1 (omega arith))
