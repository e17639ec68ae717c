-- The table: sums over it, and what stands where after a put.
use Rattle.std.specs.Prelude.{ℕ, zero, suc, ◌<◌, ◌≡◌, refl, length, get_or, replicate}
use Rattle.std.proofs.Common.{arith, get_or-set_same, get_or-set_other}
use Rattle.std.proofs.Math.ListN.{get_or-eq_default}
use Rattle.std.proofs.lemmas.List.{set-get_or}
use Rattle.machine.specs.Machine.{Head, Place, closed, State, place_at, put}
use Rattle.machine.specs.Numbers.{OpenAt}
use Rattle.machine.proofs.Exact.{by_lt}

-- what stands where after a put
pub at_put : {T : Type 0} (s : State T) (v : ℕ) (p : Place T) → v < length s.table → place_at (put s v p) v ≡ p
unfolding place_at put
at_put s v p h = get_or-set_same s.table v p closed h

pub at_put_other : {T : Type 0} (s : State T) (v w : ℕ) (p : Place T) → (w ≡ v → ⊥) → place_at (put s v p) w ≡ place_at s w
unfolding place_at put
at_put_other s v w p h = get_or-set_other s.table v w p closed h

pub put_self : {T : Type 0} (s : State T) (v : ℕ) (p : Place T) → place_at s v ≡ p → put s v p ≡ s
unfolding place_at put
put_self s v p e = rw (← e, set-get_or s.table v closed)

pub inside : {T : Type 0} {a : Head T} (s : State T) (v : ℕ) → OpenAt s v a → v < length s.table
unfolding place_at
inside s v e =
    by_lt v (length s.table) (λ h. h)
    (λ h. absurd (let f = get_or-eq_default s.table closed h in let z : ◌≡◌ {A = ℕ} 0 1 = cc in omega arith))

pub all_closed : {T : Type 0} (n v : ℕ) → ◌≡◌ {A = Place T} (get_or (replicate n closed) v closed) closed
all_closed zero v = refl
all_closed (suc n) zero = refl
all_closed (suc n) (suc v) = all_closed n v
