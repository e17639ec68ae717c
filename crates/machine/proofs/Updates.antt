-- Where something for each vector number is replaced, and where not.
use Rattle.std.specs.Prelude.{ℕ, ◌≡◌, refl, Bool, true, false, cond, eqb}
use Rattle.std.proofs.Common.{sym, ◌∙◌, ap, eq-eqb, ne_eqb}
use Rattle.std.proofs.Math.Decide.{ℕ_discrete}
use Rattle.machine.specs.Updates.{update}

pub update_same : {A : Type 0} (f : ℕ → A) (v : ℕ) (x : A) (w : ℕ) → w ≡ v → update f v x w ≡ x
unfolding update
update_same f v x w e = rw (eq-eqb w v e)

pub update_other : {A : Type 0} (f : ℕ → A) (v : ℕ) (x : A) (w : ℕ) → (w ≡ v → ⊥) → update f v x w ≡ f w
unfolding update
update_other f v x w n = rw (ne_eqb w v n)

pub update_self : {A : Type 0} (f : ℕ → A) (v w : ℕ) → update f v (f v) w ≡ f w
update_self f v w = go (ℕ_discrete w v)
  where
    go : Dec (w ≡ v) → update f v (f v) w ≡ f w
    go (yes e) = update_same f v (f v) w e ∙ ap f (sym e)
    go (no n) = update_other f v (f v) w n

pub update_ext : {A : Type 0} (f g : ℕ → A) (v : ℕ) (x : A) (w : ℕ) → f w ≡ g w → update f v x w ≡ update g v x w
unfolding update
update_ext f g v x w e = rw e

pub update-map : {A B : Type 0} (g : A → B) (f : ℕ → A) (v : ℕ) (x : A) (w : ℕ) → g (update f v x w) ≡ update (λ u. g (f u)) v (g x) w
unfolding update
update-map g f v x w = go (eqb w v)
  where
    go : (b : Bool) → g (cond b x (f w)) ≡ cond b (g x) (g (f w))
    go true = refl
    go false = refl
