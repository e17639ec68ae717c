-- What a merge is lent, as definitions on the pool's words, its state and the area's words see it.
use Rattle.std.specs.Prelude.{◌≡◌, ℕ, List}
use Rattle.blocks.specs.declared.State.{State}
use Rattle.merging.specs.declared.Lent.{Lent}
use Rattle.levels.specs.declared.Shift.{Shift}
use Rattle.merging.specs.Packs.{Out, triple_same}
use Rattle.merging.specs.Merges.{Merged}

-- what a definition f, of words, state and area, gives for those that are lent
abbrev pub on : {A : Type 0} → (List ℕ → State → List ℕ → A) → Lent → A
on f lent = f lent.words.now lent.state lent.work.now

-- a call leaves the same words and area lent, with this state and these words in them
abbrev pub Holds : Lent → Lent → State → List ℕ → List ℕ → Type 0
Holds old new state words work =
    (new.words.ghost_name ≡ old.words.ghost_name) × (new.state ≡ state) × (new.words.now ≡ words) × (new.work.ghost_name ≡ old.work.ghost_name) × (new.work.now ≡ work)

-- a call changes the area alone
abbrev pub Stores : Lent → Lent → List ℕ → Type 0
Stores old new work = Holds old new old.state old.words.now work

-- a call leaves the state, the words and the area that a definition gives
abbrev pub Becomes : Lent → Lent → State × List ℕ × List ℕ → Type 0
Becomes old new x = Holds old new x.0 x.1 x.2

-- a call answers how many nodes go up, and leaves what a definition gives
abbrev pub Packs : Lent → Lent → ℕ → Out → Type 0
Packs old new n x = (n ≡ x.0.n) × Holds old new x.0.state x.1 x.2

-- a call answers a tree's root and level, and leaves what a definition gives
abbrev pub Joins : Lent → Lent → ℕ → Shift → Merged × List ℕ × List ℕ → Type 0
Joins old new root shift x = (root ≡ x.0.root) × (shift ≡ x.0.shift) × Holds old new x.0.state x.1 x.2

-- The laws by which calls follow one another: what is lent holds what the last call left.
pub became : (a b : Lent) (x : State × List ℕ × List ℕ) → Becomes a b x → ◌≡◌ {A = State × List ℕ × List ℕ} (b.state, b.words.now, b.work.now) x
became a b x h = triple_same x _ _ _ (h.1, (h.2, h.4))

pub packs_so : (a b : Lent) {n : ℕ} (x : Out) → Packs a b n x → ◌≡◌ {A = Out} (record { n = n; state = b.state }, b.words.now, b.work.now) x
packs_so a b x h = triple_same x _ _ _ ((λ i. record { n = h.0 i; state = h.1.1 i }), (h.1.2, h.1.4))
