-- A lent pool, as definitions on its words and its state record see it.
use Rattle.std.specs.Prelude.{◌≡◌, ℕ, List}
use Rattle.blocks.specs.declared.State.{State}
use Rattle.blocks.specs.declared.pools.Pool.{Pool}
use Rattle.blocks.specs.Chain.{Got}

-- what a definition f, of words and state, gives for those of a pool
abbrev pub on : {A : Type 0} → (List ℕ → State → A) → Pool → A
on f pool = f pool.words.now pool.state

-- a call leaves a pool of the same lent words, with this state and these words in it
abbrev pub Leaves : Pool → Pool → State → List ℕ → Type 0
Leaves old new state words = (new.words.ghost_name ≡ old.words.ghost_name) × (new.state ≡ state) × (new.words.now ≡ words)

-- a call answers the block, and leaves the state and the words, that a definition gives
abbrev pub Gives : Pool → Pool → ℕ → Got × List ℕ → Type 0
Gives old new block x = (block ≡ x.0.block) × Leaves old new x.0.state x.1
