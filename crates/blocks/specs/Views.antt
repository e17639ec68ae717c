-- One block of a pool, as definitions on the words and a block's number see it.
use Rattle.std.specs.Prelude.{ℕ, List}
use Rattle.blocks.specs.declared.views.Block.{Block}

-- what a definition f, of words and a block's number, gives for those of a block
abbrev pub read : {A : Type 0} → (List ℕ → ℕ → A) → Block → A
read f block = f block.pool.now block.number
