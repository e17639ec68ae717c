-- `node::leaves::leaf_take`: the slots in use come first, and zeros are left after them.
use Rattle.std.proofs.Common.{ℕ, length}
use Rattle.std.proofs.lemmas.List.{drop-replicate}
use Rattle.node.specs.Leaves.{take_of, length-slots}
use Rattle.node.proofs.leaves.leaf_take.Goals as goal

pub returns : goal.returns
unfolding take_of
returns c = rw (c.copy_from_slice.ensures.after, drop-replicate {X = ℕ} (length c.in_use.result.words.now) 32 0, c.in_use.ensures, length-slots)
