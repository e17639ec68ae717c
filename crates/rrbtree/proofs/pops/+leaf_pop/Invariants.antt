-- `rrbtree::pops`: the shift falls from a branch to its child, and the calls at one shift come in the order node, relaxed, dense.
use Rattle.std.proofs.Common.{◌+◌, ◌*◌}
use Rattle.rrbtree.proofs.pops.+leaf_pop.Given as goal

abbrev pub decreases-dense_pop : goal.decreases-dense_pop
decreases-dense_pop l = 3 * l.shift.0

abbrev pub decreases-node_pop : goal.decreases-node_pop
decreases-node_pop l = 3 * l.shift.0 + 2

abbrev pub decreases-relaxed_pop : goal.decreases-relaxed_pop
decreases-relaxed_pop l = 3 * l.shift.0 + 1
