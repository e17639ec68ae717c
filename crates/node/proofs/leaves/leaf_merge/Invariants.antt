-- `node::leaves::leaf_merge`: the stores still to come, on the part so far, are those of the whole run.
use Rattle.std.proofs.Common.{◌≡◌, ◌+◌, drop}
use lib.Seq.{sets}
use Rattle.node.proofs.leaves.leaf_merge.Given as goal

abbrev pub invariant-loop-i : goal.invariant-loop-i
invariant-loop-i l = sets l.initial.part l.n l.src ≡ sets l.part (l.n + l.i) (drop l.i l.src)
