-- `rrbtree::pushes::new_path`: after h turns h branches stand over the leaf.
use Rattle.blocks.specs.Pools.{on, Gives}
use Rattle.rrbtree.specs.Pushes.{path_of}
use Rattle.rrbtree.proofs.pushes.new_path.Given as goal

abbrev pub invariant-loop : goal.invariant-loop
invariant-loop l = Gives l.fn.pool l.pool l.b (on (path_of l.counter) l.fn.pool l.src.words.now)
