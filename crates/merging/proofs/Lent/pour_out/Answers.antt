-- `merging::Lent::pour_out`: of a node, the slots still to be laid are the whole; a flat slot and a gap at most are passed each time.
use Rattle.std.proofs.Common.{◌∙◌, arith, refl}
use Rattle.merging.specs.Packs.{node-at}
use Rattle.merging.proofs.Lent.pour_out.Goals as goal

pub loop-at-preserved : goal.loop-at-preserved
loop-at-preserved c =
    let l = c.loop-at in
    let v = l.invariant in
    let p = c.put.ensures in (
      (p.0 ∙ v.0.0, p.1 ∙ v.0.1, p.2 ∙ v.0.2, p.3 ∙ v.0.3, refl),
      omega (arith, c.past-t-in-loop-at.ensures.near, v.1),
      omega arith,
      v.3 ∙ node-at _ _ _ _ _ l.at l.t l.self.work.now c.if-m-at.false ∙ rw (p.4, c.past-t-in-loop-at.ensures.next, c.slot-x.ensures, c.block-in-loop-at.ensures.pool, c.block-in-loop-at.ensures.number, v.0.2),
    )
