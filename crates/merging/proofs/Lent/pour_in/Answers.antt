-- `merging::Lent::pour_in`: the nodes still to be written, on the words so far, are those of the whole; the slots left are the total less 32 for each node.
use Rattle.std.proofs.Common.{◌≡◌, ◌+◌, ◌-◌, ◌*◌, ◌<◌, min, ◌∙◌, refl, arith}
use Rattle.merging.specs.Areas.{node_at}
use Rattle.merging.specs.Lent.{on}
use Rattle.merging.specs.Packs.{block_for, pour_at}
use Rattle.merging.proofs.Lent.pour_in.Goals as goal

pub loop-i-preserved : goal.loop-i-preserved
loop-i-preserved c =
    let l = c.loop-i in
    let a = c.args in
    let s = l.self in
    let v = l.invariant in
    let left = a.total.at - l.i * 32 in
    let g = on block_for s a.j.at (a.k.at + l.i) in
    let p : 0 < left = omega (arith, c.div_ceil-n.ensures, c.loop-i-test.true) in
    let e : a.total.at - (l.i + 1) * 32 ≡ left - min 32 left = omega arith in
    let m : c.min.result ≡ min 32 left = omega (arith, c.min.ensures) in
    let up : node_at a.out.at + l.i ≡ node_at (a.out.at + l.i) = omega arith in
    let b = c.block_for-b.ensures in
    let w = c.write_node.ensures in
    let q = c.put.ensures in (
      v.0 - 1,
      omega (arith, v.1, e),
      q.0 ∙ b.lent.0 ∙ v.2,
      q.3 ∙ b.lent.3 ∙ v.3,
      v.4 ∙ pour_at s.words.now s.state s.work.now a.j.at a.k.at a.out.at left l.i v.0 p v.1 g (min 32 left) refl refl ∙ rw (q.1, q.2, q.4, w, b.block, b.lent.1, b.lent.2, b.lent.4, m, e, up),
    )
