-- `least`: a turn takes one level more. Assumes nothing.
use Rattle.std.proofs.Common.{◌≡◌, ◌+◌, arith}
use Rattle.soundness.proofs.ListsLaws.{least_more, part-at}
use Rattle.soundness.proofs.within.least.Goals as goal

pub loop-a-preserved : goal.loop-a-preserved
loop-a-preserved c =
    let p = part-at c.args.from c.args.to c.args.list.now c.loop-a-test.true in
    let z : c.args.from + (c.loop-a.a-index + 1) ≡ c.args.from + c.loop-a.a-index + 1 = omega arith in
    rw z (least_more c.loop-a.invariant (omega arith) p.1 c.lesser-level.ensures)
