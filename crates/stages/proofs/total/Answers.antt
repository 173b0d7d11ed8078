-- `total`: a turn adds one count, which is small. Assumes nothing.
use Rattle.std.proofs.Common.{◌<◌, arith}
use Rattle.std.proofs.lemmas.List.{get_or-take, length-take-le}
use Rattle.stages.specs.Levels.{MOST, count_of}
use Rattle.stages.proofs.Levels.{sum-none, sum-next, sum-le}
use Rattle.stages.proofs.total.Goals as goal

pub loop-x-init : goal.loop-x-init
loop-x-init c = sum-none _

pub overflow_add-sum : goal.overflow_add-sum
overflow_add-sum c =
    let p = c.requires in
    let n = length-take-le c.args.k c.args.counts.now (omega (arith, p.0, p.1.size)) in
    let i : c.loop-x.x-index < c.args.k = omega (arith, n, c.loop-x-test.true) in
    let l = sum-le (count_of c.args.counts.now) MOST c.loop-x.x-index p.1.few in
    let f = p.1.few c.loop-x.x-index in
    rw get_or-take (omega (arith, l, f, i, p.0, c.loop-x.invariant))

pub loop-x-preserved : goal.loop-x-preserved
loop-x-preserved c =
    let p = c.requires in
    let n = length-take-le c.args.k c.args.counts.now (omega (arith, p.0, p.1.size)) in
    let i : c.loop-x.x-index < c.args.k = omega (arith, n, c.loop-x-test.true) in
    rw get_or-take (sum-next (count_of c.args.counts.now) c.loop-x.x-index c.loop-x.invariant)
