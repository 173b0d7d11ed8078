-- `make_set`: each turn makes the set of the moment before, from that of the last moment on. Assumes nothing.
use Rattle.std.proofs.Common.{arith}
use Rattle.std.proofs.lemmas.Result.{err_from_is_err_and}
use Rattle.moments.proofs.Sets.{last-asks, last_made, last-full, before-asks, turn-made, turn-full, set-ends}
use Rattle.moments.proofs.make_set.Goals as goal

pub last_set-requires : goal.last_set-requires
last_set-requires c = (last-asks c.requires.0, c.requires.1)

pub returns-in_err-last : goal.returns-in_err-last
returns-in_err-last c =
    let p = err_from_is_err_and c.from_residual.result c.from_residual.ensures.1 in
    rw p.1 (last-full c.requires.0 c.last_set.ensures.0 c.in_err-last.was, c.last_set.ensures.1)

pub loop-i-init : goal.loop-i-init
loop-i-init c =
    (c.requires.0.inside, omega arith, c.last_set.ensures.1, last_made c.requires.0 c.last_set.ensures.0 (omega arith) c.in_ok-last.was)

pub before-requires : goal.before-requires
before-requires c = (before-asks c.requires.0 c.loop-i.invariant.3, c.loop-i.invariant.2)

pub returns-in_err-set : goal.returns-in_err-set
returns-in_err-set c =
    let v = c.loop-i.invariant in
    let t = c.loop-i-test.true in
    let b = c.before-in-loop-i.ensures in
    let p = err_from_is_err_and c.from_residual-in_err-set.result c.from_residual-in_err-set.ensures.1 in
    rw p.1 (
      turn-full c.requires.0 v.3 (omega (arith, t)) c.moment_at-m.ensures b.0 (omega (arith, t)) (omega (arith, v.1)) c.in_err-set.was,
      b.1,
    )

pub loop-i-preserved : goal.loop-i-preserved
loop-i-preserved c =
    let v = c.loop-i.invariant in
    let t = c.loop-i-test.true in
    let b = c.before-in-loop-i.ensures in (
      omega (arith, t),
      omega (arith, v.1),
      b.1,
      turn-made c.requires.0 v.3 (omega (arith, t)) c.moment_at-m.ensures b.0 (omega (arith, t, v.1)) c.in_ok-set.was,
    )

pub returns : goal.returns
returns c =
    let v = c.loop-i.invariant in (set-ends c.requires.0 v.3 c.loop-i-test.false v.0 (omega (arith, v.1)), v.2)
