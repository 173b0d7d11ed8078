-- `quantify`: a level less at each turn, and the end where those left raise nothing. Assumes nothing.
use Rattle.std.proofs.Common.{◌≡◌, ◌+◌, ◌-◌, arith}
use Rattle.std.proofs.lemmas.Result.{err_from_is_err_and}
use Rattle.modal.proofs.Left.{stands-begins, stands-asks, stands-full, stands-turns, stands-rest, stands-grown, stands-found, stands-ends}
use Rattle.modal.proofs.quantify.Goals as goal

pub loop-left-init : goal.loop-left-init
loop-left-init c = (stands-begins c.requires.0 _, c.requires.1)

pub rest-found-requires : goal.rest-found-requires
rest-found-requires c =
    let e : c.loop-left.left - 1 + 1 ≡ c.loop-left.left = omega arith in
    rw e (stands-rest c.requires.0 c.loop-left.invariant.0, c.loop-left.invariant.1)

pub returns-in-Some : goal.returns-in-Some
returns-in-Some c =
    let e : c.loop-left.left - 1 + 1 ≡ c.loop-left.left = omega arith in
    let f = rw e at c.rest-found.ensures in (stands-found c.requires.0 c.loop-left.invariant.0 f.0 c.in-Some.is, f.1)

pub take-requires : goal.take-requires
take-requires c =
    let s = stands-grown c.requires.0 c.loop-left.invariant.0 c.rest-found.ensures.0.grown in
    (stands-asks c.requires.0 s c.loop-left-test.true, c.rest-found.ensures.1)

pub returns-in_err-next : goal.returns-in_err-next
returns-in_err-next c =
    let s = stands-grown c.requires.0 c.loop-left.invariant.0 c.rest-found.ensures.0.grown in
    let t = c.take.ensures in
    let p = err_from_is_err_and c.from_residual.result c.from_residual.ensures.1 in
    rw p.1 (stands-full c.requires.0 s c.loop-left-test.true t.0 t.2 c.in_err-next.was, t.1)

pub loop-left-preserved : goal.loop-left-preserved
loop-left-preserved c =
    let s = stands-grown c.requires.0 c.loop-left.invariant.0 c.rest-found.ensures.0.grown in
    let t = c.take.ensures in (stands-turns c.requires.0 s c.loop-left-test.true t.0 t.2 c.in_ok-next.was, t.1)

pub returns : goal.returns
returns c = (stands-ends c.requires.0 c.loop-left.invariant.0 (omega arith), c.loop-left.invariant.1)
