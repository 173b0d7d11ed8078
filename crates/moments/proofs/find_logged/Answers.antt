-- `find_logged`: all sets, the least state of the first one, and the run where the list has room. Assumes nothing.
use Rattle.std.proofs.Common.{arith}
use Rattle.std.proofs.lemmas.Result.{err_from_is_err_and}
use lib.ListN.{length-set}
use Rattle.modal.proofs.Chain.{base-bits}
use Rattle.seek.proofs.Search.{power_fits}
use Rattle.moments.proofs.Find.{find-asks, find-full, find-walks, find_none, find-short, find-small, write_asks, find-written}
use Rattle.moments.proofs.find_logged.Goals as goal

pub make_set-requires : goal.make_set-requires
make_set-requires c = (find-asks c.requires.0, c.requires.1)

pub returns-in_err-x : goal.returns-in_err-x
returns-in_err-x c =
    let p = err_from_is_err_and c.from_residual.result c.from_residual.ensures.1 in
    rw (p.1, p.2) (find-full c.requires.0 c.make_set.ensures.0 c.in_err-x.was)

pub least_common-s-requires : goal.least_common-s-requires
least_common-s-requires c = find-walks c.requires.0 c.make_set.ensures.0 c.in_ok-x.was

pub returns-then-states-s : goal.returns-then-states-s
returns-then-states-s c =
    let e = power_fits c.args.limits.bits (base-bits c.requires.0.start.base) in
    find_none c.requires.0 c.make_set.ensures.0 c.in_ok-x.was c.least_common-s.ensures (omega (arith, e, c.if-states-s.true))

pub returns-then-list-one : goal.returns-then-list-one
returns-then-list-one c =
    let e = power_fits c.args.limits.bits (base-bits c.requires.0.start.base) in
    find-short c.requires.0 c.make_set.ensures.0 c.in_ok-x.was c.least_common-s.ensures (omega (arith, e, c.if-states-s.false))
    (omega (arith, c.if-list-one.true))

pub overflow_cast-list : goal.overflow_cast-list
overflow_cast-list c =
    let e = power_fits c.args.limits.bits (base-bits c.requires.0.start.base) in
    let h = find-small c.requires.0 c.make_set.ensures.0 c.in_ok-x.was c.least_common-s.ensures (omega (arith, e, c.if-states-s.false)) in
    omega (arith, h)

pub write_on-requires : goal.write_on-requires
write_on-requires c =
    let e = power_fits c.args.limits.bits (base-bits c.requires.0.start.base) in (
      write_asks c.requires.0 c.make_set.ensures.0 c.in_ok-x.was c.least_common-s.ensures (omega (arith, e, c.if-states-s.false))
          (simp length-set (omega (arith, c.if-list-one.false))),
      c.make_set.ensures.1,
    )

pub returns : goal.returns
returns c =
    let e = power_fits c.args.limits.bits (base-bits c.requires.0.start.base) in
    find-written c.requires.0 c.make_set.ensures.0 c.in_ok-x.was c.least_common-s.ensures (omega (arith, e, c.if-states-s.false))
    c.args.list.now (omega (arith, c.if-list-one.false)) c.write_on.ensures
