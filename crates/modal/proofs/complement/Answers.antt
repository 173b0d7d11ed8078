-- `complement`: NOT and AND with V are one chain of steps; where V is every state, the second answers and needs what the first does.
-- Assumes nothing.
use Rattle.std.proofs.Common.{arith}
use Rattle.std.proofs.lemmas.Result.{err_from_is_err_and}
use Rattle.counting.proofs.After.{and-all}
use Rattle.modal.proofs.Chain.{base-bits, took}
use Rattle.modal.proofs.Laws.{not-asks, not_full, in-base, in-asks, complement-ends}
use Rattle.modal.proofs.complement.Goals as goal

pub overflow_mul-levels : goal.overflow_mul-levels
overflow_mul-levels c = omega (arith, base-bits c.requires.0.base)

pub take-requires : goal.take-requires
take-requires c = (not-asks c.args.count c.requires.0, c.requires.1)

pub returns-in_err-first : goal.returns-in_err-first
returns-in_err-first c =
    let p = err_from_is_err_and c.from_residual.result c.from_residual.ensures.1 in
    rw p.1 (
      not_full c.args.count c.requires.0
          (took c.requires.0.base (not-asks c.args.count c.requires.0) c.take.ensures.0 c.take.ensures.2) c.in_err-first.was,
      c.take.ensures.1,
    )

pub returns-then-valid-eq-EVERYTHING : goal.returns-then-valid-eq-EVERYTHING
returns-then-valid-eq-EVERYTHING c =
    let s = took c.requires.0.base (not-asks c.args.count c.requires.0) c.take.ensures.0 c.take.ensures.2 in
    let asks = in-asks c.args.count c.requires.0 s c.in_ok-first.was in
    let z = and-all c.args.count _ c.in_ok-first.was c.take.ensures asks c.if-valid-eq-EVERYTHING.true in (
      complement-ends c.args.count c.requires.0 s c.in_ok-first.was
          (took (in-base c.args.count c.requires.0 s c.in_ok-first.was) asks z.0 z.2),
      c.take.ensures.1,
    )

pub take-requires-2 : goal.take-requires-2
take-requires-2 c =
    let s = took c.requires.0.base (not-asks c.args.count c.requires.0) c.take.ensures.0 c.take.ensures.2 in
    (in-asks c.args.count c.requires.0 s c.in_ok-first.was, c.take.ensures.1)

pub returns : goal.returns
returns c =
    let s = took c.requires.0.base (not-asks c.args.count c.requires.0) c.take.ensures.0 c.take.ensures.2 in (
      complement-ends c.args.count c.requires.0 s c.in_ok-first.was
          (took (in-base c.args.count c.requires.0 s c.in_ok-first.was) (in-asks c.args.count c.requires.0 s c.in_ok-first.was)
          c.take-2.ensures.0 c.take-2.ensures.2),
      c.take-2.ensures.1,
    )
