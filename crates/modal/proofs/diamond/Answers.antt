-- `diamond`: SHIFT, AND and the loop are one chain of steps. Assumes nothing.
use Rattle.std.proofs.Common.{arith}
use Rattle.std.proofs.lemmas.Result.{err_from_is_err_and}
use Rattle.modal.proofs.Chain.{base-bits, took}
use Rattle.modal.proofs.Laws.{shift-asks, shift-full, and-base, and-asks, and-full, loop-asks, diamond-ends}
use Rattle.modal.proofs.diamond.Goals as goal

pub overflow_mul-levels : goal.overflow_mul-levels
overflow_mul-levels c = omega (arith, base-bits c.requires.0.base)

pub take-requires : goal.take-requires
take-requires c = (shift-asks c.args.count c.requires.0, c.requires.1)

pub returns-in_err-first : goal.returns-in_err-first
returns-in_err-first c =
    let p = err_from_is_err_and c.from_residual.result c.from_residual.ensures.1 in
    rw p.1 (
      shift-full c.args.count c.requires.0
          (took c.requires.0.base (shift-asks c.args.count c.requires.0) c.take.ensures.0 c.take.ensures.2) c.in_err-first.was,
      c.take.ensures.1,
    )

pub take-requires-2 : goal.take-requires-2
take-requires-2 c =
    let s = took c.requires.0.base (shift-asks c.args.count c.requires.0) c.take.ensures.0 c.take.ensures.2 in
    (and-asks c.args.count c.requires.0 s c.in_ok-first.was, c.take.ensures.1)

pub returns-in_err-second : goal.returns-in_err-second
returns-in_err-second c =
    let p = err_from_is_err_and c.from_residual-in_err-second.result c.from_residual-in_err-second.ensures.1 in
    rw p.1
    (let s = took c.requires.0.base (shift-asks c.args.count c.requires.0) c.take.ensures.0 c.take.ensures.2 in (
      and-full c.args.count c.requires.0 s c.in_ok-first.was
          (took (and-base c.args.count c.requires.0 s c.in_ok-first.was) (and-asks c.args.count c.requires.0 s c.in_ok-first.was)
          c.take-2.ensures.0 c.take-2.ensures.2) c.in_err-second.was,
      c.take-2.ensures.1,
    ))

pub quantify-requires : goal.quantify-requires
quantify-requires c =
    let s = took c.requires.0.base (shift-asks c.args.count c.requires.0) c.take.ensures.0 c.take.ensures.2 in (
      loop-asks c.args.count c.requires.0 s c.in_ok-first.was
          (took (and-base c.args.count c.requires.0 s c.in_ok-first.was) (and-asks c.args.count c.requires.0 s c.in_ok-first.was)
          c.take-2.ensures.0 c.take-2.ensures.2) c.in_ok-second.was,
      c.take-2.ensures.1,
    )

pub returns : goal.returns
returns c =
    let s = took c.requires.0.base (shift-asks c.args.count c.requires.0) c.take.ensures.0 c.take.ensures.2 in (
      diamond-ends c.args.count c.requires.0 s c.in_ok-first.was
          (took (and-base c.args.count c.requires.0 s c.in_ok-first.was) (and-asks c.args.count c.requires.0 s c.in_ok-first.was)
          c.take-2.ensures.0 c.take-2.ensures.2) c.in_ok-second.was c.quantify.ensures.0,
      c.quantify.ensures.1,
    )
