-- `before`: diamond, the fitting states and AND of both are one chain of steps, over the roots and the later set. Assumes nothing.
use Rattle.std.proofs.lemmas.Result.{err_from_is_err_and}
use Rattle.modal.proofs.Chain.{base-bits, took}
use Rattle.moments.proofs.BeforeLaws.{dia_asks, dia_full, fit-asks, fit-full, last-base, last-asks, before-ends}
use Rattle.moments.proofs.before.Goals as goal

pub diamond-requires : goal.diamond-requires
diamond-requires c = (dia_asks c.requires.0, c.requires.1)

pub returns-in_err-from : goal.returns-in_err-from
returns-in_err-from c =
    let p = err_from_is_err_and c.from_residual.result c.from_residual.ensures.1 in
    rw p.1 (
      dia_full c.requires.0 c.diamond.ensures.0 c.args.joint.mask c.args.joint.value c.in_err-from.was,
      c.diamond.ensures.1,
    )

pub fitting-requires : goal.fitting-requires
fitting-requires c = (fit-asks c.requires.0 c.diamond.ensures.0 c.in_ok-from.was, c.diamond.ensures.1)

pub returns-in_err-fit : goal.returns-in_err-fit
returns-in_err-fit c =
    let p = err_from_is_err_and c.from_residual-in_err-fit.result c.from_residual-in_err-fit.ensures.1 in
    rw p.1 (
      fit-full c.requires.0 c.diamond.ensures.0 c.in_ok-from.was c.args.joint.mask c.args.joint.value c.fitting.ensures.0
          c.in_err-fit.was,
      c.fitting.ensures.1,
    )

pub take_step-requires : goal.take_step-requires
take_step-requires c = (
  base-bits c.requires.0.base,
  (
    last-asks c.requires.0 c.diamond.ensures.0 c.in_ok-from.was c.args.joint.mask c.args.joint.value c.fitting.ensures.0
        c.in_ok-fit.was,
    c.fitting.ensures.1,
  ),
)

pub returns : goal.returns
returns c =
    let p = c.requires.0 in
    let g = c.diamond.ensures.0 in
    let e = c.in_ok-from.was in
    let m = c.args.joint.mask in
    let v = c.args.joint.value in
    let h = c.fitting.ensures.0 in
    let i = c.in_ok-fit.was in (
      before-ends p g e m v h i
          (took (last-base p g e m v h i) (last-asks p g e m v h i) c.take_step.ensures.0 c.take_step.ensures.2),
      c.take_step.ensures.1,
    )
