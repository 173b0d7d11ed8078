-- `fitting`: the cube and AND with V are one chain of steps. Assumes nothing.
use Rattle.std.proofs.lemmas.Result.{err_from_is_err_and}
use Rattle.modal.proofs.Chain.{base-bits, took}
use Rattle.moments.proofs.FittingLaws.{cube-asks, fit-full, and-base, and-asks, fit-ends}
use Rattle.moments.proofs.fitting.Goals as goal

pub take_step-requires : goal.take_step-requires
take_step-requires c = (
  base-bits c.requires.0.base,
  (cube-asks c.args.joint.mask c.args.joint.value c.args.count c.requires.0, c.requires.1),
)

pub returns-in_err-fit : goal.returns-in_err-fit
returns-in_err-fit c =
    let m = c.args.joint.mask in
    let v = c.args.joint.value in
    let q = c.args.count in
    let p = c.requires.0 in
    let r = err_from_is_err_and c.from_residual.result c.from_residual.ensures.1 in
    rw r.1 (
      fit-full m v q p (took p.base (cube-asks m v q p) c.take_step.ensures.0 c.take_step.ensures.2) c.in_err-fit.was,
      c.take_step.ensures.1,
    )

pub take_step-requires-2 : goal.take_step-requires-2
take_step-requires-2 c =
    let m = c.args.joint.mask in
    let v = c.args.joint.value in
    let q = c.args.count in
    let p = c.requires.0 in (
      base-bits p.base,
      (
        and-asks m v q p (took p.base (cube-asks m v q p) c.take_step.ensures.0 c.take_step.ensures.2) c.in_ok-fit.was,
        c.take_step.ensures.1,
      ),
    )

pub returns : goal.returns
returns c =
    let m = c.args.joint.mask in
    let v = c.args.joint.value in
    let q = c.args.count in
    let p = c.requires.0 in
    let s = took p.base (cube-asks m v q p) c.take_step.ensures.0 c.take_step.ensures.2 in (
      fit-ends m v q p s c.in_ok-fit.was
          (took (and-base m v q p s c.in_ok-fit.was) (and-asks m v q p s c.in_ok-fit.was) c.take_step-2.ensures.0
          c.take_step-2.ensures.2),
      c.take_step-2.ensures.1,
    )
