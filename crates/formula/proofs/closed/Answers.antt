-- `closed`: by the body's answer and whether P is free in it, one law of `Scans` each. Assumes nothing.
use Rattle.std.proofs.Common.{◌∙◌, ap, sym}
use Rattle.formula.specs.Scans.{closed_of}
use Rattle.formula.proofs.Scans.{closed-free, closed_vacuous}
use Rattle.formula.proofs.closed.Goals as goal

pub returns-then-has : goal.returns-then-has
returns-then-has c =
    closed-free _ _ c.in_ok-inner.was c.has.ensures c.if-has.true c.single.ensures

pub returns : goal.returns
returns c =
    closed_vacuous _ _ c.in_ok-inner.was c.has.ensures c.if-has.false

pub returns-in_err-inner : goal.returns-in_err-inner
returns-in_err-inner c =
    rw c.in_err-inner.was c.from_residual.ensures
