-- `check_tree`: all passes are over one parse, so the answer is the first check of the list that fails. Assumes nothing.
use Rattle.std.proofs.Common.{refl, ◌∙◌}
use borrow.Author.Tests.{not-true, not-false}
use Rattle.mucalculus.specs.Form.{steady}
use Rattle.formula.proofs.Order.{misread, unscanned, tells, verdict}
use Rattle.formula.proofs.check_tree.Goals as goal

pub returns-then-not-scan : goal.returns-then-not-scan
returns-then-not-scan c =
    verdict _ _ _ _ _ c.scan_at.ensures c.in-Some.is (not-true _ c.if-not-scan.true) refl refl refl

pub returns-then-not-scan-2 : goal.returns-then-not-scan-2
returns-then-not-scan-2 c =
    verdict _ _ _ _ _ c.scan_at.ensures c.in-Some.is (not-false _ c.if-not-scan.false)
    (not-true _ c.if-not-scan-2.true) refl refl

pub returns-then-not-steady : goal.returns-then-not-steady
returns-then-not-steady c =
    verdict _ _ _ _ _ c.scan_at.ensures c.in-Some.is (not-false _ c.if-not-scan.false)
    (not-false _ c.if-not-scan-2.false)
    (tells _ _ _ _ _ c.scan_at.ensures c.in-Some.is steady c.steady_at.ensures c.in-Some-steady_at.is
    ∙ not-true _ c.if-not-steady.true) refl

pub returns-then-not-full : goal.returns-then-not-full
returns-then-not-full c =
    verdict _ _ _ _ _ c.scan_at.ensures c.in-Some.is (not-false _ c.if-not-scan.false)
    (not-false _ c.if-not-scan-2.false)
    (tells _ _ _ _ _ c.scan_at.ensures c.in-Some.is steady c.steady_at.ensures c.in-Some-steady_at.is
    ∙ not-false _ c.if-not-steady.false)
    (tells _ _ _ _ _ c.scan_at.ensures c.in-Some.is _ c.filled_at.ensures c.in-Some-filled_at.is
    ∙ not-true _ c.if-not-full.true)

pub returns : goal.returns
returns c =
    verdict _ _ _ _ _ c.scan_at.ensures c.in-Some.is (not-false _ c.if-not-scan.false)
    (not-false _ c.if-not-scan-2.false)
    (tells _ _ _ _ _ c.scan_at.ensures c.in-Some.is steady c.steady_at.ensures c.in-Some-steady_at.is
    ∙ not-false _ c.if-not-steady.false)
    (tells _ _ _ _ _ c.scan_at.ensures c.in-Some.is _ c.filled_at.ensures c.in-Some-filled_at.is
    ∙ not-false _ c.if-not-full.false)
