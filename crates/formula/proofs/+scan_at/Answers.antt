-- `scan_at`: by the token at the place. Assumes nothing.
use Rattle.std.proofs.Common.{refl, ◌∙◌, arith}
use Rattle.formula.proofs.Steps.{is-not, is-modal}
use Rattle.formula.proofs.Passes.{ans_inside}
use Rattle.formula.proofs.Scans.{alike_neg, alike_modal, leaf-small, binder_small, scan_zero, scan_bad, scan_token, scan_alike}
use Rattle.formula.proofs.Scans.{scan_binder, scan_both, scan_both_bad}
use Rattle.formula.proofs.+scan_at.Goals as goal

pub returns-then-depth-eq0 : goal.returns-then-depth-eq0
returns-then-depth-eq0 t c =
    scan_zero _ _ _ _ _ _ c.if-depth-eq0.true

pub returns-in_default : goal.returns-in_default
returns-in_default t c =
    scan_bad _ _ _ _ _ _ c.if-depth-eq0.false c.lead_at.ensures c.in_default.is

pub overflow_add-next : goal.overflow_add-next
overflow_add-next t c =
    omega (arith, ans_inside c.args.n c.args.grammar c.args.bytes.now c.args.at c.lead_at.ensures c.in-Some.is)

pub leaf_scan-requires : goal.leaf_scan-requires
leaf_scan-requires t c =
    leaf-small _ _ _ _ c.lead_at.ensures c.in-Some.is c.in-Leaf.is

pub has-fresh-requires : goal.has-fresh-requires
has-fresh-requires t c =
    binder_small _ _ _ _ c.lead_at.ensures c.in-Some.is c.in-Binder.is

pub single-requires : goal.single-requires
single-requires t c =
    binder_small _ _ _ _ c.lead_at.ensures c.in-Some.is c.in-Binder.is

pub closed-requires : goal.closed-requires
closed-requires t c =
    binder_small _ _ _ _ c.lead_at.ensures c.in-Some.is c.in-Binder.is

pub returns-in_err-first-in-Both : goal.returns-in_err-first-in-Both
returns-in_err-first-in-Both t c =
    c.from_residual.ensures
    ∙ scan_both_bad _ _ _ _ _ _ c.if-depth-eq0.false c.lead_at.ensures c.in-Some.is c.in-Both.is c.scan_at-in-Both.ensures c.in_err-first-in-Both.was

pub returns-in-Leaf : goal.returns-in-Leaf
returns-in-Leaf t c =
    scan_token _ _ _ _ _ _ c.if-depth-eq0.false c.lead_at.ensures c.in-Some.is c.in-Leaf.is c.leaf_scan.ensures

pub returns-in-Not : goal.returns-in-Not
returns-in-Not t c =
    scan_alike _ _ _ _ _ _ c.if-depth-eq0.false c.lead_at.ensures c.in-Some.is c.in-Not.is is-not alike_neg c.scan_at.ensures

pub returns-in_ok-first-in-Both : goal.returns-in_ok-first-in-Both
returns-in_ok-first-in-Both t c =
    scan_both _ _ _ _ _ _ c.if-depth-eq0.false c.lead_at.ensures c.in-Some.is c.in-Both.is c.scan_at-in-Both.ensures c.in_ok-first-in-Both.was
    c.scan_at-second.ensures c.joined.ensures

pub returns-in-Modal : goal.returns-in-Modal
returns-in-Modal t c =
    scan_alike _ _ _ _ _ _ c.if-depth-eq0.false c.lead_at.ensures c.in-Some.is c.in-Modal.is (is-modal _ _)
    (alike_modal c.in-Modal.field-0 c.in-Modal.field-1) c.scan_at-in-Modal.ensures

pub returns-in-Binder : goal.returns-in-Binder
returns-in-Binder t c =
    scan_binder _ _ _ _ _ _ c.if-depth-eq0.false c.lead_at.ensures c.in-Some.is c.in-Binder.is c.has-fresh.ensures
    c.single.ensures refl c.scan_at-in-Binder.ensures c.closed.ensures
