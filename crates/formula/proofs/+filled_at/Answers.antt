-- `filled_at`: by the token at the place. Assumes nothing.
use Rattle.std.proofs.Common.{◌∙◌, arith}
use Rattle.formula.proofs.Shapes.{filled-neg, filled-join, filled-modal, filled_binder}
use Rattle.formula.proofs.Steps.{is-not, is-modal, is_binder}
use Rattle.formula.proofs.Passes.{ans_zero, ans_bad, ans_leaf, ans_same, ans_one, ans_both_own, ans_both_bad, ans_inside}
use Rattle.formula.proofs.+filled_at.Goals as goal

pub returns-then-depth-eq0 : goal.returns-then-depth-eq0
returns-then-depth-eq0 t c =
    ans_zero _ _ _ _ _ _ c.if-depth-eq0.true

pub returns-in_default : goal.returns-in_default
returns-in_default t c =
    ans_bad _ _ _ _ _ _ c.if-depth-eq0.false c.lead_at.ensures c.in_default.is

pub overflow_add-next : goal.overflow_add-next
overflow_add-next t c =
    omega (arith, ans_inside c.args.n c.args.grammar c.args.bytes.now c.args.at c.lead_at.ensures c.in-Some.is)

pub returns-in_err-first-in-Both : goal.returns-in_err-first-in-Both
returns-in_err-first-in-Both t c =
    c.from_residual.ensures
    ∙ ans_both_bad _ _ _ _ _ _ c.if-depth-eq0.false c.lead_at.ensures c.in-Some.is c.in-Both.is c.filled_at-in-Both.ensures c.in_err-first-in-Both.was

pub returns-in-Leaf : goal.returns-in-Leaf
returns-in-Leaf t c =
    ans_leaf _ _ _ _ _ _ c.if-depth-eq0.false c.lead_at.ensures c.in-Some.is c.in-Leaf.is c.leaf_filled.ensures

pub returns-in-Not : goal.returns-in-Not
returns-in-Not t c =
    ans_same _ _ _ _ _ _ c.if-depth-eq0.false c.lead_at.ensures c.in-Some.is c.in-Not.is is-not _ (filled-neg _ _) c.filled_at.ensures

pub returns-in_ok-first-in-Both : goal.returns-in_ok-first-in-Both
returns-in_ok-first-in-Both t c =
    ans_both_own _ _ _ _ _ _ c.if-depth-eq0.false c.lead_at.ensures c.in-Some.is c.in-Both.is (filled-join _ _ c.in-Both.w)
    c.filled_at-in-Both.ensures c.in_ok-first-in-Both.was c.filled_at-second.ensures c.two_filled.ensures c.also.ensures
    c.also-in-Both.ensures

pub returns-in-Modal : goal.returns-in-Modal
returns-in-Modal t c =
    ans_one _ _ _ _ _ _ c.if-depth-eq0.false c.lead_at.ensures c.in-Some.is c.in-Modal.is (is-modal _ _) _
    (filled-modal _ _ c.in-Modal.field-0 c.in-Modal.t) c.relation_filled-ok.ensures c.filled_at-in-Modal.ensures
    c.also-in-Modal.ensures

pub returns-in-Binder : goal.returns-in-Binder
returns-in-Binder t c =
    ans_same _ _ _ _ _ _ c.if-depth-eq0.false c.lead_at.ensures c.in-Some.is c.in-Binder.is (is_binder _ _) _
    (filled_binder _ _ c.in-Binder.field-0 c.in-Binder.field-1) c.filled_at-in-Binder.ensures
