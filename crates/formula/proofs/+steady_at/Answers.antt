-- `steady_at`: by the token at the place. Assumes nothing.
use Rattle.std.proofs.Common.{◌∙◌, arith, true}
use Rattle.mucalculus.specs.Form.{reads, steady}
use Rattle.formula.proofs.Shapes.{steady-leaf, steady-neg, steady-join, steady-modal, steady_binder}
use Rattle.formula.proofs.Steps.{is-not, is-modal, is_binder}
use Rattle.formula.proofs.Passes.{ans_zero, ans_bad, ans_leaf, ans_same, ans_both, ans_both_bad, ans_twice, ans_twice_bad, ans_inside}
use Rattle.formula.proofs.+steady_at.Goals as goal

pub returns-then-depth-eq0 : goal.returns-then-depth-eq0
returns-then-depth-eq0 t c =
    ans_zero _ _ _ _ _ _ c.if-depth-eq0.true

pub returns-in_default : goal.returns-in_default
returns-in_default t c =
    ans_bad _ _ _ _ _ _ c.if-depth-eq0.false c.lead_at.ensures c.in_default.is

pub overflow_add-next : goal.overflow_add-next
overflow_add-next t c =
    omega (arith, ans_inside c.args.n c.args.grammar c.args.bytes.now c.args.at c.lead_at.ensures c.in-Some.is)

pub returns-in_err-first-in-Both : goal.returns-in_err-first-in-Both
returns-in_err-first-in-Both t c =
    c.from_residual.ensures
    ∙ ans_both_bad _ _ _ _ _ _ c.if-depth-eq0.false c.lead_at.ensures c.in-Some.is c.in-Both.is c.steady_at-in-Both.ensures c.in_err-first-in-Both.was

pub returns-in_err-own-in-Binder : goal.returns-in_err-own-in-Binder
returns-in_err-own-in-Binder t c =
    c.from_residual-in_err-own-in-Binder.ensures
    ∙ ans_twice_bad _ _ _ _ _ _ c.if-depth-eq0.false c.lead_at.ensures c.in-Some.is c.in-Binder.is (is_binder _ _)
    (reads true c.in-Binder.p) c.even.ensures c.in_err-own-in-Binder.was

pub returns-in-Leaf : goal.returns-in-Leaf
returns-in-Leaf t c =
    ans_leaf _ _ _ _ _ _ c.if-depth-eq0.false c.lead_at.ensures c.in-Some.is c.in-Leaf.is (steady-leaf c.in-Leaf.field-0)

pub returns-in-Not : goal.returns-in-Not
returns-in-Not t c =
    ans_same _ _ _ _ _ _ c.if-depth-eq0.false c.lead_at.ensures c.in-Some.is c.in-Not.is is-not _ steady-neg c.steady_at.ensures

pub returns-in_ok-first-in-Both : goal.returns-in_ok-first-in-Both
returns-in_ok-first-in-Both t c =
    ans_both _ _ _ _ _ _ c.if-depth-eq0.false c.lead_at.ensures c.in-Some.is c.in-Both.is steady-join c.steady_at-in-Both.ensures
    c.in_ok-first-in-Both.was c.steady_at-in-Both-2.ensures c.also.ensures

pub returns-in-Modal : goal.returns-in-Modal
returns-in-Modal t c =
    ans_same _ _ _ _ _ _ c.if-depth-eq0.false c.lead_at.ensures c.in-Some.is c.in-Modal.is (is-modal _ _) _
    (steady-modal c.in-Modal.field-0 c.in-Modal.field-1) c.steady_at-in-Modal.ensures

pub returns-in_ok-own-in-Binder : goal.returns-in_ok-own-in-Binder
returns-in_ok-own-in-Binder t c =
    ans_twice _ _ _ _ _ _ c.if-depth-eq0.false c.lead_at.ensures c.in-Some.is c.in-Binder.is (is_binder _ _)
    (reads true c.in-Binder.p) steady (steady_binder c.in-Binder.field-0 c.in-Binder.p)
    c.even.ensures c.in_ok-own-in-Binder.was c.steady_at-in-Binder.ensures c.also-in-Binder.ensures
