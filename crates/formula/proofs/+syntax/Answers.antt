-- `syntax`: by the token at the place. Assumes nothing.
use Rattle.std.proofs.Common.{refl, ◌∙◌, arith}
use Rattle.formula.proofs.Steps.{is-not, is-modal, is_binder}
use Rattle.formula.proofs.Passes.{ans_zero, ans_bad, ans_leaf, ans_same, ans_both_bad, ans_both_read, ans_inside}
use Rattle.formula.proofs.+syntax.Goals as goal

pub returns-then-depth-eq0 : goal.returns-then-depth-eq0
returns-then-depth-eq0 t c =
    ans_zero _ _ _ _ _ _ c.if-depth-eq0.true

pub returns-in_default : goal.returns-in_default
returns-in_default t c =
    ans_bad _ _ _ _ _ _ c.if-depth-eq0.false c.lead_at.ensures c.in_default.is

pub overflow_add-next : goal.overflow_add-next
overflow_add-next t c =
    omega (arith, ans_inside c.args.n c.args.grammar c.args.bytes.now c.args.at c.lead_at.ensures c.in-Some.is)

pub returns-in_err-first-in-Both : goal.returns-in_err-first-in-Both
returns-in_err-first-in-Both t c =
    c.from_residual.ensures
    ∙ ans_both_bad _ _ _ _ _ _ c.if-depth-eq0.false c.lead_at.ensures c.in-Some.is c.in-Both.is c.syntax-in-Both.ensures c.in_err-first-in-Both.was

pub returns-in-Leaf : goal.returns-in-Leaf
returns-in-Leaf t c =
    ans_leaf _ _ _ _ _ _ c.if-depth-eq0.false c.lead_at.ensures c.in-Some.is c.in-Leaf.is refl

pub returns-in-Not : goal.returns-in-Not
returns-in-Not t c =
    ans_same _ _ _ _ _ _ c.if-depth-eq0.false c.lead_at.ensures c.in-Some.is c.in-Not.is is-not _ (λ f. refl) c.syntax.ensures

pub returns-in_ok-first-in-Both : goal.returns-in_ok-first-in-Both
returns-in_ok-first-in-Both t c =
    ans_both_read _ _ _ _ _ c.if-depth-eq0.false c.lead_at.ensures c.in-Some.is c.in-Both.is c.syntax-in-Both.ensures c.in_ok-first-in-Both.was
    c.syntax-in-Both-2.ensures

pub returns-in-Modal : goal.returns-in-Modal
returns-in-Modal t c =
    ans_same _ _ _ _ _ _ c.if-depth-eq0.false c.lead_at.ensures c.in-Some.is c.in-Modal.is (is-modal _ _) _ (λ f. refl)
    c.syntax-in-Modal.ensures

pub returns-in-Binder : goal.returns-in-Binder
returns-in-Binder t c =
    ans_same _ _ _ _ _ _ c.if-depth-eq0.false c.lead_at.ensures c.in-Some.is c.in-Binder.is (is_binder _ _) _ (λ f. refl)
    c.syntax-in-Binder.ensures
