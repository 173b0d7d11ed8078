-- `even` and `odd`: by the token at the place. Assumes nothing.
use Rattle.std.proofs.Common.{◌∙◌, ◌+◌, ◌-◌, arith, true, false}
use Rattle.mucalculus.specs.Form.{reads}
use Rattle.formula.proofs.Shapes.{reads_neg, reads_join, reads_modal, reads_binder, reads_leaf}
use Rattle.formula.proofs.Steps.{is-not, is-modal, is_binder}
use Rattle.formula.proofs.Passes.{shorter, shorter_past, ans_zero, ans_bad, ans_leaf, ans_same, ans_both, ans_both_bad, ans_inside}
use Rattle.formula.proofs.Readings.{pass_ahead}
use Rattle.formula.proofs.+even_odd.Goals as goal

pub even-returns-then-depth-eq0 : goal.even-returns-then-depth-eq0
even-returns-then-depth-eq0 t c =
    ans_zero _ _ _ _ _ _ c.if-depth-eq0.true

pub even-returns-in_default : goal.even-returns-in_default
even-returns-in_default t c =
    ans_bad _ _ _ _ _ _ c.if-depth-eq0.false c.lead_at.ensures c.in_default.is

pub even-overflow_add-next : goal.even-overflow_add-next
even-overflow_add-next t c =
    omega (arith, ans_inside c.args.n c.args.grammar c.args.bytes.now c.args.at c.lead_at.ensures c.in-Some.is)

pub even-odd-requires : goal.even-odd-requires
even-odd-requires t c =
    (shorter (ans_inside c.args.n c.args.grammar c.args.bytes.now c.args.at c.lead_at.ensures c.in-Some.is) c.decreases, tt)

pub even-even-requires : goal.even-even-requires
even-even-requires t c =
    (shorter (ans_inside c.args.n c.args.grammar c.args.bytes.now c.args.at c.lead_at.ensures c.in-Some.is) c.decreases, tt)

pub even-even-requires-in-Modal : goal.even-even-requires-in-Modal
even-even-requires-in-Modal t c =
    (shorter (ans_inside c.args.n c.args.grammar c.args.bytes.now c.args.at c.lead_at.ensures c.in-Some.is) c.decreases, tt)

pub even-even-requires-in-Binder : goal.even-even-requires-in-Binder
even-even-requires-in-Binder t c =
    (shorter (ans_inside c.args.n c.args.grammar c.args.bytes.now c.args.at c.lead_at.ensures c.in-Some.is) c.decreases, tt)

pub even-even-requires-in-Both : goal.even-even-requires-in-Both
even-even-requires-in-Both t c = (
  shorter_past (ans_inside c.args.n c.args.grammar c.args.bytes.now c.args.at c.lead_at.ensures c.in-Some.is)
      (pass_ahead c.args.n c.args.grammar c.args.bytes.now (reads true c.args.p) (c.args.depth - 1) (c.args.at + 1)
      c.even.ensures c.in_ok-first-in-Both.was) c.decreases,
  tt,
)

pub even-returns-in_err-first-in-Both : goal.even-returns-in_err-first-in-Both
even-returns-in_err-first-in-Both t c =
    c.from_residual.ensures
    ∙ ans_both_bad _ _ _ _ _ _ c.if-depth-eq0.false c.lead_at.ensures c.in-Some.is c.in-Both.is c.even.ensures c.in_err-first-in-Both.was

pub even-returns-in-Leaf : goal.even-returns-in-Leaf
even-returns-in-Leaf t c =
    ans_leaf _ _ _ _ _ _ c.if-depth-eq0.false c.lead_at.ensures c.in-Some.is c.in-Leaf.is (reads_leaf c.args.p c.in-Leaf.field-0)

pub even-returns-in-Not : goal.even-returns-in-Not
even-returns-in-Not t c =
    ans_same _ _ _ _ _ _ c.if-depth-eq0.false c.lead_at.ensures c.in-Some.is c.in-Not.is is-not _ (reads_neg _ _) c.odd.ensures

pub even-returns-in_ok-first-in-Both : goal.even-returns-in_ok-first-in-Both
even-returns-in_ok-first-in-Both t c =
    ans_both _ _ _ _ _ _ c.if-depth-eq0.false c.lead_at.ensures c.in-Some.is c.in-Both.is (reads_join _ _) c.even.ensures
    c.in_ok-first-in-Both.was c.even-in-Both.ensures c.also.ensures

pub even-returns-in-Modal : goal.even-returns-in-Modal
even-returns-in-Modal t c =
    ans_same _ _ _ _ _ _ c.if-depth-eq0.false c.lead_at.ensures c.in-Some.is c.in-Modal.is (is-modal _ _) _
    (reads_modal _ _ c.in-Modal.field-0 c.in-Modal.field-1) c.even-in-Modal.ensures

pub even-returns-in-Binder : goal.even-returns-in-Binder
even-returns-in-Binder t c =
    ans_same _ _ _ _ _ _ c.if-depth-eq0.false c.lead_at.ensures c.in-Some.is c.in-Binder.is (is_binder _ _) _
    (reads_binder _ _ c.in-Binder.field-0 c.in-Binder.field-1) c.even-in-Binder.ensures

pub odd-returns-then-depth-eq0 : goal.odd-returns-then-depth-eq0
odd-returns-then-depth-eq0 t c =
    ans_zero _ _ _ _ _ _ c.if-depth-eq0.true

pub odd-returns-in_default : goal.odd-returns-in_default
odd-returns-in_default t c =
    ans_bad _ _ _ _ _ _ c.if-depth-eq0.false c.lead_at.ensures c.in_default.is

pub odd-overflow_add-next : goal.odd-overflow_add-next
odd-overflow_add-next t c =
    omega (arith, ans_inside c.args.n c.args.grammar c.args.bytes.now c.args.at c.lead_at.ensures c.in-Some.is)

pub odd-even-requires : goal.odd-even-requires
odd-even-requires t c =
    (shorter (ans_inside c.args.n c.args.grammar c.args.bytes.now c.args.at c.lead_at.ensures c.in-Some.is) c.decreases, tt)

pub odd-odd-requires : goal.odd-odd-requires
odd-odd-requires t c =
    (shorter (ans_inside c.args.n c.args.grammar c.args.bytes.now c.args.at c.lead_at.ensures c.in-Some.is) c.decreases, tt)

pub odd-odd-requires-in-Modal : goal.odd-odd-requires-in-Modal
odd-odd-requires-in-Modal t c =
    (shorter (ans_inside c.args.n c.args.grammar c.args.bytes.now c.args.at c.lead_at.ensures c.in-Some.is) c.decreases, tt)

pub odd-odd-requires-in-Binder : goal.odd-odd-requires-in-Binder
odd-odd-requires-in-Binder t c =
    (shorter (ans_inside c.args.n c.args.grammar c.args.bytes.now c.args.at c.lead_at.ensures c.in-Some.is) c.decreases, tt)

pub odd-odd-requires-in-Both : goal.odd-odd-requires-in-Both
odd-odd-requires-in-Both t c = (
  shorter_past (ans_inside c.args.n c.args.grammar c.args.bytes.now c.args.at c.lead_at.ensures c.in-Some.is)
      (pass_ahead c.args.n c.args.grammar c.args.bytes.now (reads false c.args.p) (c.args.depth - 1) (c.args.at + 1)
      c.odd.ensures c.in_ok-first-in-Both.was) c.decreases,
  tt,
)

pub odd-returns-in_err-first-in-Both : goal.odd-returns-in_err-first-in-Both
odd-returns-in_err-first-in-Both t c =
    c.from_residual.ensures
    ∙ ans_both_bad _ _ _ _ _ _ c.if-depth-eq0.false c.lead_at.ensures c.in-Some.is c.in-Both.is c.odd.ensures c.in_err-first-in-Both.was

pub odd-returns-in-Leaf : goal.odd-returns-in-Leaf
odd-returns-in-Leaf t c =
    ans_leaf _ _ _ _ _ _ c.if-depth-eq0.false c.lead_at.ensures c.in-Some.is c.in-Leaf.is c.not_var.ensures

pub odd-returns-in-Not : goal.odd-returns-in-Not
odd-returns-in-Not t c =
    ans_same _ _ _ _ _ _ c.if-depth-eq0.false c.lead_at.ensures c.in-Some.is c.in-Not.is is-not _ (reads_neg _ _) c.even.ensures

pub odd-returns-in_ok-first-in-Both : goal.odd-returns-in_ok-first-in-Both
odd-returns-in_ok-first-in-Both t c =
    ans_both _ _ _ _ _ _ c.if-depth-eq0.false c.lead_at.ensures c.in-Some.is c.in-Both.is (reads_join _ _) c.odd.ensures
    c.in_ok-first-in-Both.was c.odd-in-Both.ensures c.also.ensures

pub odd-returns-in-Modal : goal.odd-returns-in-Modal
odd-returns-in-Modal t c =
    ans_same _ _ _ _ _ _ c.if-depth-eq0.false c.lead_at.ensures c.in-Some.is c.in-Modal.is (is-modal _ _) _
    (reads_modal _ _ c.in-Modal.field-0 c.in-Modal.field-1) c.odd-in-Modal.ensures

pub odd-returns-in-Binder : goal.odd-returns-in-Binder
odd-returns-in-Binder t c =
    ans_same _ _ _ _ _ _ c.if-depth-eq0.false c.lead_at.ensures c.in-Some.is c.in-Binder.is (is_binder _ _) _
    (reads_binder _ _ c.in-Binder.field-0 c.in-Binder.field-1) c.odd-in-Binder.ensures
