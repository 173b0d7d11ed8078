-- The cycle of the evaluator: each answer is a law of `Cycle` or `Untils`. Assumes nothing.
use Rattle.std.proofs.Common.{refl, ap, ◌∙◌, arith}
use Rattle.tokens.specs.declared.Token.TheVariants.{Both}
use Rattle.evaluator.proofs.Tokens.{read-depth, read-token, read-inside}
use Rattle.evaluator.proofs.Outcomes.{handed-on}
use Rattle.evaluator.proofs.Untils.{keep_halts, keep-room, further-asked, keep-asked, keep-answered, goal_halts, kept-part, or-asked}
use Rattle.evaluator.proofs.Untils.{or-answered}
use Rattle.evaluator.proofs.Cycle.{leaf-asked, leaf-answered, not-asked, not-answered, both-asked, both-answered, until-asked}
use Rattle.evaluator.proofs.Cycle.{until-answered, mode_asked, mode_answered, bind-asked, bind-answered, negate_halts, negate-asked}
use Rattle.evaluator.proofs.Cycle.{confined-asked, negate-answered, first_halts, second-asked, joined-asked, joined-answered, mode_halts}
use Rattle.evaluator.proofs.Cycle.{relation-asked, over-asked, over-answered, same-depth, loop-starts, rounds_out, body-asked}
use Rattle.evaluator.proofs.Cycle.{body_halts, body_same, body_less, loop-turns}
use Rattle.evaluator.proofs.+bind_both_eval_keep_modal_negate_round_turn.Goals as goal
use Rattle.evaluator.proofs.+bind_both_eval_keep_modal_negate_round_turn.Goals.{eval-in-Both+in-Until, eval-in-Binder}

pub bind-loop-counted-init : goal.bind-loop-counted-init
bind-loop-counted-init t c = loop-starts c.requires.1 c.root_arrow.result c.root_arrow.ensures c.start_of-current.ensures

pub bind-turn-requires : goal.bind-turn-requires
bind-turn-requires t c = (
  omega (arith, same-depth c.opened-inner.ensures, c.decreases),
  (
    body-asked c.requires.0 c.loop-counted.invariant c.opened-inner.ensures c.variable_of.ensures c.another_round.ensures,
    c.loop-counted.invariant.counts_of,
  ),
)

pub bind-returns-in_err-value : goal.bind-returns-in_err-value
bind-returns-in_err-value t c =
    rw (handed-on c.from_residual.result c.from_residual.ensures.1 c.in_err-value.was) (
      body_halts c.requires.0 c.loop-counted.invariant c.opened-inner.ensures c.variable_of.ensures c.another_round.ensures
          c.turn.ensures.0 c.loop-counted-test.true (_, c.in_err-value.was),
      c.turn.ensures.1,
    )

pub bind-returns-then-value-current : goal.bind-returns-then-value-current
bind-returns-then-value-current t c = (
  body_same c.requires.0 c.loop-counted.invariant c.opened-inner.ensures c.variable_of.ensures c.another_round.ensures
      c.turn.ensures.0 c.loop-counted-test.true c.in_ok-value.was c.if-value-current.true,
  c.turn.ensures.1,
)

pub bind-loop-counted-smaller : goal.bind-loop-counted-smaller
bind-loop-counted-smaller t c =
    omega (
      arith,
      body_less c.requires.0 c.loop-counted.invariant c.opened-inner.ensures c.variable_of.ensures c.another_round.ensures
          c.turn.ensures.0 c.loop-counted-test.true c.in_ok-value.was,
      c.loop-counted-test.true,
    )

pub bind-loop-counted-preserved : goal.bind-loop-counted-preserved
bind-loop-counted-preserved t c =
    loop-turns c.requires.0 c.loop-counted.invariant c.opened-inner.ensures c.variable_of.ensures c.another_round.ensures
    c.turn.ensures.0 c.loop-counted-test.true c.in_ok-value.was c.if-value-current.false _ refl c.turn.ensures.1
    c.turn.auto.words c.turn.auto.counts c.turn.auto.stack

pub bind-returns : goal.bind-returns
bind-returns t c = (
  rounds_out c.requires.0 c.loop-counted.invariant c.loop-counted-test.false,
  c.loop-counted.invariant.counts_of,
)

pub both-returns-in_err-first : goal.both-returns-in_err-first
both-returns-in_err-first t c =
    rw (handed-on c.from_residual.result c.from_residual.ensures.1 c.in_err-first.was)
    (first_halts c.requires.0 c.eval.ensures.0 (_, c.in_err-first.was) c.args.j, c.eval.ensures.1)

pub both-eval-second-requires : goal.both-eval-second-requires
both-eval-second-requires t c = (
  omega (arith, same-depth c.onward-rest.ensures, c.decreases),
  (
    second-asked c.requires.0 c.eval.ensures.0 c.eval.auto.stack c.in_ok-first.was c.onward-rest.ensures,
    c.eval.ensures.1,
  ),
)

pub both-joined-requires : goal.both-joined-requires
both-joined-requires t c = (
  joined-asked c.requires.0 c.eval.ensures.0 c.eval.auto.stack c.in_ok-first.was c.onward-rest.ensures c.eval-second.ensures.0
      c.eval-second.auto.stack c.args.j,
  c.eval-second.ensures.1,
)

pub both-returns : goal.both-returns
both-returns t c = (
  joined-answered c.requires.0 c.eval.ensures.0 c.eval.auto.stack c.in_ok-first.was c.onward-rest.ensures c.eval-second.ensures.0
      c.eval-second.auto.stack c.joined.ensures.0,
  c.joined.ensures.1,
)

pub eval-returns-in_default : goal.eval-returns-in_default
eval-returns-in_default t c = absurd (read-token c.requires.0.part.stands c.lead_at.ensures c.in_default.is)

pub eval-overflow_add-part : goal.eval-overflow_add-part
eval-overflow_add-part t c =
    omega (arith, read-inside c.requires.0.part.stands c.lead_at.ensures c.in-Some.is, c.well_formed)

pub eval-overflow_sub-part : goal.eval-overflow_sub-part
eval-overflow_sub-part t c = omega (arith, read-depth c.requires.0.part.stands)

pub eval-leaf-requires : goal.eval-leaf-requires
eval-leaf-requires t c = (leaf-asked c.requires.0 c.lead_at.ensures c.in-Some.is c.in-Leaf.is, c.requires.1)

pub eval-returns-in-Leaf : goal.eval-returns-in-Leaf
eval-returns-in-Leaf t c = (
  leaf-answered c.requires.0 c.lead_at.ensures c.in-Some.is c.in-Leaf.is c.leaf.ensures.0 c.answer.ensures,
  c.leaf.ensures.1,
)

pub eval-negate-requires : goal.eval-negate-requires
eval-negate-requires t c = (
  omega (arith, read-depth c.requires.0.part.stands, c.decreases),
  (not-asked c.requires.0 c.lead_at.ensures c.in-Some.is c.in-Not.is, c.requires.1),
)

pub eval-returns-in-Not : goal.eval-returns-in-Not
eval-returns-in-Not t c = (
  not-answered c.requires.0 c.lead_at.ensures c.in-Some.is c.in-Not.is c.negate.ensures.0,
  c.negate.ensures.1,
)

pub eval-both-requires : goal.eval-both-requires
eval-both-requires t c = (
  omega (arith, read-depth c.requires.0.part.stands, c.decreases),
  (both-asked c.requires.0 c.lead_at.ensures c.in-Some.is (c.in-Both.is ∙ ap Both c.in-Join.is), c.requires.1),
)

pub eval-returns-in-Join : goal.eval-returns-in-Join
eval-returns-in-Join t c = (
  both-answered c.requires.0 c.lead_at.ensures c.in-Some.is (c.in-Both.is ∙ ap Both c.in-Join.is) c.both.ensures.0,
  c.both.ensures.1,
)

pub eval-modal-requires : goal.eval-modal-requires
eval-modal-requires t c = (
  omega (arith, read-depth c.requires.0.part.stands, c.decreases),
  (mode_asked c.requires.0 c.lead_at.ensures c.in-Some.is c.in-Modal.is, c.requires.1),
)

pub eval-returns-in-Modal : goal.eval-returns-in-Modal
eval-returns-in-Modal t c = (
  mode_answered c.requires.0 c.lead_at.ensures c.in-Some.is c.in-Modal.is c.modal.ensures.0,
  c.modal.ensures.1,
)

pub eval-bind-requires : goal.eval-bind-requires
eval-bind-requires t c = (
  omega (arith, read-depth c.requires.0.part.stands, c.decreases),
  (
    elim c.match-t.branch [
      | eval-in-Both+in-Until w ↦ until-asked c.requires.0 c.lead_at.ensures c.in-Some.is (w.in-Both.is ∙ ap Both w.in-Until.is) w.body-is
          w.until_body.ensures
      | eval-in-Binder w ↦ bind-asked c.requires.0 c.lead_at.ensures c.in-Some.is w.in-Binder.is w.body-is
    ],
    c.requires.1,
  ),
)

pub eval-returns : goal.eval-returns
eval-returns t c = (
  elim c.match-t.branch [
    | eval-in-Both+in-Until w ↦ until-answered c.requires.0 c.lead_at.ensures c.in-Some.is (w.in-Both.is ∙ ap Both w.in-Until.is) w.body-is
        w.until_body.ensures c.bind.ensures.0
    | eval-in-Binder w ↦ bind-answered c.requires.0 c.lead_at.ensures c.in-Some.is w.in-Binder.is w.body-is c.bind.ensures.0
  ],
  c.bind.ensures.1,
)

pub keep-returns-in_err-first : goal.keep-returns-in_err-first
keep-returns-in_err-first t c =
    rw (handed-on c.from_residual.result c.from_residual.ensures.1 c.in_err-first.was)
    (keep_halts c.requires.0 c.eval.ensures.0 (_, c.in_err-first.was) c.args.m c.args.end, c.eval.ensures.1)

pub keep-bounds-stack-held : goal.keep-bounds-stack-held
keep-bounds-stack-held t c =
    omega (arith, keep-room c.requires.0 c.eval.ensures.0, c.requires.0.ready.size, c.eval.auto.stack)

pub keep-onward-rest-requires : goal.keep-onward-rest-requires
keep-onward-rest-requires t c = omega (arith, keep-room c.requires.0 c.eval.ensures.0)

pub keep-further-second-requires : goal.keep-further-second-requires
keep-further-second-requires t c = (
  further-asked c.requires.0 c.eval.ensures.0 c.eval.auto.stack c.in_ok-first.was c.onward-rest.ensures,
  c.eval.ensures.1,
)

pub keep-joined-requires : goal.keep-joined-requires
keep-joined-requires t c = (
  keep-asked c.requires.0 c.eval.ensures.0 c.eval.auto.stack c.in_ok-first.was c.onward-rest.ensures c.further-second.ensures.0
      c.further-second.auto.stack,
  c.further-second.ensures.1,
)

pub keep-returns : goal.keep-returns
keep-returns t c = (
  keep-answered c.requires.0 c.eval.ensures.0 c.eval.auto.stack c.in_ok-first.was c.onward-rest.ensures c.further-second.ensures.0
      c.further-second.auto.stack c.joined.ensures.0,
  c.joined.ensures.1,
)

pub modal-returns-in_err-part : goal.modal-returns-in_err-part
modal-returns-in_err-part t c =
    rw (handed-on c.from_residual.result c.from_residual.ensures.1 c.in_err-part.was)
    (mode_halts c.requires.0 c.eval.ensures.0 (_, c.in_err-part.was) c.args.m, c.eval.ensures.1)

pub modal-root_arrow-relation-requires : goal.modal-root_arrow-relation-requires
modal-root_arrow-relation-requires t c = relation-asked c.requires.0 c.eval.ensures.0 c.eval.auto.stack c.in_ok-part.was

pub modal-over-taken-requires : goal.modal-over-taken-requires
modal-over-taken-requires t c = (
  over-asked c.requires.0 c.eval.ensures.0 c.eval.auto.stack c.in_ok-part.was c.root_arrow-relation.result
      c.root_arrow-relation.ensures,
  c.eval.ensures.1,
)

pub modal-returns : goal.modal-returns
modal-returns t c = (
  over-answered c.requires.0 c.eval.ensures.0 c.eval.auto.stack c.in_ok-part.was c.root_arrow-relation.result
      c.root_arrow-relation.ensures c.over-taken.result c.args.m c.over-taken.ensures.0 c.answer.ensures,
  c.over-taken.ensures.1,
)

pub negate-returns-in_err-part : goal.negate-returns-in_err-part
negate-returns-in_err-part t c =
    rw (handed-on c.from_residual.result c.from_residual.ensures.1 c.in_err-part.was)
    (negate_halts c.eval.ensures.0 (_, c.in_err-part.was), c.eval.ensures.1)

pub negate-live_step-inverse-requires : goal.negate-live_step-inverse-requires
negate-live_step-inverse-requires t c = (
  negate-asked c.eval.ensures.0 c.eval.auto.stack c.in_ok-part.was c.requires.0,
  c.eval.ensures.1,
)

pub negate-confined-taken-requires : goal.negate-confined-taken-requires
negate-confined-taken-requires t c = (
  confined-asked c.eval.ensures.0 c.eval.auto.stack c.in_ok-part.was c.live_step-inverse.ensures.0 c.requires.0,
  c.live_step-inverse.ensures.1,
)

pub negate-returns : goal.negate-returns
negate-returns t c = (
  negate-answered c.eval.ensures.0 c.eval.auto.stack c.in_ok-part.was c.live_step-inverse.ensures.0 c.confined-taken.ensures.0
      c.answer.ensures,
  c.confined-taken.ensures.1,
)

pub round-returns-in_err-first : goal.round-returns-in_err-first
round-returns-in_err-first t c =
    rw (handed-on c.from_residual.result c.from_residual.ensures.1 c.in_err-first.was)
    (goal_halts c.requires.0 c.eval.ensures.0 (_, c.in_err-first.was) c.args.m, c.eval.ensures.1)

pub round-keep-second-requires : goal.round-keep-second-requires
round-keep-second-requires t c = (
  omega (arith, same-depth c.onward-rest.ensures, c.decreases),
  (
    kept-part c.requires.0 c.eval.ensures.0 c.eval.auto.stack c.in_ok-first.was c.onward-rest.ensures,
    c.eval.ensures.1,
  ),
)

pub round-joined-requires : goal.round-joined-requires
round-joined-requires t c = (
  or-asked c.requires.0 c.eval.ensures.0 c.eval.auto.stack c.in_ok-first.was c.onward-rest.ensures c.keep-second.ensures.0
      c.keep-second.auto.stack,
  c.keep-second.ensures.1,
)

pub round-returns : goal.round-returns
round-returns t c = (
  or-answered c.requires.0 c.eval.ensures.0 c.eval.auto.stack c.in_ok-first.was c.onward-rest.ensures c.keep-second.ensures.0
      c.keep-second.auto.stack c.joined.ensures.0,
  c.joined.ensures.1,
)
