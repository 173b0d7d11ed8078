-- `evaluate_relation`: after forgetting, the table holds the scene of its own book; then the steps within V. Assumes nothing.
use Rattle.std.proofs.Common.{refl}
use Rattle.evaluator.proofs.Starts.{asks_at, ends_at, pairs-begins, pairs-asks, relation_halts, within-asks, relation-ends}
use Rattle.evaluator.proofs.evaluate_relation.Goals as goal

pub begin-requires : goal.begin-requires
begin-requires c = (pairs-begins c.requires c.forget.ensures, refl)

pub eval-requires : goal.eval-requires
eval-requires c = (asks_at c.starting-start.ensures (pairs-asks c.requires c.forget.ensures), c.begin.ensures)

pub returns-in_default : goal.returns-in_default
returns-in_default c =
    relation_halts c.requires c.forget.ensures (ends_at c.starting-start.ensures c.eval.ensures.0) (_, c.in_default.is)

pub within-requires : goal.within-requires
within-requires c = (
  within-asks c.requires c.forget.ensures (ends_at c.starting-start.ensures c.eval.ensures.0) c.in-Ok.is c.eval.auto.stack,
  c.eval.ensures.1,
)

pub returns : goal.returns
returns c =
    relation-ends c.requires c.forget.ensures (ends_at c.starting-start.ensures c.eval.ensures.0) c.in-Ok.is c.eval.auto.stack
    c.within.ensures.0
