-- `evaluate_pairs`: after forgetting, the table holds the scene of its own book. Assumes nothing.
use Rattle.std.proofs.Common.{refl, ap}
use Rattle.evaluator.proofs.Starts.{asks_at, ends_at, taken_of, pairs-begins, pairs-asks, pairs_halts, pairs-ends}
use Rattle.evaluator.proofs.evaluate_pairs.Goals as goal

pub begin-requires : goal.begin-requires
begin-requires c = (pairs-begins c.requires c.forget.ensures, refl)

pub eval-requires : goal.eval-requires
eval-requires c = (asks_at c.starting-start.ensures (pairs-asks c.requires c.forget.ensures), c.begin.ensures)

pub returns-in_default : goal.returns-in_default
returns-in_default c =
    pairs_halts c.requires c.forget.ensures (ends_at c.starting-start.ensures c.eval.ensures.0) (_, c.in_default.is)

pub returns : goal.returns
returns c =
    rw c.unmoved.ensures
    (pairs-ends c.requires c.forget.ensures (ends_at c.starting-start.ensures c.eval.ensures.0) (ap taken_of c.in-Ok.is))
