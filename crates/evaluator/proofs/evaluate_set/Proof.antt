-- `evaluate_set` meets its contract: after forgetting, the table holds the scene of its own book. Assumes nothing.
use mathlib.Core.Path.{refl}
use Rattle.evaluator.proofs.Starts.{asks_at, ends_at, set-begins, set-asks, set-ends}
use borrow.Author.Rules.{rules}
use Rattle.evaluator.proofs.evaluate_set.Statement.{statement}
use Rattle.evaluator.proofs.evaluate_set.Tie as tie
use Rattle.evaluator.proofs.evaluate_set.Reads as reads
use Rattle.evaluator.proofs.evaluate_set.Lts as lts

pub evaluate_set_spec : {M : Type 1} → statement M
evaluate_set_spec =
    tie.close
    (tie.spec
    (λ c κs. search rules)
    (λ c. search rules)
    (λ c κs. (
      set-begins c.requires
          c.forget.ensures,
      refl,
    ))
    (λ c κs. search rules)
    (λ c. search rules)
    (λ c. search rules)
    (λ c κs. (
      asks_at c.starting-start.ensures
          (set-asks c.requires
          c.forget.ensures),
      c.begin.ensures,
    ))
    (λ c. search rules)
    (λ c. set-ends
    c.requires
    c.forget.ensures
    (ends_at c.starting-start.ensures
    c.eval.ensures.0)))
