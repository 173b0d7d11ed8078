-- `evaluate_round` meets its contract: the current set is put in the first word of the stack, and the body evaluated. Assumes nothing.
use lib.ListN.{length-set}
use Rattle.evaluator.proofs.Starts.{asks_at, ends_at}
use Rattle.evaluator.proofs.evaluate_round.Statement.{statement}
use Rattle.evaluator.proofs.evaluate_round.Tie as tie
use Rattle.evaluator.proofs.evaluate_round.Reads as reads
use Rattle.evaluator.proofs.evaluate_round.Lts as lts

pub evaluate_round_spec : {M : Type 1} → statement M
evaluate_round_spec =
    tie.close
    (tie.spec
    (λ c. c.requires.0.place)
    (λ c κs. c.requires.0.more)
    (λ c κs. (
      asks_at c.body_start-here.ensures c.requires.0.asks,
      c.requires.1,
    ))
    (λ c. c.eval.auto.words)
    (λ c. c.eval.auto.counts)
    (λ c. simp length-set at c.eval.auto.stack)
    (λ c. (
      ends_at c.body_start-here.ensures
          c.eval.ensures.0,
      c.eval.ensures.1,
    )))
