-- `live_step` meets its contract, by the step over the part of the stack that is live. Assumes nothing.
use mathlib.Core.Path.{sym}
use lib.Seq.{length-take-le}
use borrow.Author.Rules.{rules}
use Rattle.evaluator.proofs.live_step.Statement.{statement}
use Rattle.evaluator.proofs.live_step.Tie as tie
use Rattle.evaluator.proofs.live_step.Reads as reads
use Rattle.evaluator.proofs.live_step.Lts as lts

pub live_step_spec : {M : Type 1} → statement M
live_step_spec =
    tie.close
    (tie.spec
    (λ c. search rules)
    (λ c. sym (length-take-le _ _ c.requires.0.within))
    (λ c κs. (
      c.requires.0.asks,
      c.requires.1,
    ))
    (λ c. search rules)
    (λ c. search rules)
    (λ c. (
      record {
        stepped = c.take.ensures.0;
        count = c.take.ensures.2;
      },
      c.take.ensures.1,
    )))
