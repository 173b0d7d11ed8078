-- `further` meets its contract by the mode. Assumes nothing.
use Rattle.evaluator.proofs.Untils.{own-asked, some-answered, further_as}
use Rattle.evaluator.proofs.every.Reads as every-reads
use Rattle.evaluator.proofs.reach.Reads as reach-reads
use borrow.Author.Rules.{rules}
use Rattle.evaluator.proofs.further.Statement.{statement}
use Rattle.evaluator.proofs.further.Tie as tie
use Rattle.evaluator.proofs.further.Reads as reads
use Rattle.evaluator.proofs.further.Lts as lts

pub further_spec : {M : Type 1} → statement M
further_spec =
    tie.close
    (tie.spec
    (λ c. search rules)
    (λ c κs. c.requires)
    (λ c. search rules)
    (λ c κs. (
      own-asked c.requires.0 _,
      c.requires.1,
    ))
    (λ c. search rules)
    (λ c. search rules)
    (λ c. search rules)
    (λ c. (
      further_as c.in-All.is
          c.every.ensures.0,
      c.every.ensures.1,
    ))
    (λ c. search rules)
    (λ c. search rules)
    (λ c. search rules)
    (λ c. (
      further_as c.in-Some.is
          (some-answered c.requires.0
          c.reach.ensures.0),
      c.reach.ensures.1,
    )))
