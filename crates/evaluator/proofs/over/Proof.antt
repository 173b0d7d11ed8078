-- `over` meets its contract, by box within V and diamond. Assumes nothing.
use Rattle.evaluator.proofs.Relations.{box-asks, box_read}
use Rattle.evaluator.proofs.State.{valid-asks}
use borrow.Author.Rules.{rules}
use Rattle.evaluator.proofs.over.Statement.{statement}
use Rattle.evaluator.proofs.over.Tie as tie
use Rattle.evaluator.proofs.over.Reads as reads
use Rattle.evaluator.proofs.over.Lts as lts

pub over_spec : {M : Type 1} → statement M
over_spec =
    tie.close
    (tie.spec
    (λ c. search rules)
    (λ c κs. valid-asks c.requires.0.base.sound)
    (λ c κs. (
      box-asks c.root_arrow-valid.result c.root_arrow-valid.ensures
          c.requires.0,
      c.requires.1,
    ))
    (λ c. search rules)
    (λ c κs. c.requires)
    (λ c. search rules)
    (λ c. search rules)
    (λ c. (
      rw c.in-All.is
          (box_read c.root_arrow-valid.result
          c.root_arrow-valid.ensures
          (record { box = c.boxed.ensures.0 })),
      c.boxed.ensures.1,
    ))
    (λ c. search rules)
    (λ c. search rules)
    (λ c. (
      rw c.in-Some.is
          c.diamond.ensures.0,
      c.diamond.ensures.1,
    )))
