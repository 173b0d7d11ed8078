-- `reach` meets its contract: box or diamond of a value, as after the part of a modal formula. Assumes nothing.
use mathlib.Core.Path.{sym}
use lib.Seq.{length-take-le}
use Rattle.evaluator.proofs.Untils.{reach-relation, reach-within, reach-asks, reach-answers}
use Rattle.evaluator.proofs.answer.Reads as answer-reads
use Rattle.evaluator.proofs.over.Reads as over_reads
use Rattle.evaluator.proofs.root_arrow.Reads as root-arrow-reads
use borrow.Author.Rules.{rules}
use Rattle.evaluator.proofs.reach.Statement.{statement}
use Rattle.evaluator.proofs.reach.Tie as tie
use Rattle.evaluator.proofs.reach.Reads as reads
use Rattle.evaluator.proofs.reach.Lts as lts

pub reach_spec : {M : Type 1} → statement M
reach_spec =
    tie.close
    (tie.spec
    (λ c. search rules)
    (λ c κs. reach-relation c.requires.0)
    (λ c. sym (length-take-le _ _ (reach-within c.requires.0)))
    (λ c κs. (
      reach-asks c.requires.0
          c.root_arrow-relation.result c.root_arrow-relation.ensures,
      c.requires.1,
    ))
    (λ c κs. search rules)
    (λ c. search rules)
    (λ c. search rules)
    (λ c. (
      reach-answers c.root_arrow-relation.result
          c.root_arrow-relation.ensures
          c.over-taken.result
          c.args.m
          c.over-taken.ensures.0 c.answer.ensures,
      c.over-taken.ensures.1,
    )))
