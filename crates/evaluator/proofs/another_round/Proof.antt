-- `another_round` meets its contract, field by field. Assumes nothing.
use native.Mathlib.Numerals.{add-one}
use borrow.Author.Rules.{rules}
use Rattle.evaluator.proofs.another_round.Statement.{statement}
use Rattle.evaluator.proofs.another_round.Tie as tie
use Rattle.evaluator.proofs.another_round.Reads as reads
use Rattle.evaluator.proofs.another_round.Lts as lts

pub another_round_spec : {M : Type 1} → statement M
another_round_spec =
    tie.close
    (tie.spec
    (λ c. search rules)
    (λ c. rw (add-one c.args.c.rounds)))
