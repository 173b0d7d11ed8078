-- `truth` meets its contract, by the grammar. Assumes nothing.
use Rattle.evaluator.proofs.Leaves.{truth-valid, truth-all}
use mathlib.Core.Path.{sym, ◌∙◌}
use borrow.Author.Rules.{rules}
use Rattle.evaluator.proofs.truth.Statement.{statement}
use Rattle.evaluator.proofs.truth.Tie as tie
use Rattle.evaluator.proofs.truth.Reads as reads
use Rattle.evaluator.proofs.truth.Lts as lts

pub truth_spec : {M : Type 1} → statement M
truth_spec =
    tie.close
    (tie.spec
    (λ c κs. search rules)
    (λ c κs. c.requires)
    (λ c. truth-valid (sym c.only_now.ensures ∙ c.if-only_now.true) c.root_arrow.ensures)
    (λ c. truth-all (sym c.only_now.ensures ∙ c.if-only_now.false)))
