-- `opposite` meets its contract: both tests passed. Assumes nothing.
use mathlib.Core.Path.{sym}
use mathlib.Core.Bool.{true≢false}
use borrow.Author.Rules.{rules}
use Rattle.soundness.proofs.arrows.opposite.Statement.{statement}
use Rattle.soundness.proofs.arrows.opposite.Tie as tie

pub opposite_spec : {M : Type 1} → statement M
opposite_spec =
    tie.close
    (tie.spec (λ c. λ e. absurd (true≢false (sym e))) (λ c κs. search rules) (λ c. λ e. absurd (true≢false (sym e))) (λ c. search rules))
