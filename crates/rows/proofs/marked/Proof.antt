-- `marked` meets its contract: the test is what `is_on` says. Assumes nothing.
use mathlib.Core.Path.{refl}
use borrow.Author.Rules.{rules}
use Rattle.rows.specs.Bits.{is_on}
use Rattle.rows.proofs.marked.Statement.{statement}
use Rattle.rows.proofs.marked.Tie as tie

pub marked_spec : {M : Type 1} → statement M
unfolding is_on
marked_spec = tie.close (tie.spec (λ c. search rules) (λ c. search rules) (λ c. search rules) (λ c. search rules) (λ c. refl))
