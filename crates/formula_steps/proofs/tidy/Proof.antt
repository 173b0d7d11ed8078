-- `tidy` leaves the words, or what `free_many` leaves. Assumes nothing.
use mathlib.Core.Path.{refl}
use Rattle.formula_steps.specs.Evaluated.{as_it_was}
use Rattle.formula_steps.proofs.Evaluated.{tidied_by}
use borrow.Author.Rules.{rules}
use Rattle.formula_steps.proofs.tidy.Statement.{statement}
use Rattle.formula_steps.proofs.tidy.Tie as tie

pub tidy_spec : {M : Type 1} → statement M
tidy_spec =
    tie.close
    (tie.spec (λ c κs. search rules) (λ c. search rules) (λ c. as_it_was refl) (λ c κs. search rules) (λ c. search rules)
    (λ c. tidied_by c.free_many.ensures))
