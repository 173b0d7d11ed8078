-- `keep` meets its contract: the place is the row's rank. Assumes nothing.
use mathlib.Core.Path.{refl}
use borrow.Author.Rules.{rules}
use Rattle.soundness.proofs.tables.keep.Statement.{statement}
use Rattle.soundness.proofs.tables.keep.Tie as tie

pub keep_spec : {M : Type 1} → statement M
keep_spec =
    tie.close
    (tie.spec
    (λ c κs. search rules)
    (λ c. search rules)
    (λ c. search rules)
    (λ c. search rules)
    (λ c. search rules)
    (λ c. rw c.get-k.ensures refl))
