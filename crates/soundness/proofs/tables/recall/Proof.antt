-- `recall` meets its contract: the place is the row's rank. Assumes nothing.
use mathlib.Core.Path.{refl}
use borrow.Author.Rules.{rules}
use Rattle.soundness.proofs.tables.recall.Statement.{statement}
use Rattle.soundness.proofs.tables.recall.Tie as tie

pub recall_spec : {M : Type 1} → statement M
recall_spec =
    tie.close
    (tie.spec
    (λ c κs. search rules)
    (λ c. search rules)
    (λ c. search rules)
    (λ c. search rules)
    (λ c. rw c.get-k.ensures refl))
