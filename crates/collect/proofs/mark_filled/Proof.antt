-- `mark_filled` meets its contract: the roots are the words from V's up to the last relation's. Assumes nothing.
use borrow.Author.Rules.{rules}
use Rattle.collect.proofs.mark_filled.Statement.{statement}
use Rattle.collect.proofs.mark_filled.Tie as tie

pub mark_filled_spec : {M : Type 1} → statement M
mark_filled_spec =
    tie.close (tie.spec (λ c κs. c.requires) (λ c. search rules) (λ c. c.mark_refs.ensures))
