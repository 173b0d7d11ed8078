-- `join` meets its contract: the definition itself. Assumes nothing.
use borrow.Author.Rules.{rules}
use Rattle.soundness.proofs.tables.join.Statement.{statement}
use Rattle.soundness.proofs.tables.join.Tie as tie

pub join_spec : {M : Type 1} → statement M
join_spec =
    tie.close (tie.spec (λ c κs. search rules) (λ c κs. search rules) (λ c. rw (c.low_cells.ensures, c.high_cells.ensures)))
