-- `high_cells` meets its contract: one word for each tested level. Assumes nothing.
use Rattle.soundness.proofs.Masks.{high-past}
use borrow.Author.Rules.{rules}
use Rattle.soundness.proofs.tables.high_cells.Statement.{statement}
use Rattle.soundness.proofs.tables.high_cells.Tie as tie

pub high_cells_spec : {M : Type 1} → statement M
high_cells_spec =
    tie.close
    (tie.spec (λ c. search rules) (λ c. search rules) (λ c. search rules) (λ c. search rules) (λ c. search rules)
    (λ c. let r = c.in_default.in_default-own.rest in high-past _ r.0.0.0.0.1 r.0.0.0.1 r.0.0.1 r.0.1 r.1))
