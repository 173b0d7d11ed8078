-- `column` meets its contract: one word for each of six bits. Assumes nothing.
use Rattle.coin_masks.proofs.Bits.{column-past}
use borrow.Author.Rules.{rules}
use Rattle.coin_masks.proofs.column.Statement.{statement}
use Rattle.coin_masks.proofs.column.Tie as tie
use Rattle.coin_masks.proofs.column.Reads as reads
use Rattle.coin_masks.proofs.column.Lts as lts

pub column_spec : {M : Type 1} → statement M
column_spec = tie.close (tie.spec (λ c. search rules) (λ c. search rules) (λ c. search rules) (λ c. search rules) (λ c.
    search rules) (λ c. let r = c.in_default.in_default-own.rest in column-past _ r.0.0.0.0.1 r.0.0.0.1 r.0.0.1 r.0.1 r.1))
