-- `bit` meets its contract: a bit is one row. Assumes nothing.
use Rattle.operations.proofs.Work.{bit_worked}
use borrow.Author.Rules.{rules}
use Rattle.operations.proofs.bit.Statement.{statement}
use Rattle.operations.proofs.bit.Tie as tie

pub bit_spec : {M : Type 1} → statement M
bit_spec =
    tie.close
    (tie.spec (λ c κs. search rules) (λ c. search rules)
    (λ c. bit_worked c.requires.0 _ c.requires.1
    c.make.ensures))
