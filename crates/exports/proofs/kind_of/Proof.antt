-- `kind_of` meets its contract: a number that is not 0 is a relation call's. Assumes nothing.
use Rattle.exports.proofs.Check.{kind-other}
use borrow.Author.Rules.{rules}
use Rattle.exports.proofs.kind_of.Statement.{statement}
use Rattle.exports.proofs.kind_of.Tie as tie

pub kind_of_spec : {M : Type 1} → statement M
kind_of_spec = tie.close (tie.spec (λ c. search rules) (λ c. kind-other _ c.if-relation-eq0.false))
