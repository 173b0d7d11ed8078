-- `relation` is check 2, and then `relation_unchecked`. Assumes nothing.
use Rattle.rows.proofs.Says.{says_pass, says_fail}
use Rattle.contract.proofs.Checked.{call-unsound}
use borrow.Author.Rules.{rules}
use Rattle.formula_calls.proofs.relation.Statement.{statement}
use Rattle.formula_calls.proofs.relation.Tie as tie

pub relation_spec : {M : Type 1} → statement M
relation_spec =
    tie.close
    (tie.spec
    (λ c κs. search rules)
    (λ c. search rules)
    (λ c. call-unsound _ (says_fail c.if-not-sound.true-raw c.sound.ensures) _)
    (λ c κs. says_pass c.if-not-sound.false-raw c.sound.ensures)
    (λ c. search rules)
    (λ c. search rules))
