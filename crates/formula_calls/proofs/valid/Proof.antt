-- `valid` is check 2, and then `valid_unchecked`. Assumes nothing.
use Rattle.rows.proofs.Says.{says_pass, says_fail}
use Rattle.contract.proofs.Checked.{call-unsound}
use borrow.Author.Rules.{rules}
use Rattle.formula_calls.proofs.valid.Statement.{statement}
use Rattle.formula_calls.proofs.valid.Tie as tie

pub valid_spec : {M : Type 1} → statement M
valid_spec =
    tie.close
    (tie.spec
    (λ c κs. search rules)
    (λ c. search rules)
    (λ c. call-unsound _ (says_fail c.if-not-sound.true-raw c.sound.ensures) _)
    (λ c κs. says_pass c.if-not-sound.false-raw c.sound.ensures)
    (λ c. search rules)
    (λ c. search rules))
