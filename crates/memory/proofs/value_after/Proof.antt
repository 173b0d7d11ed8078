-- `value_after` meets its contract: one law for each way through. Assumes nothing.
use Rattle.rows.proofs.Says.{test_yes, test_no}
use Rattle.memory.proofs.Store.{value-plain, value_same, value_none}
use borrow.Author.Rules.{rules}
use Rattle.memory.proofs.value_after.Statement.{statement}
use Rattle.memory.proofs.value_after.Tie as tie

pub value_after_spec : {M : Type 1} → statement M
value_after_spec =
    tie.close
    (tie.spec (λ c κs. search rules) (λ c. search rules)
    (λ c. value-plain _ _ _ _ (test_no c.is_marked.ensures c.if-not-is_marked.true-raw))
    (λ c. value_same _ _ _ _ (test_yes c.is_marked.ensures c.if-not-is_marked.false-raw) c.if-key-kind.true)
    (λ c. value_none _ _ _ _ (test_yes c.is_marked.ensures c.if-not-is_marked.false-raw) c.if-key-kind.false))
