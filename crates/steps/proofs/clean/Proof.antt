-- `clean` meets its contract: what is left is what is live and one more arrow; then all is forgotten. Assumes nothing.
use Rattle.steps.proofs.CleanLaws.{free-pre, cleaned_by}
use borrow.Author.Rules.{rules}
use Rattle.steps.proofs.clean.Statement.{statement}
use Rattle.steps.proofs.clean.Tie as tie

pub clean_spec : {M : Type 1} → statement M
clean_spec =
    tie.close
    (tie.spec
    (λ c κs. search rules)
    (λ c. search rules)
    (λ c κs. free-pre c.operands_of-p.ensures.0 c.operands_of-p.ensures.1
    c.requires)
    (λ c κs. search rules)
    (λ c. search rules)
    (λ c. cleaned_by c.operands_of-p.ensures.0
    c.operands_of-p.ensures.1
    c.requires
    c.free_rows.ensures c.forget.ensures))
