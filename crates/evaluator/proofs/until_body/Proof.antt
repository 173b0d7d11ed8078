-- `until_body` meets its contract: g begins where the syntax pass of f ends. Assumes nothing.
use Rattle.evaluator.proofs.Untils.{body-read, body_unread}
use borrow.Author.Rules.{rules}
use Rattle.evaluator.proofs.until_body.Statement.{statement}
use Rattle.evaluator.proofs.until_body.Tie as tie
use Rattle.evaluator.proofs.until_body.Reads as reads
use Rattle.evaluator.proofs.until_body.Lts as lts
use Rattle.formula.proofs.syntax.Reads as syntax-reads

pub until_body_spec : {M : Type 1} → statement M
until_body_spec =
    tie.close
    (tie.spec
    (λ c κs. search rules)
    (λ c. search rules)
    (λ c. search rules)
    (λ c. body_unread c.syntax.ensures c.in_default.is)
    (λ c. body-read c.syntax.ensures c.in-Some.is))
