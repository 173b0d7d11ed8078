-- `retry` meets its contract: the second try starts from a collected table. Assumes nothing.
use Rattle.steps.proofs.Again.{clean-pre, cleaned_pre, settle-pre, retried}
use borrow.Author.Rules.{rules}
use Rattle.steps.proofs.retry.Statement.{statement}
use Rattle.steps.proofs.retry.Tie as tie

pub retry_spec : {M : Type 1} → statement M
retry_spec =
    tie.close
    (tie.spec (λ c κs. clean-pre c.requires)
    (λ c κs. let q = cleaned_pre c.requires
    c.clean.ensures in (q.ready, q.fits))
    (λ c κs. settle-pre
    (cleaned_pre c.requires
    c.clean.ensures) c.try_step-made.ensures)
    (λ c. search rules)
    (λ c. retried
    c.requires
    c.clean.ensures
    c.try_step-made.ensures c.settle.ensures))
