-- `obey_fresh` is the reply of `fresh` as an outcome. Assumes nothing.
use Rattle.layout.proofs.Refusals.{refusal-some}
use Rattle.commands.proofs.Obeyed.{fresh-ready, fresh-refused}
use borrow.Author.Rules.{rules}
use Rattle.commands.proofs.obey_fresh.Statement.{statement}
use Rattle.commands.proofs.obey_fresh.Tie as tie

pub obey_fresh_spec : {M : Type 1} → statement M
obey_fresh_spec =
    tie.close
    (tie.spec
    (λ c κs. search rules)
    (λ c. search rules)
    (λ c κs. search rules)
    (λ c. search rules)
    (λ c κs. search rules)
    (λ c κs. search rules)
    (λ c. search rules)
    (λ c. fresh-ready c.fresh.ensures.0
    c.fresh.ensures.1 c.in-Ok.is c.plain.ensures)
    (λ c. search rules)
    (λ c. fresh-refused c.fresh.ensures.0
    c.fresh.ensures.1 c.in-Err.x
    c.in-Err.is (refusal-some c.in-Err.x)
    c.from.ensures c.plain-in-Err.ensures))
