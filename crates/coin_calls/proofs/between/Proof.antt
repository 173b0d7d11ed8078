-- `between` meets its contract: the search finds no run, or what it found is written. Assumes nothing.
use Rattle.coin_calls.proofs.Found.{between_none, pay-asks, between-paid}
use borrow.Author.Rules.{rules}
use Rattle.coin_calls.proofs.between.Statement.{statement}
use Rattle.coin_calls.proofs.between.Tie as tie
use Rattle.coin_calls.proofs.between.Reads as reads
use Rattle.coin_calls.proofs.between.Lts as lts
use Rattle.coin_calls.proofs.pay.Reads as pay-reads
use Rattle.coin_search.proofs.search.Reads as search-reads

pub between_spec : {M : Type 1} → statement M
between_spec =
    tie.close
    (tie.spec
    (λ c κs. search rules)
    (λ c. search rules)
    (λ c. between_none c.search-first.auto.work c.search-first.ensures c.if-first-eq-NO_STATE.true)
    (λ c κs. (
      pay-asks c.search-first.auto.work c.search-first.ensures c.requires.0 c.if-first-eq-NO_STATE.false,
      c.requires.1,
    ))
    (λ c. search rules)
    (λ c. search rules)
    (λ c. search rules)
    (λ c. between-paid c.search-first.auto.work c.search-first.ensures c.if-first-eq-NO_STATE.false c.pay.ensures))
