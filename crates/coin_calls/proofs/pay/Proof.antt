-- `pay` meets its contract: the mark's steps say whether the lists have room. Assumes nothing.
use mathlib.Core.Logic.{inl, inr}
use native.Mathlib.Omega.{arith}
use Rattle.coin_calls.proofs.Paid.{first_in_lem, mark-some, credits_small, steps-small, pay-short, write_asks, pay-paid}
use borrow.Author.Rules.{rules}
use Rattle.coin_calls.proofs.pay.Statement.{statement}
use Rattle.coin_calls.proofs.pay.Tie as tie
use Rattle.coin_calls.proofs.pay.Reads as reads
use Rattle.coin_calls.proofs.pay.Lts as lts
use Rattle.coin_calls.proofs.write_run.Reads as write-run-reads
use Rattle.coin_search.proofs.mark_of.Reads as mark-of-reads
use Rattle.coins.proofs.charge.Reads as charge-reads

pub pay_spec : {M : Type 1} → statement M
pay_spec =
    tie.close
    (tie.spec
    (λ c κs. first_in_lem c.requires.0)
    (λ c. let y = mark-some c.requires.0 c.mark_of-cost.ensures in omega arith)
    (λ c. let l = credits_small c.requires.0 c.mark_of-cost.ensures in
    record { fits = omega arith })
    (λ c. search rules)
    (λ c. search rules)
    (λ c. pay-short c.requires.0 c.mark_of-cost.ensures (inl c.if-states-steps.true))
    (λ c. search rules)
    (λ c. pay-short c.requires.0 c.mark_of-cost.ensures
    (inr c.if-relations-steps.true))
    (λ c κs. (
      write_asks c.requires.0
          c.mark_of-cost.ensures c.if-states-steps.false c.if-relations-steps.false,
      c.requires.1,
    ))
    (λ c κs. search rules)
    (λ c. let l =
    steps-small
    c.requires.0 c.mark_of-cost.ensures in
    record { fits = omega arith })
    (λ c. search rules)
    (λ c. search rules)
    (λ c. pay-paid
    c.requires.0 c.mark_of-cost.ensures
    c.if-states-steps.false
    c.if-relations-steps.false c.charge.ensures
    c.write_run.ensures))
