use native.Mathlib.Omega.{arith}
use Rattle.coin_search.proofs.Choice.{mark-small, cost-small, next-empty, next-over, next-some}
use borrow.Author.Rules.{rules}
use Rattle.coin_search.proofs.next_mark.Statement.{statement}
use Rattle.coin_search.proofs.next_mark.Tie as tie
use Rattle.coin_search.proofs.next_mark.Reads as reads
use Rattle.coin_search.proofs.next_mark.Lts as lts
use Rattle.coin_search.proofs.step_cost.Reads as step-cost-reads
use Rattle.coin_search.proofs.mark_of.Reads as mark-of-reads
use Rattle.coin_search.proofs.state_at.Reads as state-at-reads
use Rattle.layout.proofs.header_word.Reads as header-word-reads

pub next_mark_spec : {M : Type 1} → statement M
next_mark_spec =
    tie.close
    (tie.spec
    (λ c. search rules)
    (λ c κs. search rules)
    (λ c. next-empty c.header_word.ensures c.if-header_word-eq0.true)
    (λ c. next-over c.if-done-count.true)
    (λ c κs. search rules)
    (λ c κs. let e = c.state_at-s.ensures in
    let l = c.requires.3.states _ c.if-done-count.false in omega arith)
    (λ c κs. search rules)
    (λ c. record {
      fits = let m =
          mark-small
          (c.shared_slice_known-3-1.given c.state_at-s.result).fits
          c.mark_of.ensures in
          let c =
          cost-small
          (c.shared_slice_known-2-1.given
          c.args.r).fits c.step_cost.ensures in
          omega arith;
    })
    (λ c. next-some c.before.requires.0
    c.header_word.ensures c.if-header_word-eq0.false
    c.if-done-count.false c.state_at-s.ensures c.mark_of.ensures
    c.step_cost.ensures))
