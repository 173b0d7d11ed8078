-- `is_exact` meets its contract: an empty relation, a cost too high and another mark are none, else the pair decides. Assumes nothing.
use borrow.Author.Rules.{rules}
use Rattle.coin_calls.proofs.Steps.{exact-empty, exact_cheap, exact-other, exact-asks, exact-says}
use Rattle.coin_calls.proofs.is_exact.Statement.{statement}
use Rattle.coin_calls.proofs.is_exact.Tie as tie
use Rattle.coin_calls.proofs.is_exact.Reads as reads
use Rattle.coin_calls.proofs.is_exact.Lts as lts

pub is_exact_spec : {M : Type 1} → statement M
is_exact_spec =
    tie.close
    (tie.spec
    (λ c. search rules)
    (λ c κs. search rules)
    (λ c κs. search rules)
    (λ c κs. search rules)
    (λ c κs. search rules)
    (λ c. exact-empty c.requires.0 _ _ _
    c.header_word-root.ensures c.if-root-eq0.true)
    (λ c. exact_cheap c.requires.0 _ _ _
    c.mark_of-from.ensures c.step_cost-cost.ensures c.if-from-cost.true)
    (λ c. search rules)
    (λ c. exact-other c.requires.0 _ _ _
    c.mark_of-from.ensures c.mark_of-to.ensures
    c.step_cost-cost.ensures c.if-to-from.true)
    (λ c. search rules)
    (λ c κs. exact-asks c.requires.0 _ _ _
    c.requires.3
    c.requires.2
    c.header_word-root.ensures c.if-root-eq0.false
    c.mark_of-from.ensures c.mark_of-to.ensures
    c.step_cost-cost.ensures c.if-from-cost.false c.if-to-from.false)
    (λ c. exact-says c.requires.0 _ _ _
    c.requires.3
    c.requires.2
    c.header_word-root.ensures c.if-root-eq0.false
    c.mark_of-from.ensures c.mark_of-to.ensures
    c.step_cost-cost.ensures c.if-from-cost.false c.if-to-from.false c.holds.ensures))
