-- `goal_bit` meets its contract: the bit of one state, or none. Assumes nothing.
use Rattle.coin_search.proofs.GatherLaws.{bit-met, bit-missed}
use borrow.Author.Rules.{rules}
use Rattle.coin_search.proofs.goal_bit.Statement.{statement}
use Rattle.coin_search.proofs.goal_bit.Tie as tie
use Rattle.coin_search.proofs.goal_bit.Reads as reads
use Rattle.coin_search.proofs.goal_bit.Lts as lts

pub goal_bit_spec : {M : Type 1} → statement M
goal_bit_spec =
    tie.close
    (tie.spec
    (λ c κs. search rules)
    (λ c. search rules)
    (λ c. let c1 = c.before.before.before in bit-met _ _ _ _ c1.requires.1 c.mark_of.ensures c.if-mark_of-m.true)
    (λ c. let c1 = c.before.before.before in bit-missed _ _ _ _ c1.requires.1 c.mark_of.ensures c.if-mark_of-m.false))
