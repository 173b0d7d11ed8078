use Rattle.coin_search.proofs.StartLaws.{started-add, started_pass, start-asks}
use borrow.Author.Rules.{rules}
use Rattle.coin_search.proofs.add_goal.Statement.{statement}
use Rattle.coin_search.proofs.add_goal.Tie as tie
use Rattle.coin_search.proofs.add_goal.Reads as reads
use Rattle.coin_search.proofs.add_goal.Lts as lts
use Rattle.coin_search.proofs.add.Reads as add_reads
use Rattle.seek.proofs.holds.Reads as holds-reads

pub add_goal_spec : {M : Type 1} → statement M
add_goal_spec =
    tie.close
    (tie.spec (λ c κs. c.requires.0)
    (λ c κs. start-asks c.requires.1 c.requires.2)
    (λ c. search rules)
    (λ c. started-add c.requires.1
    c.requires.2 c.holds.ensures
    c.if-holds.true c.add.ensures)
    (λ c. started_pass c.requires.1 c.requires.2 c.holds.ensures
    c.if-holds.false))
