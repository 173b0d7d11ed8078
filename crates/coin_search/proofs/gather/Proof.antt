-- `gather` meets its contract: one goal, or all of the mark. Assumes nothing.
use native.Mathlib.Omega.{arith}
use Rattle.coin_search.proofs.GatherLaws.{upper-few, own-few, one-goal, all-goals}
use Rattle.coin_search.proofs.gather.Statement.{statement}
use Rattle.coin_search.proofs.gather.Tie as tie
use Rattle.coin_search.proofs.gather.Reads as reads
use Rattle.coin_search.proofs.gather.Lts as lts

pub gather_spec : {M : Type 1} → statement M
gather_spec =
    tie.close
    (tie.spec
    (λ c κs. (c.requires.1.placed, c.requires.1.counted, c.requires.2))
    (λ c. let c1 = c.before.before.before in let l = own-few c1.requires.0 c1.requires.1 in let f = upper-few c1.requires.0 in
    omega arith)
    (λ c. let c1 = c.before.before.before in one-goal c1.requires.0 c1.requires.1)
    (λ c κs. let c1 = c.before.before.before in c1.requires.0)
    (λ c. let c1 = c.before.before.before.before in all-goals c1.requires.0 c1.requires.1 c.goals_of.ensures))
