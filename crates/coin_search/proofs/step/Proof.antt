-- `step` meets its contract: one level after the other. Assumes nothing.
use mathlib.Core.Path.{refl}
use Rattle.coin_search.proofs.ExpandLaws.{step-ends}
use borrow.Author.Rules.{rules}
use Rattle.coin_search.proofs.step.Statement.{statement}
use Rattle.coin_search.proofs.step.Tie as tie
use Rattle.coin_search.proofs.step.Reads as reads
use Rattle.coin_search.proofs.step.Lts as lts

pub step_spec : {M : Type 1} → statement M
step_spec =
    tie.close
    (tie.spec
    (λ c. search rules)
    (λ c κs. search rules)
    (λ c. search rules)
    (λ c κs. search rules)
    (λ c. let c1 = c.before.before.before in step-ends c1.requires.0 c1.requires.1 refl c.follow_at-y.ensures c.follow_at.ensures))
