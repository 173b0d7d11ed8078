use native.Mathlib.Omega.{arith}
use borrow.Author.Rules.{rules}
use Rattle.coin_search.proofs.step_cost.Statement.{statement}
use Rattle.coin_search.proofs.step_cost.Tie as tie
use Rattle.coin_search.proofs.step_cost.Reads as reads
use Rattle.coin_search.proofs.step_cost.Lts as lts

pub step_cost_spec : {M : Type 1} → statement M
step_cost_spec =
    tie.close
    (tie.spec (λ c. search rules) (λ c. record { fits = omega (arith, c.shared_slice_known-1.given c.args.r) })
    (λ c. record { fits = omega (arith, c.shared_slice_known-1.given c.args.r) })
    (λ c. record { fits = omega (arith, c.shared_slice_known-1.given c.args.r) }) (λ c. search rules))
