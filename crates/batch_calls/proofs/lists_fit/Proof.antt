-- `lists_fit` meets its contract: each test decides one field of `ListsFit`. Assumes nothing.
use native.Mathlib.Omega.{arith}
use Rattle.rows.specs.Says.{holds, fails}
use Rattle.batch_calls.proofs.lists_fit.Statement.{statement}
use Rattle.batch_calls.proofs.lists_fit.Tie as tie

pub lists_fit_spec : {M : Type 1} → statement M
lists_fit_spec =
    tie.close
    (tie.spec (λ c. fails (λ q. omega arith)) (λ c. fails (λ q. omega arith)) (λ c. fails (λ q. omega arith)) (λ c. holds (omega arith)))
