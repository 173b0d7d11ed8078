-- `sizes_fit` meets its contract: each test decides one field of `Sizes`. Assumes nothing.
use native.Mathlib.Omega.{arith}
use borrow.Author.Rules.{rules}
use Rattle.rows.specs.Says.{holds, fails}
use Rattle.soundness.proofs.sizes_fit.Statement.{statement}
use Rattle.soundness.proofs.sizes_fit.Tie as tie

pub sizes_fit_spec : {M : Type 1} → statement M
sizes_fit_spec =
    tie.close
    (tie.spec
    (λ c. fails (λ q. omega arith))
    (λ c. fails (λ q. omega arith))
    (λ c. fails (λ q. omega arith))
    (λ c. fails (λ q. omega arith))
    (λ c. search rules)
    (λ c. search rules)
    (λ c. fails (λ q. omega arith))
    (λ c. holds (omega arith)))
