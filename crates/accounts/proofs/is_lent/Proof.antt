-- `is_lent` meets its contract: each test decides one part of `lent`. Assumes nothing.
use native.Mathlib.Omega.{arith}
use Rattle.accounts.proofs.TermsLaws.{none_lent, many-lent, some-lent}
use Rattle.accounts.proofs.is_lent.Statement.{statement}
use Rattle.accounts.proofs.is_lent.Tie as tie

pub is_lent_spec : {M : Type 1} → statement M
is_lent_spec = tie.close (tie.spec
    (λ c. none_lent c.args.count (omega arith))
    (λ c. many-lent c.args.count (omega arith))
    (λ c. some-lent c.args.count (omega arith) (omega arith)))
