-- `list_fits` meets its contract: each test decides one part of `list_fits`. Assumes nothing.
use native.Mathlib.Omega.{arith}
use Rattle.accounts.proofs.AccountLaws.{too_long, has-place, no_place}
use Rattle.accounts.proofs.list_fits.Statement.{statement}
use Rattle.accounts.proofs.list_fits.Tie as tie

pub list_fits_spec : {M : Type 1} → statement M
list_fits_spec = tie.close (tie.spec
    (λ c. too_long c.args.count c.args.place (omega arith))
    (λ c. has-place c.args.count c.args.place (omega arith) (omega arith))
    (λ c. no_place c.args.count c.args.place (omega arith)))
