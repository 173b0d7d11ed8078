-- `logs_fit` meets its contract: each test decides one part of `logs_fit`. Assumes nothing.
use native.Mathlib.Omega.{arith}
use Rattle.rows.specs.Says.{holds, fails}
use Rattle.logs.proofs.Call.{fits_in, fits_out}
use Rattle.log_calls.proofs.logs_fit.Statement.{statement}
use Rattle.log_calls.proofs.logs_fit.Tie as tie

pub logs_fit_spec : {M : Type 1} → statement M
logs_fit_spec =
    tie.close
    (tie.spec
    (λ c. fails (λ q. let (e, w, s, m) = fits_out c.args.one c.args.two q in omega (arith, e)))
    (λ c. fails (λ q. let (e, w, s, m) = fits_out c.args.one c.args.two q in omega (arith, w)))
    (λ c. fails (λ q. let (e, w, s, m) = fits_out c.args.one
    c.args.two q in omega (arith, s)))
    (λ c. fails (λ q. let (e, w, s, m) = fits_out c.args.one
    c.args.two q in omega (arith, m)))
    (λ c. holds (fits_in c.args.one c.args.two (omega arith)
    (omega arith) (omega arith) (omega arith))))
