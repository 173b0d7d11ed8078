-- `records::pair` meets its contract: each byte is below 256, so the sum fits.
-- Assumes nothing.
use Prim.Native.Nat.{◌+◌}
use native.Mathlib.Omega.{arith}
use borrow.Author.Rules.{rules}
use Rattle.records.proofs.pair.Statement.{statement}
use Rattle.records.proofs.pair.Tie as tie

pub pair_spec : {M : Type 1} → statement M
pair_spec =
    tie.close
    (tie.spec
    (λ c. search rules)
    (λ c. omega (arith, c.shared_slice_known-1.given c.args.at))
    (λ c. omega (arith, c.shared_slice_known-1.given c.args.at))
    (λ c. search rules)
    (λ c. search rules)
    (λ c. omega (arith, c.shared_slice_known-1.given (c.args.at + 1)))
    (λ c. omega (
      arith,
      c.shared_slice_known-1.given c.args.at,
      c.shared_slice_known-1.given (c.args.at + 1),
    ))
    (λ c. search rules))
