-- `records::quad` meets its contract: two pairs, the first 65,536 times as much.
-- Assumes nothing.
use mathlib.Core.Path.{◌≡◌, ap}
use Prim.Native.Nat.{ℕ, ◌+◌}
use lib.ListN.{get_or}
use native.Mathlib.Omega.{arith}
use borrow.Author.Rules.{rules}
use Rattle.records.proofs.quad.Statement.{statement}
use Rattle.records.proofs.quad.Tie as tie

pub quad_spec : {M : Type 1} → statement M
quad_spec =
    tie.close
    (tie.spec
    (λ c κs. search rules)
    (λ c. search rules)
    (λ c. search rules)
    (λ c. search rules)
    (λ c κs. search rules)
    (λ c. search rules)
    (λ c. search rules)
    (λ c. let e : c.args.at + 2 + 1 ≡ c.args.at + 3 = omega arith in
    omega (
      arith,
      c.pair.ensures,
      c.pair-2.ensures,
      ap (λ (k : ℕ). get_or c.args.bytes.now k 0) e,
    )))
