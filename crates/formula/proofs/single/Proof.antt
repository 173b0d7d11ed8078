-- `single`: 2 ^ p fits the word. Assumes nothing.
use mathlib.Core.Path.{◌∙◌}
use native.Mathlib.Nat.{le_refl, one-mul}
use native.Mathlib.Omega.{arith}
use Prim.Native.Nat.{◌^◌}
use lib.Pow.{shl_exact}
use borrow.Author.Rules.{rules}
use Rattle.formula.proofs.single.Statement.{statement}
use Rattle.formula.proofs.single.Tie as tie

pub single_spec : {M : Type 1} → statement M
single_spec =
    tie.close
    (tie.spec (λ c. search rules) (λ c. shl_exact 1 c.args.p 32 (le_refl 2) (omega (arith, c.requires)) ∙ one-mul (2 ^ c.args.p)))
