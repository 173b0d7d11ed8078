-- An answer as one number, as `make` gave it before `Result`: the arrow, or FULL. No arrow of a good table is FULL, so the number loses
-- nothing. Assumes nothing.
use mathlib.Core.Path.{◌≡◌, refl, ap, ◌∙◌}
use mathlib.Core.Bool.{cond}
use mathlib.Core.Logic.{◌≢◌}
use Prim.Native.Nat.{ℕ, zero, suc, ◌<◌}
use native.Mathlib.Omega.{arith}
use lib.Dec.{eqb}
use borrow.Author.Tests.{ne_eqb}
use Rattle.diagram.specs.Rows.{target, Arrow, ArrowTo}
use Rattle.layout.specs.View.{View}
use Rattle.rows.specs.Used.{rows_of}
use Rattle.rows.specs.Sound.{Good}
use Rattle.std.specs.Prelude.{Result, Ok, Err}
use Rattle.table.specs.declared.Full.{Full}
use Rattle.table.specs.Full.{rows_out}

-- the number where the rows ran out
abbrev pub FULL : ℕ
FULL = 4294967295

-- what a number answers
unfoldable pub made_of : ℕ → Result ℕ Full
made_of r = cond (eqb r FULL) (Err rows_out) (Ok r)

pub code_full : made_of FULL ≡ Err rows_out
unfolding made_of
code_full = refl

pub code_at : (r : ℕ) → r ≢ FULL → made_of r ≡ Ok r
unfolding made_of
code_at r n = rw (ne_eqb r FULL n)

pub code_is : (r : ℕ) → r ≡ FULL → made_of r ≡ Err rows_out
code_is r e = ap made_of e ∙ code_full

-- every arrow of a good table is below it
below-to : {W : View} (a k : ℕ) → target a ≡ k → Good W → ArrowTo (rows_of W) k → a < FULL
below-to a zero e g u = omega (arith, e)
below-to a (suc i) e g u = let h = g.rows.bounded i u in let s = g.sizes.N-max in omega (arith, e, h, s)

pub arrow-below : {W : View} (a : ℕ) → Good W → Arrow (rows_of W) a → a < FULL
arrow-below a g u = below-to a (target a) refl g u

pub arrow_code : {W : View} (a : ℕ) → Good W → Arrow (rows_of W) a → made_of a ≡ Ok a
arrow_code a g u = let h = arrow-below a g u in code_at a (omega (arith, h))
