-- Laws of what specs/Account.antt defines. Assumes nothing.
use mathlib.Core.Path.{◌≡◌, refl, sym, ap, ◌∙◌}
use mathlib.Core.Bool.{Bool, true, false, ◌&&◌}
use Prim.Native.Nat.{ℕ, ◌≤◌, ◌<◌}
use native.Mathlib.Omega.{arith}
use lib.Dec.{leb, ltb}
use borrow.Author.Tests.{lt-ltb, le-ltb, le-leb, lt-leb}
use Rattle.accounts.specs.declared.Account.{Account}
use Rattle.accounts.specs.Account.{tally_top, tallied, counted, list_fits}

-- no rounds leave an account as it is, where its tally is one
pub counted_none : (a : Account) → a.tally ≤ tally_top → counted a 0 ≡ a
counted_none a h =
    let e : tallied a.tally 0 ≡ a.tally = omega arith in
    ap (λ (k : ℕ). record { rows = a.rows; rounds = a.rounds; tally = k }) e

-- ---- what each test of `list_fits` decides

pub and-false : (t : Bool) → t && false ≡ false
and-false true = refl
and-false false = refl

pub too_long : (count place : ℕ) → 8 < count → false ≡ list_fits count place
too_long count place l = ap (λ (t : Bool). t && ltb place count) (sym (lt-leb count 8 l))

pub has-place : (count place : ℕ) → count ≤ 8 → place < count → true ≡ list_fits count place
has-place count place s l = sym (ap (λ (t : Bool). t && ltb place count) (le-leb count 8 s) ∙ lt-ltb place count l)

pub no_place : (count place : ℕ) → count ≤ place → false ≡ list_fits count place
no_place count place s = sym (ap (λ (t : Bool). leb count 8 && t) (le-ltb place count s) ∙ and-false (leb count 8))
