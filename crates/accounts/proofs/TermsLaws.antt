-- Laws of what specs/Terms.antt defines. Assumes nothing.
use mathlib.Core.Path.{◌≡◌, sym, ap, ◌∙◌}
use mathlib.Core.Bool.{Bool, true, false, ◌&&◌}
use Prim.Native.Nat.{ℕ, ◌≤◌, ◌<◌}
use lib.Dec.{leb}
use borrow.Author.Tests.{le-leb, lt-leb}
use Rattle.accounts.proofs.AccountLaws.{and-false}
use Rattle.accounts.specs.Terms.{lent}

-- ---- what each test of `is_lent` decides

pub none_lent : (count : ℕ) → count < 1 → false ≡ lent count
none_lent count l = sym (ap (λ (t : Bool). t && leb count 8) (lt-leb 1 count l))

pub many-lent : (count : ℕ) → 8 < count → false ≡ lent count
many-lent count l = sym (ap (λ (t : Bool). leb 1 count && t) (lt-leb count 8 l) ∙ and-false (leb 1 count))

pub some-lent : (count : ℕ) → 1 ≤ count → count ≤ 8 → true ≡ lent count
some-lent count l h = sym (ap (λ (t : Bool). t && leb count 8) (le-leb 1 count l) ∙ le-leb count 8 h)
