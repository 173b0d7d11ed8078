-- What the frame's test says of the bytes. Assumes nothing.
use mathlib.Core.Path.{◌≡◌, refl}
use mathlib.Core.Bool.{Bool, true, false, ◌&&◌}
use mathlib.Core.List.{List}
use Prim.Native.Nat.{ℕ, ◌+◌, ◌≤◌}
use lib.ListN.{length}
use lib.Dec.{leb, eqb}
use borrow.Author.Tests.{leb-true, eqb-true, le-leb}
use Rattle.tokens.proofs.Table.{both_true}
use Rattle.formula.specs.Parse.{length_of, framed}

pub framed-parts : (bs : List ℕ) → framed bs ≡ true → (2 ≤ length_of bs) × (length_of bs ≤ 1024) × (length bs ≡ length_of bs + 2)
unfolding framed
framed-parts bs e =
    let p = both_true (leb 2 (length_of bs) && leb (length_of bs) 1024) (eqb (length bs) (length_of bs + 2)) e in
    let size = both_true (leb 2 (length_of bs)) (leb (length_of bs) 1024) p.0 in
    (leb-true _ _ size.0, leb-true _ _ size.1, eqb-true _ _ p.1)

-- a test that cannot hold
pub refuted : (b : Bool) → (b ≡ true → ⊥) → false ≡ b
refuted true h = absurd (h refl)
refuted false h = refl

-- with L in range the slice's length decides
pub framed-last : (bs : List ℕ) → 2 ≤ length_of bs → length_of bs ≤ 1024 → eqb (length bs) (length_of bs + 2) ≡ framed bs
unfolding framed
framed-last bs h₁ h₂ = rw (le-leb 2 (length_of bs) h₁, le-leb (length_of bs) 1024 h₂)
