-- The row reads of small sets over two bits, computed. Bit 0 differs from bit 1: its second row is reached after either answer, and so
-- read twice where both are given. Assumes nothing.
use mathlib.Core.Path.{◌≡◌, refl}
use mathlib.Core.Bool.{true, false}
use mathlib.Core.List.{[], ◌∷◌, map}
use Prim.Native.Nat.{◌-◌, ◌*◌}
use lib.Dec.{ltb}
use Rattle.diagram.specs.Rows.{Rows, den_to, den}
use Rattle.book.specs.States.{pair_val}
use Rattle.batch.specs.Visits.{visits, visits_all, distinct, row_reads, singly}

-- row 0: level 0, low arrow 5 (NOT of row 1), high arrow 4 (row 1); row 1: level 2, low arrow 1 (everything), high arrow 0 (nothing)
abbrev pub differ : Rows
differ = record { used = λ i. ltb i 2; level = λ i. 2 * i; low = λ i. 5 - 4 * i; high = λ i. 4 - 4 * i }

unfoldable pub counting : Unit {0}
unfolding visits visits_all distinct row_reads den den_to pair_val
counting = tt

-- arrow 2 leads to row 0
pub set_is : map (λ s. den 4 differ 2 (pair_val s 0)) (0 ∷ 1 ∷ 2 ∷ 3 ∷ []) ≡ false ∷ true ∷ true ∷ false ∷ []
unfolding counting
set_is = refl

pub no-state : row_reads 4 differ 2 [] ≡ 0
unfolding counting
no-state = refl

pub one_state : row_reads 4 differ 2 (2 ∷ []) ≡ 2
unfolding counting
one_state = refl

pub again : row_reads 4 differ 2 (2 ∷ 0 ∷ 2 ∷ []) ≡ 2
unfolding counting
again = refl

pub all_states : row_reads 4 differ 2 (3 ∷ 0 ∷ 2 ∷ 1 ∷ []) ≡ 3
unfolding counting
all_states = refl

pub all-singly : singly 4 differ 2 (3 ∷ 0 ∷ 2 ∷ 1 ∷ []) ≡ 8
unfolding counting
all-singly = refl

-- bit 1 alone: its one row is at level 2, and bit 0 is never asked. States 1 and 0 make one read, though their bits 0 differ
abbrev pub second-bit : Rows
second-bit = record { used = λ i. ltb i 1; level = λ i. 2; low = λ i. 1; high = λ i. 0 }

pub skipped_level : row_reads 4 second-bit 3 (1 ∷ 0 ∷ []) ≡ 1
unfolding counting
skipped_level = refl
