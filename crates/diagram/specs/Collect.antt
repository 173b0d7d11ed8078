-- Collecting: the rows that the roots do not reach are freed. Assumes nothing.
use Rattle.std.specs.Prelude.{◌≡◌, true, List, ℕ}
use Rattle.diagram.specs.Rows.{Rows, Extends}
use Rattle.diagram.specs.Reach.{Reach}

-- "collect: frees unneeded rows": the new table has just the rows of the old one that the roots reach, unchanged.
pub record Collects (old new : Rows) (roots : List ℕ) : Type 0 where
  pub kept : Extends new old
  pub only : (i : ℕ) → new.used i ≡ true → Reach old roots i
  pub all : (i : ℕ) → Reach old roots i → new.used i ≡ true
