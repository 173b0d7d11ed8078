-- Marking that counts: the rows that were not marked before, each once. Assumes nothing.
use Rattle.std.specs.Prelude.{◌≡◌, ◌⊎◌, ℕ, length}
use mathlib.Core.List.{List, Memᴰ as Mem}
use Rattle.diagram.specs.Rows.{Rows}
use Rattle.diagram.specs.Count.{NoDup}
use Rattle.rows.specs.Bits.{On}
use Rattle.rows.specs.Mark.{Marks}
use Rattle.rows.specs.Roots.{MarksAll}

-- n rows are marked in m' and not in m
pub record News (m m' : List ℕ) (n : ℕ) : Type 0 where
  pub rows : List ℕ
  pub once : NoDup rows
  pub marked : (i : ℕ) → Mem i rows → On m' i
  pub unmarked : (i : ℕ) → Mem i rows → On m i → ⊥
  pub all : (i : ℕ) → On m' i → On m i ⊎ Mem i rows
  pub count : length rows ≡ n

-- the rows that arrow a reaches were marked, and n of them were not before
pub record MarksNew (rows : Rows) (m m' : List ℕ) (a n : ℕ) : Type 0 where
  pub marks : Marks rows m m' a
  pub news : News m m' n

-- the rows that a list of arrows reaches were marked, and n of them were not before
pub record ListNew (rows : Rows) (m m' xs : List ℕ) (n : ℕ) : Type 0 where
  pub marks : MarksAll rows m m' (λ a. Mem a xs)
  pub news : News m m' n
