-- How surveys come about, arrow by arrow and row by row, each after what is followed from it: the invariants of the code that counts, and
-- what they leave at the end. Assumes nothing.
use Rattle.std.specs.Prelude.{◌⊎◌, Bool, cond, ℕ, suc, ◌≤◌, length, eqb}
use mathlib.Core.List.{List, Memᴰ as Mem}
use Rattle.diagram.specs.Rows.{Rows, Leads, child, follow}
use Rattle.diagram.specs.Reach.{Reach}
use Rattle.diagram.specs.Tally.{arrows_at, rows_at}

-- Counts by level with one more of level l.
unfoldable pub bump : (ℕ → ℕ) → ℕ → ℕ → ℕ
bump h l k = cond (eqb l k) (suc (h k)) (h k)

-- An arrow is done with: it leads to no row, to one that is passed over, or it is among the surveyed.
abbrev pub Passed : Rows → List ℕ → List ℕ → ℕ → Type 0
Passed rows evens cs c = (i : ℕ) → Leads c i → Reach rows evens i ⊎ Mem c cs

-- The survey of a product so far: arrows cs, each with its sign, closed under what is followed, and counted by level.
pub record Survey (m : ℕ) (rows : Rows) (evens cs : List ℕ) (above : ℕ → ℕ) : Type 0 where
  pub closed : (c i : ℕ) (b : Bool) → Mem c cs → Leads c i → Passed rows evens cs (follow rows c i b)
  pub counted : (l : ℕ) → length (arrows_at m rows cs l) ≤ above l

-- A row is done with: it is passed over or among those added.
abbrev pub Accounted : Rows → List ℕ → List ℕ → ℕ → Type 0
Accounted rows roots is a = (i : ℕ) → Leads a i → Reach rows roots i ⊎ Mem i is

-- The rows added so far: rows `is`, closed under arrows, and counted by level.
pub record AddedSoFar (rows : Rows) (roots is : List ℕ) (added : ℕ → ℕ) : Type 0 where
  pub closed : (i : ℕ) (b : Bool) → Mem i is → Accounted rows roots is (child rows i b)
  pub counted : (l : ℕ) → length (rows_at rows is l) ≤ added l
