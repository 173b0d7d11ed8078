-- Rows that are entered with some of the states: how many visits these make, row by row down from an arrow. States are given by a
-- predicate, so repeats and the order of the list do not matter. Assumes nothing.
use mathlib.Core.List.{Memᴰ as Mem}
use Rattle.std.specs.Prelude.{ℕ, ◌+◌, ◌≤◌}
use Rattle.diagram.specs.Rows.{Rows, target, level_of}
use Rattle.batch.specs.Visits.{Visit, visits}
use Rattle.batch.specs.Counted.{Counted}

-- v is a visit of a state that is S
pub record Visited (f : ℕ) (rows : Rows) (S : ℕ → Type 0) (a : ℕ) (v : Visit) : Type 0 where
  pub state : ℕ
  pub among : S state
  pub visit : Mem v (visits f rows (target a) state)

-- the states that are S visit r rows from arrow a
pub record Entered (m : ℕ) (rows : Rows) (S : ℕ → Type 0) (a r : ℕ) : Type 0 where
  pub counted : (f : ℕ) → m ≤ level_of m rows a + f → Counted (Visited f rows S a) r
