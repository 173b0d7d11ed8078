-- How many rows some roots reach, which is what they need, and how many more an arrow reaches, which bounds what it needs beside them.
-- Assumes nothing.
use Rattle.std.specs.Prelude.{◌≡◌, ◌⊎◌, ℕ, ◌≤◌, length}
use mathlib.Core.List.{List, [], ◌∷◌, Memᴰ as Mem}
use Rattle.diagram.specs.Rows.{Rows}
use Rattle.diagram.specs.Count.{NoDup}
use Rattle.diagram.specs.Reach.{Reach}

-- n rows are reached from the roots.
pub record Reaches (rows : Rows) (roots : List ℕ) (n : ℕ) : Type 0 where
  pub list : List ℕ
  pub once : NoDup list
  pub only : (i : ℕ) → Mem i list → Reach rows roots i
  pub all : (i : ℕ) → Reach rows roots i → Mem i list
  pub count : length list ≡ n

-- At most k rows are reached from arrow x and not from the base.
pub record Outside (rows : Rows) (base : List ℕ) (x k : ℕ) : Type 0 where
  pub rest : List ℕ
  pub all : (i : ℕ) → Reach rows (x ∷ []) i → Reach rows base i ⊎ Mem i rest
  pub counted : length rest ≤ k
