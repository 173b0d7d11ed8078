-- Visits counted by a list without repeats. Assumes nothing.
use Rattle.std.specs.Prelude.{◌≡◌, ℕ, length}
use mathlib.Core.List.{List, Memᴰ as Mem}
use Rattle.diagram.specs.Count.{NoDup}
use Rattle.batch.specs.Visits.{Visit}

-- exactly r visits have P
pub record Counted (P : Visit → Type 0) (r : ℕ) : Type 0 where
  pub list : List Visit
  pub nodup : NoDup list
  pub only : (v : Visit) → Mem v list → P v
  pub all : (v : Visit) → P v → Mem v list
  pub size : length list ≡ r
