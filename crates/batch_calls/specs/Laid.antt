-- The places from 0 up, laid one by one. Assumes nothing.
use Rattle.std.specs.Prelude.{◌≡◌, List, ℕ, ◌≤◌, ◌<◌, get_or}

-- the first k entries are the places from 0 up, and the others as they were
pub record Laid (old new : List ℕ) (k : ℕ) : Type 0 where
  pub first : (i : ℕ) → i < k → get_or new i 0 ≡ i
  pub rest : (i : ℕ) → k ≤ i → get_or new i 0 ≡ get_or old i 0
