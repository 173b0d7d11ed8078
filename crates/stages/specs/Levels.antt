-- Counts by level, in an array. Assumes nothing.
use Rattle.std.specs.Prelude.{◌≡◌, List, ℕ, ◌≤◌, ◌<◌, length, get_or}
use Rattle.diagram.specs.Survey.{bump}
use Rattle.diagram.specs.Left.{bound}

-- a count for each of 32 levels, and for two behind the last
abbrev pub LEVELS : ℕ
LEVELS = 34

-- as many arrows as the largest table has, and more than it has rows: no count passes it
abbrev pub MOST : ℕ
MOST = 120002

-- the count of level l
abbrev pub count_of : List ℕ → ℕ → ℕ
count_of d l = get_or d l 0

-- the counts of all levels
pub record Levels (d : List ℕ) : Type 0 where
  pub size : length d ≡ LEVELS
  pub few : (l : ℕ) → count_of d l ≤ MOST

-- one more of level l, and nothing else
pub record OneMore (d e : List ℕ) (l : ℕ) : Type 0 where
  pub each : (k : ℕ) → count_of e k ≡ bump (count_of d) l k

-- the bound of each EXISTS left, at the odd levels below 2 · left, is at most `most`
abbrev pub AllWithin : ℕ → ℕ → (ℕ → ℕ) → (ℕ → ℕ) → ℕ → ℕ → Type 0
AllWithin m live above added left most = (j : ℕ) → j < left → bound m live above added j ≤ most
