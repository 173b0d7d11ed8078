-- What each part of the check of a table finds. Assumes nothing.
use Rattle.std.specs.Prelude.{◌≡◌, true, false, ◌≢◌, List, ℕ, zero, suc, ◌/◌, ◌%◌, ◌<◌}
use Rattle.layout.specs.Places.{USED, LOW, HIGH, LEVEL, NEXT, RANK}
use Rattle.layout.specs.View.{View}
use Rattle.layout.specs.Arrows.{is_marked}
use Rattle.rows.specs.Used.{used}
use Rattle.rows.specs.Index.{Hit, Down, live, key_of}
use Rattle.rows.specs.Bits.{On}
use Rattle.rows.specs.Lookup.{Room}

-- place k of the list has a row whose rank is k
abbrev pub Placed : View → ℕ → Type 0
Placed W k = (W.list k < W.rows) × (W.cell (W.list k) RANK ≡ k)

-- an arrow is 0, 1 or leads to a used row of a level above a bound
abbrev pub LeadsTo : View → ℕ → ℕ → Type 0
LeadsTo W above zero = Unit {0}
LeadsTo W above (suc i) = (used W i ≡ true) × (above < W.cell i LEVEL)

abbrev pub Leads : View → ℕ → ℕ → Type 0
Leads W above a = LeadsTo W above (a / 2)

-- a used row: its level, its arrows and its link
pub record RowGood (W : View) (m i : ℕ) : Type 0 where
  pub level : W.cell i LEVEL < m
  pub differ : W.cell i LOW ≢ W.cell i HIGH
  pub low : Leads W (W.cell i LEVEL) (W.cell i LOW)
  pub high : Leads W (W.cell i LEVEL) (W.cell i HIGH)
  pub plain : is_marked (W.cell i HIGH) ≡ false
  pub next : Down W (W.cell i RANK) (W.cell i NEXT)

-- the lookup of row i finds row i
abbrev pub Finds : View → ℕ → Type 0
Finds W i = Hit W (W.cell i LEVEL) (W.cell i LOW) (W.cell i HIGH) (live (used W) (W.head (key_of W i))) i

-- links lead to used rows of lesser rank
pub record Links (W : View) : Type 0 where
  pub room : Room W
  pub nexts : (i : ℕ) → used W i ≡ true → Down W (W.cell i RANK) (W.cell i NEXT)

-- the marked rows have even levels
abbrev pub EvenMarked : View → List ℕ → Type 0
EvenMarked W m = (k : ℕ) → k < W.header USED → On m (W.list k) → W.cell (W.list k) LEVEL % 2 ≡ 0
