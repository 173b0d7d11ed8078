-- The lookup of a row in a good table. Assumes nothing.
use Rattle.std.specs.Prelude.{◌≡◌, true, false, ℕ, ◌≤◌, ◌<◌, Option, Some, None}
use Rattle.layout.specs.View.{View}
use Rattle.rows.specs.Used.{used}
use Rattle.rows.specs.Index.{Has}

-- no used row has these three words
abbrev pub Absent : View → ℕ → ℕ → ℕ → Type 0
Absent W l lo hi = (j : ℕ) → used W j ≡ true → Has W j l lo hi → ⊥

-- what a lookup answers: the used row with these three words, or that there is none
abbrev pub FindPost : View → ℕ → ℕ → ℕ → Option ℕ → Type 0
FindPost W l lo hi (Some i) = (used W i ≡ true) × Has W i l lo hi
FindPost W l lo hi None = Absent W l lo hi

-- what the search for an unused row finds from one row up to another
pub record FreePost (W : View) (start stop r : ℕ) : Type 0 where
  pub low : start ≤ r
  pub high : r ≤ stop
  pub below : (j : ℕ) → start ≤ j → j < r → used W j ≡ true
  pub free : r < stop → used W r ≡ false

-- an unused row, or N where all rows are used
pub record UnusedPost (W : View) (r : ℕ) : Type 0 where
  pub le : r ≤ W.rows
  pub free : r < W.rows → used W r ≡ false
  pub all : W.rows ≤ r → (j : ℕ) → j < W.rows → used W j ≡ true
