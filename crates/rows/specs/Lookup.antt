-- What a lookup stands on: room in the words, the steps of a walk along a chain, and the rows that links lead to. Assumes nothing.
use Rattle.std.specs.Prelude.{ℕ, zero, suc, ◌≤◌}
use Rattle.layout.specs.Places.{MAX_ROWS, words_for, USED, RANK}
use Rattle.layout.specs.View.{View}

-- there are words enough, and not more used rows than rows
pub record Room (W : View) : Type 0 where
  pub words : words_for W.rows ≤ W.size
  pub count-le : W.header USED ≤ W.rows
  pub max : W.rows ≤ MAX_ROWS

-- how far a link is from the end of its chain
abbrev pub height : View → ℕ → ℕ
height W zero = 0
height W (suc j) = suc (W.cell j RANK)
