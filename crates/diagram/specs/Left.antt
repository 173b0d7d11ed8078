-- The stages of EXISTS that are left of an arrow: what each step needs at most, by the counts of its survey, in the form in which steps are
-- taken. Assumes nothing.
use Rattle.std.specs.Prelude.{ℕ, suc, ◌+◌, ◌-◌, ◌*◌}
use Rattle.diagram.specs.Tally.{sum_to, sum_from}

-- What the step to stage j needs at most: the rows of what is live, the surveyed arrows above the levels of the result and of the operand,
-- and the rows added from the result's levels on.
abbrev pub bound : ℕ → ℕ → (ℕ → ℕ) → (ℕ → ℕ) → ℕ → ℕ
bound m live above added j = live + (sum_to above (suc (2 * j)) + sum_to above (suc (2 * suc j)) + sum_from added (2 * suc j) (m - 2 * suc j))
