-- What a counted step answers. Assumes nothing.
use Rattle.std.specs.Prelude.{◌≡◌, List, map, ℕ, Result, Ok, Err}
use Rattle.accounts.specs.declared.Count.{Count}
use Rattle.accounts.specs.Count.{nothing, needing}
use Rattle.diagram.specs.Level.{Fn}
use Rattle.diagram.specs.Rows.{Rows, den}
use Rattle.diagram.specs.Need.{step_need}
use Rattle.table.specs.declared.Full.{Full}
use Rattle.table.specs.Full.{rows_out}
use Rattle.counting.specs.declared.Taken.{Taken}

-- the answer that has the arrow a and the count c, and the one that the rows ran out
abbrev pub taken : ℕ → Count → Result Taken Full
taken a c = Ok (record { arrow = a; count = c })

abbrev pub ran_out : Result Taken Full
ran_out = Err (record {})

-- the step's answer alone, and the count alone
abbrev pub made_in : Result Taken Full → Result ℕ Full
made_in (Ok t) = Ok t.arrow
made_in (Err _) = Err rows_out

abbrev pub count_in : Result Taken Full → Count
count_in (Ok t) = t.count
count_in (Err e) = nothing

-- what is counted after an answered step: its need, that of its result and of what is live, is counted too
abbrev pub Counted : ℕ → Rows → List ℕ → Fn → Count → Result Taken Full → Type 0
Counted m before live F q (Ok t) = t.count ≡ needing q (step_need m (map (den m before) live) F)
Counted m before live F q (Err e) = Unit {0}
