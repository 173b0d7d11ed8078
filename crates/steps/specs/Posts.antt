-- What the steps ask of the words and promise of them, by name: a name with `In` says of words what the name without it says of their view.
-- Assumes nothing.
use Rattle.std.specs.Prelude.{List, ℕ, Result}
use Rattle.layout.specs.View.{view}
use Rattle.rows.specs.Used.{rows_of}
use Rattle.table.specs.declared.Full.{Full}
use Rattle.operations.specs.Work.{Ready, Worked}
use Rattle.steps.specs.declared.Step.{Step}
use Rattle.steps.specs.Steps.{step_f, Fits}
use Rattle.steps.specs.Again.{Retried}

-- a step can be tried: the table is ready, and the operands are arrows of it
abbrev pub TryPre : (levels rows limit : ℕ) (words : List ℕ) (step : Step) → Type 0
TryPre levels rows limit words step = Ready levels rows limit (view rows words) × Fits levels (rows_of (view rows words)) step

-- the answer of a step that is tried: an arrow for the step's function within the limit, or that the rows ran out
abbrev pub TryPost : (levels rows limit : ℕ) (before after : List ℕ) (step : Step) (made : Result ℕ Full) → Type 0
TryPost levels rows limit before after step made =
    Worked levels rows limit (view rows before) (view rows after) made (step_f levels (rows_of (view rows before)) step)

-- the answer of a step that is tried once more, after collecting
abbrev pub RetriedIn : (levels rows limit : ℕ) (before after roots : List ℕ) (step : Step) (made : Result ℕ Full) → Type 0
RetriedIn levels rows limit before after roots step made = Retried levels rows limit (view rows before) (view rows after) roots step made
