-- What the counted steps ask of the words and promise of them, by name: a name with `In` says of words what the name without it says of
-- their view. Assumes nothing.
use Rattle.std.specs.Prelude.{List, ◌++◌, ℕ, length, Result}
use Rattle.accounts.specs.declared.Count.{Count}
use Rattle.diagram.specs.Sizes.{Reaches}
use Rattle.layout.specs.View.{view}
use Rattle.rows.specs.Used.{rows_of}
use Rattle.table.specs.declared.Full.{Full}
use Rattle.collect.specs.Lent.{live}
use Rattle.collect.specs.Answers.{FreePre}
use Rattle.steps.specs.declared.Step.{Step}
use Rattle.steps.specs.Steps.{StepPre}
use Rattle.table.specs.declared.Full.{Full}
use Rattle.counting.specs.declared.Taken.{Taken}
use Rattle.counting.specs.Counts.{BaseOf, CountsOf, MarkRoom}
use Rattle.counting.specs.Peak.{StepCounted, TakenPost}

-- what is live can be marked: the roots are arrows, the counts are of the table, and there is room for the marks
abbrev pub LivePre : (rows : ℕ) (words counts roots marks : List ℕ) → Type 0
LivePre rows words counts roots marks = FreePre (view rows words) roots × BaseOf (view rows words) counts × MarkRoom rows (length marks)

-- so many rows are reached from what is live: registers, relations and two lists of roots
abbrev pub LiveReaches : (rows : ℕ) (words roots more : List ℕ) (number : ℕ) → Type 0
LiveReaches rows words roots more number = Reaches (rows_of (view rows words)) (live (view rows words) (roots ++ more)) number

-- a step can be taken, and the counts are of the table
abbrev pub TakePre : (levels rows limit : ℕ) (words counts roots : List ℕ) (step : Step) → Type 0
TakePre levels rows limit words counts roots step =
    StepPre levels rows limit (view rows words) roots step × CountsOf (view rows words) counts

-- the answer of a step, and the counts are of the table after it
abbrev pub StepCountedIn : (levels rows limit : ℕ) (before after roots counts : List ℕ) (step : Step) (made : Result ℕ Full) → Type 0
StepCountedIn levels rows limit before after roots counts step made =
    StepCounted levels rows limit (view rows before) (view rows after) roots counts step made

-- the answer of a step whose need is counted
abbrev pub TakenIn : (levels rows limit : ℕ) (before after roots counts : List ℕ) (step : Step) (count : Count)
    (taken : Result Taken Full) → Type 0
TakenIn levels rows limit before after roots counts step count taken =
    TakenPost levels rows limit (view rows before) (view rows after) roots counts step count taken
