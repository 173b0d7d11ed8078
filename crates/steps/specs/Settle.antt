-- How the last try's answer becomes the step's. Assumes nothing.
use mathlib.Core.List.{List, Memᴰ as Mem}
use Rattle.std.specs.Prelude.{ℕ, Result, Ok, Err}
use Rattle.diagram.specs.Rows.{Rows, Arrow}
use Rattle.diagram.specs.Step.{Settled}
use Rattle.layout.specs.View.{View}
use Rattle.rows.specs.Used.{rows_of}
use Rattle.rows.specs.Sound.{Sound}
use Rattle.table.specs.Make.{result}
use Rattle.table.specs.declared.Full.{Full}
use Rattle.memory.specs.Memo.{Remembers}
use Rattle.operations.specs.Work.{OpFrame}
use Rattle.steps.specs.Steps.{operands_of, live_at}
use Rattle.steps.specs.declared.Step.{Step}

-- an answer that is an arrow
abbrev pub AnswerArrow : Rows → Result ℕ Full → Type 0
AnswerArrow rows (Ok a) = Arrow rows a
AnswerArrow rows (Err _) = Unit {0}

pub record SettlePre (W : View) (roots : List ℕ) (s : Step) (o : Result ℕ Full) : Type 0 where
  pub sound : Sound W
  pub arrows : (a : ℕ) → Mem a roots → Arrow (rows_of W) a
  pub operands : (a : ℕ) → Mem a (operands_of s) → Arrow (rows_of W) a
  pub answer-arrow : AnswerArrow (rows_of W) o

-- o is the last try's answer, r the step's
pub record SettlePost (limit : ℕ) (W X : View) (roots : List ℕ) (s : Step) (o r : Result ℕ Full) : Type 0 where
  pub sound : Sound X
  pub memory : (m : ℕ) → Remembers m W → Remembers m X
  pub frame : OpFrame W X
  pub settled : Settled W.rows limit (rows_of W) (rows_of X) (live_at W roots s) (result o) (result r)
