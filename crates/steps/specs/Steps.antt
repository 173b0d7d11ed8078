-- The steps of an evaluation, what is live at one, and what one asks and promises. Assumes nothing.
use mathlib.Core.List.{List, [], ◌∷◌, ◌++◌, Memᴰ as Mem}
use Rattle.std.specs.Prelude.{ℕ, ◌<◌, Result}
use Rattle.diagram.specs.Level.{Fn}
use Rattle.diagram.specs.Rows.{Rows, Arrow, den}
use Rattle.diagram.specs.Even.{ReadsOn, even}
use Rattle.diagram.specs.Steps.{bit_f, not_f, and_f, or_f, shift_f, exists_f}
use Rattle.diagram.specs.Step.{StepPost}
use Rattle.layout.specs.View.{View}
use Rattle.rows.specs.Used.{rows_of}
use Rattle.rows.specs.Sound.{Sound}
use Rattle.table.specs.Make.{result}
use Rattle.table.specs.declared.Full.{Full}
use Rattle.collect.specs.Lent.{live}
use Rattle.memory.specs.Memo.{Remembers}
use Rattle.operations.specs.Work.{OpFrame, Ready}
use Rattle.cubes.specs.Cube.{cube_f}
use Rattle.steps.specs.declared.Step.{Step}
use Rattle.steps.specs.declared.Step.TheVariants as step

-- "Steps are: a bit; NOT; AND; OR; SHIFT (every current bit becomes its next bit); EXISTS at one level." And since request 11: "The fitting
-- states of a pair are one step", a cube.
abbrev pub step_f : ℕ → Rows → Step → Fn
step_f m rows (step.Bit l) = bit_f l
step_f m rows (step.Cube o z) = cube_f m o z
step_f m rows (step.Not a) = not_f (den m rows a)
step_f m rows (step.And a b) = and_f (den m rows a) (den m rows b)
step_f m rows (step.Or a b) = or_f (den m rows a) (den m rows b)
step_f m rows (step.Shift a) = shift_f (den m rows a)
step_f m rows (step.Exists x a) = exists_f x (den m rows a)

-- "the step's operands"
abbrev pub operands_of : Step → List ℕ
operands_of (step.Bit l) = []
operands_of (step.Cube o z) = []
operands_of (step.Not a) = a ∷ []
operands_of (step.And a b) = a ∷ b ∷ []
operands_of (step.Or a b) = a ∷ b ∷ []
operands_of (step.Shift a) = a ∷ []
operands_of (step.Exists x a) = a ∷ []

-- the same as two arrows: 0 where there is none
abbrev pub first_operand : Step → ℕ
first_operand (step.Bit l) = 0
first_operand (step.Cube o z) = 0
first_operand (step.Not a) = a
first_operand (step.And a b) = a
first_operand (step.Or a b) = a
first_operand (step.Shift a) = a
first_operand (step.Exists x a) = a

abbrev pub second_operand : Step → ℕ
second_operand (step.Bit l) = 0
second_operand (step.Cube o z) = 0
second_operand (step.Not a) = 0
second_operand (step.And a b) = b
second_operand (step.Or a b) = b
second_operand (step.Shift a) = 0
second_operand (step.Exists x a) = 0

-- the operands are arrows, levels are in range, and SHIFT's operand reads even levels only
abbrev pub Fits : ℕ → Rows → Step → Type 0
Fits m rows (step.Bit l) = l < m
Fits m rows (step.Cube o z) = Unit {0}
Fits m rows (step.Not a) = Arrow rows a
Fits m rows (step.And a b) = Arrow rows a × Arrow rows b
Fits m rows (step.Or a b) = Arrow rows a × Arrow rows b
Fits m rows (step.Shift a) = Arrow rows a × ReadsOn even (den m rows a)
Fits m rows (step.Exists x a) = Arrow rows a × (x < m)

-- "Live at a step: all filled registers and relations, the current set of each open binder, each value made and not yet used, the step's
-- operands."
abbrev pub live_at : View → List ℕ → Step → List ℕ
live_at W roots s = live W (roots ++ operands_of s)

-- what a step asks: a sound table, what is remembered right, and lent roots and operands that are arrows
pub record StepPre (m N limit : ℕ) (W : View) (roots : List ℕ) (s : Step) : Type 0 where
  pub sound : Sound W
  pub ready : Ready m N limit W
  pub arrows : (a : ℕ) → Mem a roots → Arrow (rows_of W) a
  pub fits : Fits m (rows_of W) s

-- what a step promises: a sound table, what is remembered right, nothing else touched, and `StepPost`
pub record Stepped (m N limit : ℕ) (W X : View) (roots : List ℕ) (s : Step) (o : Result ℕ Full) : Type 0 where
  pub sound : Sound X
  pub memory : Remembers m X
  pub frame : OpFrame W X
  pub post : StepPost m N limit (rows_of W) (rows_of X) (live_at W roots s) (result o) (step_f m (rows_of W) s)
