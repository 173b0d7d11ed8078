-- A whole step under a row limit: it is tried; if it runs out of rows, what the live roots do not reach is freed and it is tried once more.
-- Where it is answered while more than `limit` rows are used, the rows that its result and the live roots reach are counted, and decide.
-- Its answer is exact: it is answered where its result and what is live need at most `limit` rows, and refused where they need more.
-- Assumes nothing.
use Rattle.std.specs.Prelude.{List, ◌∷◌, map, ℕ, ◌≤◌, ◌<◌}
use Rattle.diagram.specs.Level.{Fn}
use Rattle.diagram.specs.Rows.{Rows, den, WellFormed, Same}
use Rattle.diagram.specs.Used.{used_count}
use Rattle.diagram.specs.Need.{step_need}
use Rattle.diagram.specs.Keep.{Keeps}
use Rattle.diagram.specs.Post.{Result, at, full, Denotes}
use Rattle.diagram.specs.Collect.{Collects}

-- What a step's answer means, the roots being what is live at it: an arrow for F and rows enough, or too few.
abbrev pub StepResult : ℕ → ℕ → Rows → Rows → List ℕ → Result → Fn → Type 0
StepResult m limit before after roots (at a) F = Denotes m after a F × (step_need m (map (den m before) roots) F ≤ limit)
StepResult m limit before after roots full F = limit < step_need m (map (den m before) roots) F

-- What a step promises. What the roots denote is kept with their rows: `keeps_den`.
pub record StepPost (m N limit : ℕ) (before after : Rows) (roots : List ℕ) (answer : Result) (F : Fn) : Type 0 where
  pub wf : WellFormed m N after
  pub kept : Keeps before after roots
  pub result : StepResult m limit before after roots answer F

-- The table is left as it is once its rows are counted, or with only the rows that were counted.
pub data Leaves (tried clean after : Rows) : Type 0 where
  counted : Same tried after → Leaves tried clean after
  freed : Same clean after → Leaves tried clean after

-- How the last try's answer becomes the step's. Where more than `limit` rows are used, those that the result and the roots reach, which are
-- the rows of `clean`, are counted: at most `limit`, or more.
pub data Settled (N limit : ℕ) (tried after : Rows) (roots : List ℕ) : Result → Result → Type 0 where
  ran_out : Same tried after → Settled N limit tried after roots full full
  few-used : {a : ℕ} → used_count tried N ≤ limit → Same tried after → Settled N limit tried after roots (at a) (at a)
  few_reached : {a : ℕ} {clean : Rows} → Collects tried clean (a ∷ roots) → used_count clean N ≤ limit → Leaves tried clean after
      → Settled N limit tried after roots (at a) (at a)
  many_reached : {a : ℕ} {clean : Rows} → Collects tried clean (a ∷ roots) → limit < used_count clean N → Leaves tried clean after
      → Settled N limit tried after roots (at a) full
