-- A step by one try, or by a second one after collecting. Assumes nothing.
use Rattle.std.specs.Prelude.{List, ℕ, Result}
use Rattle.diagram.specs.Rows.{Rows}
use Rattle.diagram.specs.Post.{OpPost}
use Rattle.diagram.specs.Post as post
use Rattle.diagram.specs.Collect.{Collects}
use Rattle.diagram.specs.Step.{Settled}
use Rattle.layout.specs.View.{View}
use Rattle.rows.specs.Used.{rows_of}
use Rattle.rows.specs.Sound.{Sound}
use Rattle.table.specs.Make.{result}
use Rattle.table.specs.declared.Full.{Full}
use Rattle.memory.specs.Memo.{Remembers}
use Rattle.operations.specs.Work.{OpFrame}
use Rattle.steps.specs.Steps.{step_f, live_at}
use Rattle.steps.specs.declared.Step.{Step}

-- what collecting and a second try leave
pub record Retried (m N limit : ℕ) (W X : View) (roots : List ℕ) (s : Step) (o : Result ℕ Full) : Type 0 where
  pub sound : Sound X
  pub memory : Remembers m X
  pub frame : OpFrame W X
  pub clean : Rows
  pub tried : Rows
  pub part : post.Result
  pub collects : Collects (rows_of W) clean (live_at W roots s)
  pub post : OpPost m N limit clean tried part (step_f m clean s)
  pub settled : Settled N limit tried (rows_of X) (live_at W roots s) part (result o)
