-- What the making of a row promises. Assumes nothing.
use Rattle.std.specs.Prelude.{◌≡◌, false, ◌≢◌, ℕ, ◌*◌, ◌≤◌, Result, Ok, Err}
use Rattle.layout.specs.Places.{BITS}
use Rattle.diagram.specs.Rows.{marked}
use Rattle.diagram.specs.Post.{at, full, Plain, Making}
use Rattle.diagram.specs.Post as post
use Rattle.layout.specs.View.{View}
use Rattle.rows.specs.Used.{rows_of}
use Rattle.rows.specs.Sound.{Good}
use Rattle.table.specs.Find.{Absent}
use Rattle.table.specs.Add.{Frame, Keys, Fit}
use Rattle.table.specs.declared.Full.{Full}

-- the answer as the theory has it
abbrev pub result : Result ℕ Full → post.Result
result (Ok a) = at a
result (Err _) = full

-- what the making of a row promises, where the high arrow carries no NOT, and where it is any
pub record PlainPost (W X : View) (limit l lo hi : ℕ) (r : Result ℕ Full) : Type 0 where
  pub good : Good X
  pub frame : Frame W X
  pub keys : Keys W X
  pub made : Plain (2 * W.header BITS) W.rows limit (rows_of W) (rows_of X) l lo hi (result r)

pub record MakePost (W X : View) (limit l lo hi : ℕ) (r : Result ℕ Full) : Type 0 where
  pub good : Good X
  pub frame : Frame W X
  pub keys : Keys W X
  pub made : Making (2 * W.header BITS) W.rows limit (rows_of W) (rows_of X) l lo hi (result r)

-- what making a row asks
pub record MakePre (W : View) (limit l lo hi : ℕ) : Type 0 where
  pub good : Good W
  pub limit-le : limit ≤ W.rows
  pub fit : Fit (2 * W.header BITS) (rows_of W) l lo hi

pub record PlainPre (W : View) (limit l lo hi : ℕ) : Type 0 where
  pub make : MakePre W limit l lo hi
  pub plain : marked hi ≡ false

-- what adding a row asks
pub record AddPre (W : View) (limit l lo hi : ℕ) : Type 0 where
  pub pre : PlainPre W limit l lo hi
  pub differ : lo ≢ hi
  pub absent : Absent W l lo hi
