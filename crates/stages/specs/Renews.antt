-- What `renew` asks. Assumes nothing.
use Rattle.std.specs.Prelude.{List, ℕ, ◌+◌, ◌*◌, ◌≤◌, length}
use Rattle.diagram.specs.Rows.{Arrow}
use Rattle.layout.specs.View.{View}
use Rattle.rows.specs.Used.{rows_of}
use Rattle.operations.specs.Work.{Ready}

-- a table between operations, an arrow, and a bit for each arrow
pub record RenewPre (m N limit : ℕ) (W : View) (seen : List ℕ) (a : ℕ) : Type 0 where
  pub ready : Ready m N limit W
  pub arrow : Arrow (rows_of W) a
  pub room : 2 * N + 2 ≤ 32 * length seen
