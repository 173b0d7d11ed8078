-- EXISTS at every odd level at once. The table only grows; where the rows run out nothing else is said, for then the steps are taken one by
-- one. Assumes nothing.
use Rattle.std.specs.Prelude.{◌≡◌, true, ◌||◌, ◌≢◌, ℕ, ◌%◌, Option, Some, None, Result, Ok}
use Rattle.diagram.specs.Rows.{Arrow, den, Extends}
use Rattle.diagram.specs.Post.{Denotes}
use Rattle.diagram.specs.Steps.{two_f}
use Rattle.diagram.specs.Odd.{odd_f, Covered}
use Rattle.layout.specs.View.{View}
use Rattle.layout.specs.Arrows.{is_row}
use Rattle.rows.specs.Used.{rows_of}
use Rattle.rows.specs.Sound.{Good}
use Rattle.table.specs.Make.{MakePre, MakePost}
use Rattle.table.specs.declared.Full.{Full}
use Rattle.memory.specs.Memo.{Remembers}
use Rattle.operations.specs.Work.{OpFrame, Ready, Worked}

-- rows were only added, and what is remembered is right
pub record Grown (m : ℕ) (W X : View) : Type 0 where
  pub good : Good X
  pub memory : Remembers m X
  pub frame : OpFrame W X
  pub kept : Extends (rows_of W) (rows_of X)

-- r is the arrow of EXISTS at every odd level of a, and all rows below a have theirs; or the rows ran out
pub record OddPost (m : ℕ) (W X : View) (a : ℕ) (r : Result ℕ Full) : Type 0 where
  pub grown : Grown m W X
  pub result : (x : ℕ) → r ≡ Ok x → Denotes m (rows_of X) x (odd_f (den m (rows_of W) a))
  pub covered : (x : ℕ) → r ≡ Ok x → Covered m (rows_of X) a

-- what is known of it before any work
pub record OddKnown (m : ℕ) (W : View) (a : ℕ) (f : Option ℕ) : Type 0 where
  pub at : (v : ℕ) → f ≡ Some v → Denotes m (rows_of W) v (odd_f (den m (rows_of W) a))
  pub covered : (v : ℕ) → f ≡ Some v → Covered m (rows_of W) a
  pub none : f ≡ None → is_row a ≡ true

-- what joining the parts of a row asks: OR two arrows, or the making of a row
pub record JoinPre (m N limit : ℕ) (W : View) (l x y : ℕ) : Type 0 where
  pub ready : Ready m N limit W
  pub low : Arrow (rows_of W) x
  pub high : Arrow (rows_of W) y
  pub make : l % 2 ≢ 1 → MakePre W limit l x y

-- and leaves
pub data JoinPost (m N limit : ℕ) (W X : View) (l x y : ℕ) (t : Result ℕ Full) : Type 0 where
  by-or : l % 2 ≡ 1 → Worked m N limit W X t (two_f ◌||◌ (den m (rows_of W) x) (den m (rows_of W) y)) → JoinPost m N limit W X l x y t
  by_row : l % 2 ≢ 1 → MakePost W X limit l x y t → JoinPost m N limit W X l x y t
