-- What every operation asks and promises, over the words. Assumes nothing.
use Rattle.std.specs.Prelude.{◌≡◌, ℕ, ◌*◌, ◌≤◌, ◌<◌, ◌≢◌, Option, Some, None, Result}
use Rattle.diagram.specs.Level.{Fn}
use Rattle.diagram.specs.Post.{Denotes, OpPost}
use Rattle.layout.specs.Places.{BITS, USED, CURSOR, SLOTS, STORED, MEMO_VALUE}
use Rattle.layout.specs.View.{View}
use Rattle.rows.specs.Used.{rows_of}
use Rattle.rows.specs.Sound.{Good}
use Rattle.table.specs.Make.{result}
use Rattle.table.specs.declared.Full.{Full}
use Rattle.memory.specs.Memo.{Remembers}

-- what no operation changes: the header but for count, cursor and the numbers of slots, the spare word of rows, and the words beyond the
-- table
pub record OpFrame (W X : View) : Type 0 where
  pub rows : X.rows ≡ W.rows
  pub size : X.size ≡ W.size
  pub header : (h : ℕ) → h ≢ USED → h ≢ CURSOR → h ≢ SLOTS → h ≢ STORED → X.header h ≡ W.header h
  pub spare : (j k : ℕ) → MEMO_VALUE < k → X.cell j k ≡ W.cell j k
  pub beyond : X.beyond ≡ W.beyond

-- what an operation asks of a table of N rows over m levels: it is good, what it remembers is right, and the limit is at most N
pub record Ready (m N limit : ℕ) (W : View) : Type 0 where
  pub good : Good W
  pub memory : Remembers m W
  pub levels-is : m ≡ 2 * W.header BITS
  pub rows_is : N ≡ W.rows
  pub limit-le : limit ≤ N

-- what is known of an operation for F before any work: an arrow for it; or nothing, and then R
pub record Known (m : ℕ) (W : View) (f : Option ℕ) (F : Fn) (R : Type 0) : Type 0 where
  pub at : (v : ℕ) → f ≡ Some v → Denotes m (rows_of W) v F
  pub none : f ≡ None → R

-- what an operation for F promises: a good table, right memory, nothing else touched, and `OpPost`
pub record Worked (m N limit : ℕ) (W X : View) (o : Result ℕ Full) (F : Fn) : Type 0 where
  pub good : Good X
  pub memory : Remembers m X
  pub frame : OpFrame W X
  pub post : OpPost m N limit (rows_of W) (rows_of X) (result o) F
