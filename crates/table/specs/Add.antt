-- A row is added to a good table. Assumes nothing.
use Rattle.std.specs.Prelude.{◌≡◌, true, false, ◌≢◌, ℕ, ◌<◌}
use Rattle.layout.specs.Places.{USED, CURSOR, LEVEL, MEMO_KEY}
use Rattle.diagram.specs.Rows.{Rows, Arrow, level_of}
use Rattle.layout.specs.View.{View, put_cell}
use Rattle.rows.specs.Used.{used}

-- row i gets its three words, and remembers nothing
abbrev pub row_put : View → ℕ → ℕ → ℕ → ℕ → View
row_put W i l lo hi = put_cell (put_cell (put_cell (put_cell W i 0 lo) i 1 hi) i LEVEL l) i MEMO_KEY 0

-- what no operation on rows changes: the header but for count and cursor, the last two words of rows, and the words past the heads
pub record Frame (W X : View) : Type 0 where
  pub rows : X.rows ≡ W.rows
  pub size : X.size ≡ W.size
  pub header : (h : ℕ) → h ≢ USED → h ≢ CURSOR → X.header h ≡ W.header h
  pub memo : (j k : ℕ) → MEMO_KEY < k → X.cell j k ≡ W.cell j k
  pub slot : X.slot ≡ W.slot
  pub beyond : X.beyond ≡ W.beyond

-- a row that was used keeps what it remembers, and a new one remembers nothing
pub record Keys (W X : View) : Type 0 where
  pub kept : (j : ℕ) → used W j ≡ true → X.cell j MEMO_KEY ≡ W.cell j MEMO_KEY
  pub fresh : (j : ℕ) → used W j ≡ false → used X j ≡ true → X.cell j MEMO_KEY ≡ 0

-- what a row needs to be added: its arrows lead to greater levels
pub record Fit (m : ℕ) (r : Rows) (l lo hi : ℕ) : Type 0 where
  pub shallow : l < m
  pub low-arrow : Arrow r lo
  pub high-arrow : Arrow r hi
  pub low_deeper : l < level_of m r lo
  pub high_deeper : l < level_of m r hi
