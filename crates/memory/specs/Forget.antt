-- All remembered results are forgotten, whatever the words for them hold. Assumes nothing.
use Rattle.std.specs.Prelude.{◌≡◌, true, ◌≢◌, ℕ, ◌*◌, ◌≤◌, ◌<◌}
use Rattle.layout.specs.Places.{MAX_ROWS, SLOTS, MEMO_KEY}
use Rattle.layout.specs.View.{View}
use Rattle.rows.specs.Used.{used}
use Rattle.memory.specs.Frame.{MemoFrame}
use Rattle.memory.specs.Memo.{Slots}

-- what the choice of a number of slots asks
pub record FirstSlots (rows used : ℕ) : Type 0 where
  pub max : rows ≤ MAX_ROWS
  pub used_le : used ≤ rows

-- the cells become those given
abbrev pub set_cells : View → (ℕ → ℕ → ℕ) → View
set_cells W f =
    record {
      rows = W.rows;
      size = W.size;
      header = W.header;
      cell = f;
      list = W.list;
      head = W.head;
      slot = W.slot;
      beyond = W.beyond;
    }

-- X is W, but the first k listed rows remember nothing
pub record RowsForgot (W X : View) (k : ℕ) : Type 0 where
  pub cells : ℕ → ℕ → ℕ
  pub same : X ≡ set_cells W cells
  pub other : (j l : ℕ) → l ≢ MEMO_KEY → cells j l ≡ W.cell j l
  pub empty : (q : ℕ) → q < k → cells (W.list q) MEMO_KEY ≡ 0

-- X is W, but nothing is remembered
pub record Forgot (W X : View) : Type 0 where
  pub frame : MemoFrame W X
  pub sizes : Slots X
  pub slots : (s : ℕ) → s < X.header SLOTS → X.slot (3 * s) ≡ 0
  pub keys : (i : ℕ) → used X i ≡ true → X.cell i MEMO_KEY ≡ 0
