-- What remembering and forgetting leave as it is: a table but for its remembered results. Assumes nothing.
use Rattle.std.specs.Prelude.{◌≡◌, ◌≢◌, ℕ}
use Rattle.layout.specs.Places.{SLOTS, STORED, MEMO_KEY, MEMO_VALUE}
use Rattle.layout.specs.View.{View}

-- the slots become those given
abbrev pub set_slots : View → (ℕ → ℕ) → View
set_slots W f =
    record {
      rows = W.rows;
      size = W.size;
      header = W.header;
      cell = W.cell;
      list = W.list;
      head = W.head;
      slot = f;
      beyond = W.beyond;
    }

-- X is W but for remembered results: the slots and their two header words, and two words of each row
pub record MemoFrame (W X : View) : Type 0 where
  pub rows : X.rows ≡ W.rows
  pub size : X.size ≡ W.size
  pub header : (h : ℕ) → h ≢ SLOTS → h ≢ STORED → X.header h ≡ W.header h
  pub cell : (j k : ℕ) → k ≢ MEMO_KEY → k ≢ MEMO_VALUE → X.cell j k ≡ W.cell j k
  pub list : X.list ≡ W.list
  pub head : X.head ≡ W.head
  pub beyond : X.beyond ≡ W.beyond
