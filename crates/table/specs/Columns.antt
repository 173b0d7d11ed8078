-- Columns of a table's view written from 0 up. Assumes nothing.
use Rattle.std.specs.Prelude.{ℕ}
use Rattle.layout.specs.View.{View}

-- the header becomes the one given
abbrev pub set_header : View → (ℕ → ℕ) → View
set_header W f =
    record {
      rows = W.rows;
      size = W.size;
      header = f;
      cell = W.cell;
      list = W.list;
      head = W.head;
      slot = W.slot;
      beyond = W.beyond;
    }

-- the heads become those given
abbrev pub set_heads : View → (ℕ → ℕ) → View
set_heads W f =
    record {
      rows = W.rows;
      size = W.size;
      header = W.header;
      cell = W.cell;
      list = W.list;
      head = f;
      slot = W.slot;
      beyond = W.beyond;
    }
