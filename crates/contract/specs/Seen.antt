-- The table that lent words hold, as the book sees it. Assumes nothing.
use Rattle.std.specs.Prelude.{List, ℕ, zero, suc, ◌+◌}
use Rattle.std.proofs.Math.Option.{Option, none, some}
use Rattle.layout.specs.Places.{BITS, FIRST_REGISTER, FIRST_RELATION}
use Rattle.layout.specs.View.{View}
use Rattle.rows.specs.Used.{rows_of}
use Rattle.rows.specs.Within.{valid_of}
use Rattle.rows.specs.Sound.{Sound, table_of}
use Rattle.book.specs.Table.{Table}

-- the arrow in a root's word: 0 is empty, else the arrow + 1
abbrev pub arrow_in : ℕ → Option ℕ
arrow_in zero = none
arrow_in (suc a) = some a

-- n, N, V, rows, registers and relations of a view
abbrev pub seen_in : View → Table
seen_in W = record {
  n = W.header BITS;
  N = W.rows;
  valid = valid_of W;
  rows = rows_of W;
  reg = λ r. arrow_in (W.header (FIRST_REGISTER + r));
  rel = λ t. arrow_in (W.header (FIRST_RELATION + t));
}

-- the table that lent words hold
abbrev pub seen : List ℕ → Table
seen ws = seen_in (table_of ws)

-- "A table is sound when", of lent words
abbrev pub SoundWords : List ℕ → Type 0
SoundWords ws = Sound (table_of ws)
