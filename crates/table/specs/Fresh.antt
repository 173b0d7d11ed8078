-- A fresh table: its header is the header maker's and its heads are 0. Assumes nothing.
use Rattle.std.specs.Prelude.{ℕ}
use Rattle.layout.specs.View.{View, header_of}
use Rattle.layout.specs.Header.{header_words}
use Rattle.table.specs.Columns.{set_header, set_heads}

-- "Fresh empties them all": nothing but the header and the heads is written
abbrev pub emptied : View → ℕ → ℕ → View
emptied W n N = set_header (set_heads W (λ b. 0)) (header_of (header_words n N))
