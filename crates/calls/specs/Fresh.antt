-- The words that fresh leaves. Assumes nothing.
use Rattle.std.specs.Prelude.{◌≡◌, List, ℕ, Result, Ok, Err}
use Rattle.layout.specs.View.{view, header_of}
use Rattle.layout.specs.Header.{header_words}
use Rattle.layout.specs.declared.Refusal.{Refusal}
use Rattle.table.specs.Columns.{set_header, set_heads}

-- The words that fresh leaves: the header maker's header, and heads of 0; all others, those of rows and those past the table too, are as
-- they were. A refused fresh keeps all words.
abbrev pub FreshWords : ℕ → ℕ → List ℕ → List ℕ → Result (Unit {0}) Refusal → Type 0
FreshWords n N old new (Ok _) = view N new ≡ set_heads (set_header (view N old) (header_of (header_words n N))) (λ b. 0)
FreshWords n N old new (Err _) = new ≡ old
