-- What the program does with the bytes at hand, by the book. Assumes nothing.
use Rattle.std.specs.Prelude.{Bool, List, ℕ, drop}
use Rattle.std.proofs.Math.Option.{Option}
use Rattle.book.specs.Book.{Book}
use Rattle.book.specs.Program.{Line, end_ok, end_bad, obey}
use Rattle.records.specs.declared.Found.{Found}
use Rattle.records.specs.declared.Found.TheVariants.{End, More, Bad, Record}
use Rattle.records.specs.Record.{read_record, asked}

-- what the program does with the bytes at hand: it writes a record's line and goes on with a book and the bytes left; it waits for more; or
-- it writes the last line
pub data Step : Type 0 where
  writes : Line → Option Book → List ℕ → Step
  waits : Step
  ends : Line → Step

-- the step by what the reader found: a record is obeyed, a line written and the rest is left
abbrev pub step_on : Option Book → List ℕ → Found → Step
step_on o bs End = ends end_ok
step_on o bs More = waits
step_on o bs Bad = ends end_bad
step_on o bs (Record c size) = let d = obey o (asked bs size c) in writes d.1 d.0 (drop size bs)

-- the book's step on the bytes at hand
abbrev pub step : Option Book → List ℕ → Bool → Step
step o bs ended = step_on o bs (read_record bs ended)
