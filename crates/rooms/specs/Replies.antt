-- What `answer` says, writes and leaves: by what became of the bytes on any words, and by the book's step on words that stand for a book or
-- for none. Assumes nothing.
use Rattle.std.specs.Prelude.{◌≡◌, Bool, List, [], ℕ, ◌≤◌, ◌<◌, length, drop}
use Rattle.std.proofs.Math.Option.{Option}
use Rattle.book.specs.Book.{Book}
use Rattle.book.specs.Program.{Line, end_ok, end_bad, text_of}
use Rattle.records.specs.Text.{WroteWithin}
use Rattle.records.specs.Cuts.{Step, writes, waits, ends, step}
use Rattle.commands.specs.declared.Taken.{Taken}
use Rattle.commands.specs.declared.Taken.TheVariants as taken
use Rattle.commands.specs.Obey.{TakePost}
use Rattle.rooms.specs.declared.Said.{Said}
use Rattle.rooms.specs.declared.Said.TheVariants as said
use Rattle.rooms.specs.Stands.{Stands, outcome_line}

-- the bytes that a line takes at most
abbrev pub line_room : ℕ
line_room = 44

-- a line stands at the front of the room, and all else is as it was
abbrev pub Writes : Line → List ℕ → List ℕ → ℕ → Type 0
Writes l out out' written = WroteWithin line_room out 0 (text_of l []) out' written

-- what is said of what became of the bytes: the outcome's line and the record's size, the last line, or nothing
abbrev pub Prints : Taken → List ℕ → List ℕ → Said → Type 0
Prints (taken.Done x size) out out' r = (written : ℕ) × (r ≡ said.Line size written) × Writes (outcome_line x) out out' written
Prints taken.End out out' r = (written : ℕ) × (r ≡ said.End written) × Writes end_ok out out' written
Prints taken.More out out' r = (r ≡ said.More) × (out' ≡ out)
Prints taken.Bad out out' r = (written : ℕ) × (r ≡ said.End written) × Writes end_bad out out' written

-- what is said of a step of the book: its line, the bytes left, and words that stand for its next book; that it waits; its last line
abbrev pub Steps : List ℕ → List ℕ → List ℕ → List ℕ → List ℕ → Said → Step → Type 0
Steps bs old new out out' r (writes l o left) =
    (used written : ℕ) × (r ≡ said.Line used written) × (drop used bs ≡ left) × Writes l out out' written × Stands o new
Steps bs old new out out' r waits = (r ≡ said.More) × (new ≡ old) × (out' ≡ out)
Steps bs old new out out' r (ends l) = (written : ℕ) × (r ≡ said.End written) × (new ≡ old) × Writes l out out' written

-- the contract of `answer`: what is said, and what it leaves of words and output
pub record Replies (bs : List ℕ) (ended : Bool) (old new out out' : List ℕ) (r : Said) : Type 0 where
  -- no room for a line: nothing is changed
  pub room : length out < line_room → (r ≡ said.Room) × (new ≡ old) × (out' ≡ out)
  -- on any words, as many as they are: a record is obeyed under its call's contract, and its outcome's line is written
  pub plain : line_room ≤ length out → (t : Taken) × TakePost bs ended old new t × Prints t out out' r
  -- on the words that the program lends: the step of the book that they stand for
  pub book : line_room ≤ length out → (o : Option Book) → Stands o old → Steps bs old new out out' r (step o bs ended)
