-- Where the bytes at hand and those to be written stand in their buffers, and what a read, a write and a turn make of them.
-- Definitions alone.
use Rattle.std.specs.Prelude.{◌≡◌, true, false, List, [], ◌++◌, ℕ, ◌-◌, ◌≤◌, length, take, drop}
use Rattle.rooms.specs.declared.Said.{Said}
use Rattle.rooms.specs.declared.Said.TheVariants.{Line, End, More, Room}
use Rattle.rooms.specs.Replies.{line_room, Replies}
use Rattle.room_io.specs.declared.Progress.{Progress}
use Rattle.room_io.specs.declared.Brought.{Brought}
use Rattle.room_io.specs.Calls.{ReadSays, after_read, WriteSays}

-- the longest record: two length bytes and L of at most 1,100
abbrev pub longest : ℕ
longest = 1_102

-- in buffers of so many bytes, of which the input's holds any record and the output's a line
pub record Placed (p : Progress) (input output : ℕ) : Type 0 where
  pub order : p.start ≤ p.end
  pub within : p.end ≤ input
  pub waiting : p.pending ≤ output
  pub enough : longest ≤ input
  pub line : line_room ≤ output

-- the bytes at hand
abbrev pub at_hand : Progress → List ℕ → List ℕ
at_hand p input = take (p.end - p.start) (drop p.start input)

-- the bytes that are still to be written
abbrev pub unwritten : Progress → List ℕ → List ℕ
unwritten p output = take p.pending output

-- what a read into the room behind the bytes at hand brought follows them, and its answer says how far the program is; it brought nothing
-- exactly where no more will come
pub record Brings (p q : Progress) (input input' : List ℕ) : Type 0 where
  pub brought : Brought
  pub read : ReadSays (length input' - (p.end - p.start)) brought
  pub is : q ≡ after_read p (p.end - p.start) brought
  pub bytes : List ℕ
  pub follow : at_hand q input' ≡ at_hand p input ++ bytes
  pub none : q.ended ≡ true → bytes ≡ []
  pub some : q.ended ≡ false → 1 ≤ length bytes

pub record Refilled (p q : Progress) (input input' : List ℕ) : Type 0 where
  pub order : q.start ≤ q.end
  pub within : q.end ≤ length input'
  pub waiting : q.pending ≡ p.pending
  pub brings : Brings p q input input'

-- what became of the buffers, by what was said: the bytes of a record are done with and its line follows what is unwritten; so does the
-- last line; bytes were read; what was unwritten was written
abbrev pub After : Progress → Progress → List ℕ → List ℕ → List ℕ → List ℕ → List ℕ → Said → Type 0
After p q input input' output output' room (Line used k) =
    (at_hand q input' ≡ drop used (at_hand p input)) × (unwritten q output' ≡ unwritten p output ++ take k room) × (q.ended ≡ p.ended)
    × (q.done ≡ false)
After p q input input' output output' room (End k) =
    (unwritten q output' ≡ unwritten p output ++ take k room) × (q.ended ≡ p.ended) × (q.done ≡ true)
After p q input input' output output' room More = Brings p q input input' × (unwritten q output' ≡ unwritten p output)
After p q input input' output output' room Room =
    (at_hand q input' ≡ at_hand p input) × (unwritten q output' ≡ []) × (q.ended ≡ p.ended)
    × WriteSays p q

-- a turn: one answer to the bytes at hand, in the room behind what is unwritten
pub record Turned (p q : Progress) (old new input input' output output' : List ℕ) : Type 0 where
  pub placed : Placed q (length input') (length output')
  pub reply : Said
  pub room : List ℕ
  pub answered : Replies (at_hand p input) p.ended old new (drop p.pending output) room reply
  pub after : After p q input input' output output' room reply
