-- THE PROGRAM: a chain of turns, each under the contract of `turn`, from the start to the last line, with what the reads brought and what
-- the writes were handed; what `serve` promises of it. Definitions alone.
use Rattle.std.specs.Prelude.{◌≡◌, Bool, true, false, cond, List, [], ◌++◌, ℕ, suc, ◌≤◌, length}
use Rattle.book.specs.Program.{written}
use Rattle.rooms.specs.declared.Said.{Said}
use Rattle.rooms.specs.declared.Said.TheVariants.{Line, End, More, Room}
use Rattle.room_io.specs.declared.Progress.{Progress}
use Rattle.room_io.specs.Calls.{WriteSays}
use Rattle.room_io.specs.Places.{unwritten, After, Turned}

-- how it stands with the turns: they go on; or the last one said the last line, or its read or its write failed
pub data Way : Type 0 where
  going : Way
  last_line : Way
  read_failed : Way
  write_failed : Way

-- where the program is, all that the reads brought so far, and all that the writes were handed
pub record State : Type 0 where
  pub progress : Progress
  pub words : List ℕ
  pub input : List ℕ
  pub output : List ℕ
  pub brought : List ℕ
  pub handed : List ℕ
  pub way : Way

-- nothing is at hand, nothing is unwritten, and "All zero words are unsound"
abbrev pub start : Progress
start = record { start = 0; end = 0; pending = 0; ended = false; done = false; sound = false }

-- the state in which `serve` begins
abbrev pub at_start : List ℕ → List ℕ → List ℕ → State
at_start w i o = record { progress = start; words = w; input = i; output = o; brought = []; handed = []; way = going }

-- what the writes were handed after a turn: more where it said that there is no room
abbrev pub handed_after : Said → List ℕ → List ℕ → List ℕ
handed_after (Line used k) text before = before
handed_after (End k) text before = before
handed_after More text before = before
handed_after Room text before = before ++ text

-- how the turns stand after what one said: they go on, or how they ended
abbrev pub way_after : Said → Bool → Way
way_after (Line used k) done = going
way_after (End k) done = last_line
way_after More done = cond done read_failed going
way_after Room done = cond done write_failed going

module _ (s : State) (q : Progress) (v j u room : List ℕ) where
  -- what came of a turn that said r
  abbrev pub Came : Said → Type 0
  Came r = After s.progress q s.input j s.output u room r

  -- what the reads have brought after a turn
  abbrev pub brought_after : (r : Said) → Came r → List ℕ
  brought_after (Line used k) a = s.brought
  brought_after (End k) a = s.brought
  brought_after More a = s.brought ++ a.0.bytes
  brought_after Room a = s.brought

  -- the state after a turn that said r
  abbrev pub state_after : (r : Said) → Came r → State
  state_after r a = record {
    progress = q;
    words = v;
    input = j;
    output = u;
    brought = brought_after r a;
    handed = handed_after r (unwritten s.progress s.output) s.handed;
    way = way_after r q.done;
  }

-- the state after a turn under its contract
abbrev pub after_turn : (s : State) {q : Progress} {v j u : List ℕ} → Turned s.progress q s.words v s.input j s.output u → State
after_turn s {q} {v} {j} {u} t = state_after s q v j u t.room t.reply t.after

-- so many turns from the start on, none after one that was the last
pub data Turns (w i o : List ℕ) : ℕ → State → Type 0 where
  none : Turns w i o 0 (at_start w i o)
  more : {k : ℕ} {s : State} {q : Progress} {v j u : List ℕ} → Turns w i o k s → s.progress.done ≡ false
      → (t : Turned s.progress q s.words v s.input j s.output u) → Turns w i o (suc k) (after_turn s t)

-- what the writes are handed, with the one that is made after the last turn
abbrev pub all_handed : State → List ℕ
all_handed s = s.handed ++ unwritten s.progress s.output

-- by the last line all of the book's text was handed on, whatever was left unread
abbrev pub Whole : State → Type 0
Whole s = (rest : List ℕ) → (s.progress.ended ≡ true → rest ≡ []) → all_handed s ≡ written (s.brought ++ rest)

-- what was handed on is the beginning of the book's text for what was brought
abbrev pub Begins : State → Type 0
Begins s = (more : List ℕ) × (all_handed s ++ more ≡ written s.brought)

-- ---- what `serve` promises

-- 2^62 bytes
abbrev pub endless : ℕ
endless = 4_611_686_018_427_387_904

-- the turns went on until one was the last, unless 2^62 bytes and more were read; whatever ended them, no other text was handed on than the
-- book's; how it stands at the end is what some answer of a write leaves
pub record Served (w w' i i' o o' : List ℕ) (end : Progress) : Type 0 where
  pub turns : ℕ
  pub last : State
  pub chain : Turns w i o turns last
  pub words : last.words ≡ w'
  pub input : last.input ≡ i'
  pub output : last.output ≡ o'
  pub ended : last.way ≡ going → endless ≤ length last.brought
  pub begins : Begins last
  pub whole : last.way ≡ last_line → Whole last
  pub flushed : WriteSays last.progress end
