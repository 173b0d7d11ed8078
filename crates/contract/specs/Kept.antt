-- "Kept": what a call leaves of the lent words, by its number. The parts that it does not name are those that document 01 frees in a sound
-- table: unneeded rows, the index (list of used rows, chains, how many are used, where a search starts) and remembered results.
-- Assumes nothing.
use Rattle.std.specs.Prelude.{◌≡◌, Bool, false, ◌&&◌, ◌||◌, List, ℕ, ◌+◌, ◌≤◌, ◌<◌, T, eqb, length, get_or, set}
use Rattle.std.proofs.Math.Option.{Option, none, some}
use Rattle.layout.specs.Refusals.{keeps_all}
use Rattle.layout.specs.Places.{VALID, HEADER, ROWS, USED, CURSOR, SLOTS, STORED, SPARE, FIRST_REGISTER, FIRST_RELATION, words_for}
use Rattle.layout.specs.View.{header_of, cell_of}
use Rattle.book.specs.Book.{Call, relation, set as set_call, valid, clear, collect, effect}
use Rattle.book.specs.Table.{Reply}

-- header words of the index and of remembered results
abbrev pub free_word : ℕ → Bool
free_word h = (eqb h USED || eqb h CURSOR) || (eqb h SLOTS || eqb h STORED)

-- header word h is that of the place, the first of its kind being at `first`; t where there is no such place
abbrev pub word_of : Option ℕ → ℕ → ℕ → Bool → Bool
word_of none first h t = t
word_of (some r) first h t = eqb h (first + r)

-- header words that an answered call changes: its target
abbrev pub target : Call → ℕ → Bool
target c h = word_of (effect c).reg FIRST_REGISTER h (word_of (effect c).rel FIRST_RELATION h ((effect c).valid && eqb h VALID))

-- header word h may be another one after the call
abbrev pub changes : Call → Reply → ℕ → Bool
changes c y h = free_word h || (eqb y.number 0 && target c h)

-- an answered clear writes just the word of its register; of other calls no more is asked here
abbrev pub Exact : Call → Reply → List ℕ → List ℕ → Type 0
Exact (relation t bs) y old new = Unit {0}
Exact (set_call acc r R bs) y old new = Unit {0}
Exact (valid bs) y old new = Unit {0}
Exact (clear r) y old new = y.number ≡ 0 → new ≡ set old (FIRST_REGISTER + r) 0
Exact collect y old new = Unit {0}

-- what a call with its reply leaves of the words: which words it may not change
pub record Kept (c : Call) (y : Reply) (old new : List ℕ) : Type 0 where
  -- "all words"
  pub all : T (keeps_all y.number) → new ≡ old
  -- 8, 9, 10, 11, 15 and an answer: the slice is as long, and n, N, V, registers, relations and every unused header word are as they were, but for the
  -- target
  pub size : length new ≡ length old
  pub header : (h : ℕ) → h < HEADER → changes c y h ≡ false → header_of new h ≡ header_of old h
  -- the spare word of every row
  pub spare : (i : ℕ) → i < header_of old ROWS → cell_of (header_of old ROWS) new i SPARE ≡ cell_of (header_of old ROWS) old i SPARE
  -- "words beyond that are never changed"
  pub beyond : (p : ℕ) → words_for (header_of old ROWS) ≤ p → get_or new p 0 ≡ get_or old p 0
  pub exact : Exact c y old new
