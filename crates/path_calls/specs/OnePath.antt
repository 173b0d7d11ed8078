-- ONE ANSWER of a call that writes a run to a lent list: on the same words and the same list its contract allows one answer, but for what
-- document 01 frees: two replies, two lists and two ends that it allows agree in all parts below. Words need not be sound, nor is that
-- decided. Assumes nothing.
use Rattle.std.specs.Prelude.{◌≡◌, false, List, ℕ, ◌≤◌, ◌<◌, T, length, get_or}
use Rattle.layout.specs.Refusals.{keeps_all}
use Rattle.layout.specs.Places.{HEADER, ROWS, SPARE, words_for}
use Rattle.layout.specs.View.{header_of, cell_of}
use Rattle.diagram.specs.Reach.{Reach}
use Rattle.book.specs.Table.{Reply, roots_of}
use Rattle.book.specs.BookOf.{book_of}
use Rattle.contract.specs.Seen.{seen}
use Rattle.contract.specs.Kept.{free_word}
use Rattle.contract.specs.OneAnswer.{SameRow}

-- two replies y, z, two lists k, l and two ends v, w
pub record OnePath (old v w k l : List ℕ) (y z : Reply) : Type 0 where
  pub number : y.number ≡ z.number
  pub states : y.value ≡ z.value
  pub rounds : y.rounds ≡ z.rounds
  pub peak : y.peak ≡ z.peak
  pub list : k ≡ l
  -- n, N, V, registers and relations: what they hold, and their words
  pub book : book_of (seen v) ≡ book_of (seen w)
  pub size : length v ≡ length w
  pub header : (h : ℕ) → h < HEADER → free_word h ≡ false → header_of v h ≡ header_of w h
  -- the rows that they need
  pub rows : (i : ℕ) → Reach (seen old).rows (roots_of (seen old)) i → SameRow (seen v).rows (seen w).rows i
  pub spare : (i : ℕ) → i < header_of old ROWS → cell_of (header_of old ROWS) v i SPARE ≡ cell_of (header_of old ROWS) w i SPARE
  pub beyond : (p : ℕ) → words_for (header_of old ROWS) ≤ p → get_or v p 0 ≡ get_or w p 0
  -- every word, where a check refuses
  pub all : T (keeps_all y.number) → v ≡ w
