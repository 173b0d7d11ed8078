-- ONE ANSWER: on the same words a contract allows one answer, but for what document 01 frees. Two replies and two ends that it allows agree
-- in all parts below, so whoever answers or leaves anything else does not meet it. Words need not be sound, nor is that decided.
-- Assumes nothing.
use Rattle.std.specs.Prelude.{◌≡◌, ◌↔◌, false, List, ℕ, ◌≤◌, ◌<◌, T, length, get_or}
use Rattle.layout.specs.Refusals.{keeps_all}
use Rattle.layout.specs.Places.{HEADER, ROWS, SPARE, words_for}
use Rattle.layout.specs.View.{header_of, cell_of}
use Rattle.diagram.specs.Rows.{Rows}
use Rattle.diagram.specs.Reach.{Reach}
use Rattle.book.specs.Book.{Call, clear, collect, registers}
use Rattle.book.specs.Table.{Reply, kept_roots}
use Rattle.book.specs.BookOf.{book_of}
use Rattle.book.specs.OneReply.{settled_in}
use Rattle.contract.specs.Seen.{seen}
use Rattle.contract.specs.Kept.{changes}

-- row i is used in both or in none, with the same level and arrows
pub record SameRow (a b : Rows) (i : ℕ) : Type 0 where
  pub used : a.used i ≡ b.used i
  pub level : a.level i ≡ b.level i
  pub low : a.low i ≡ b.low i
  pub high : a.high i ≡ b.high i

-- two replies y, z and two ends v, w of the call c on the words `old`
pub record OneAnswer (c : Call) (old v w : List ℕ) (y z : Reply) : Type 0 where
  -- the reply: of set's node number only whether it is 0, 1 or above
  pub number : y.number ≡ z.number
  pub rounds : y.rounds ≡ z.rounds
  pub peak : y.peak ≡ z.peak
  pub value : settled_in c y.value ≡ settled_in c z.value
  -- n, N, V, and every register and relation: filled in both or in none, and with the same set
  pub book : book_of (seen v) ≡ book_of (seen w)
  -- two registers have one node number at the one end exactly where they have at the other
  pub numbers : (r q : ℕ) → r < registers → q < registers → ((seen v).reg r ≡ (seen v).reg q) ↔ ((seen w).reg r ≡ (seen w).reg q)
  -- the words of the header but those of the index, of remembered results and of an answered call's target
  pub size : length v ≡ length w
  pub header : (h : ℕ) → h < HEADER → changes c y h ≡ false → header_of v h ≡ header_of w h
  -- rows that the other roots need; after collect the same rows are used
  pub rows : (i : ℕ) → Reach (seen old).rows (kept_roots c y (seen old)) i → SameRow (seen v).rows (seen w).rows i
  pub swept : c ≡ collect → (i : ℕ) → (seen v).rows.used i ≡ (seen w).rows.used i
  pub spare : (i : ℕ) → i < header_of old ROWS → cell_of (header_of old ROWS) v i SPARE ≡ cell_of (header_of old ROWS) w i SPARE
  pub beyond : (p : ℕ) → words_for (header_of old ROWS) ≤ p → get_or v p 0 ≡ get_or w p 0
  -- every word, where a check refuses and after clear
  pub all : T (keeps_all y.number) → v ≡ w
  pub cleared : (r : ℕ) → c ≡ clear r → v ≡ w
