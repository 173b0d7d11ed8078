-- What an evaluation counts rows with: marks of the rows that registers and relations reach, the base, how many these are, and remembered
-- sizes. Assumes nothing.
use Rattle.std.specs.Prelude.{◌≡◌, List, map, ℕ, ◌*◌, ◌≤◌, ◌<◌, length, get_or, take, replicate}
use Rattle.diagram.specs.Rows.{den}
use Rattle.diagram.specs.Need.{need}
use Rattle.diagram.specs.Reach.{Reach}
use Rattle.diagram.specs.Sizes.{Reaches}
use Rattle.layout.specs.Places.{BITS}
use Rattle.layout.specs.View.{View}
use Rattle.rows.specs.Used.{rows_of}
use Rattle.rows.specs.Bits.{MARK_WORDS, On}
use Rattle.rows.specs.Filled.{filled}
use Rattle.collect.specs.Lent.{live}
use Rattle.counting.specs.Sizes.{SIZES, Remembered}

-- the words: marks of the base, their number, and remembered sizes
abbrev pub COUNT_WORDS : ℕ
COUNT_WORDS = 2388

abbrev pub NUMBER : ℕ
NUMBER = 1875

unfoldable pub marks_of : List ℕ → List ℕ
marks_of c = take MARK_WORDS c

-- nothing is counted yet
abbrev pub Blank : List ℕ → Type 0
Blank c = c ≡ replicate COUNT_WORDS 0

-- "Rows needed by some sets or relations", which arrows of a table denote
abbrev pub need_of : View → List ℕ → ℕ
need_of W xs = need (2 * W.header BITS) (map (den (2 * W.header BITS) (rows_of W)) xs)

-- the marks are of exactly the rows that registers and relations reach, and the number says how many these are
pub record BaseOf (W : View) (c : List ℕ) : Type 0 where
  pub size : length c ≡ COUNT_WORDS
  pub only : (i : ℕ) → On (marks_of c) i → Reach (rows_of W) (filled W) i
  pub all : (i : ℕ) → Reach (rows_of W) (filled W) i → On (marks_of c) i
  pub number : Reaches (rows_of W) (filled W) (get_or c NUMBER 0)

-- and each remembered size is right
pub record CountsOf (W : View) (c : List ℕ) : Type 0 where
  pub base : BaseOf W c
  pub sizes : Remembered (rows_of W) (filled W) c

-- n rows are reached from what is live, further arrows among it, and these are marked
pub record LiveMarked (W : View) (xs m : List ℕ) (n : ℕ) : Type 0 where
  pub number : Reaches (rows_of W) (live W xs) n
  pub only : (i : ℕ) → On m i → Reach (rows_of W) (live W xs) i
  pub all : (i : ℕ) → Reach (rows_of W) (live W xs) i → On m i

-- words of which only remembered sizes differ
pub record Beside (c d : List ℕ) : Type 0 where
  pub size : length d ≡ length c
  pub first : take SIZES d ≡ take SIZES c

-- the sizes below place k are forgotten
pub record Emptied (c d : List ℕ) (k : ℕ) : Type 0 where
  pub beside : Beside c d
  pub zeros : (j : ℕ) → SIZES ≤ j → j < k → get_or d j 0 ≡ 0

-- words for marks of a table of N rows, and no more than there are
pub record MarkRoom (N k : ℕ) : Type 0 where
  pub enough : N ≤ 32 * k
  pub most : k ≤ MARK_WORDS
