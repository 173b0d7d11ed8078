-- Remembered sizes: of some arrows, how many rows they reach beside the base. Assumes nothing.
use Rattle.std.specs.Prelude.{List, ℕ, ◌+◌, ◌*◌, ◌/◌, ◌%◌, ◌<◌, get_or, set}
use Rattle.diagram.specs.Rows.{Rows, Arrow}
use Rattle.diagram.specs.Sizes.{Outside}

-- the words: from word SIZES on, for each of 256 arrows where it leads and its size
abbrev pub SIZES : ℕ
SIZES = 1876

abbrev pub PAIRS : ℕ
PAIRS = 256

-- the place of an arrow's pair
abbrev pub place_of : ℕ → ℕ
place_of a = SIZES + 2 * (a / 2 % PAIRS)

-- each pair is right: the arrow without a NOT is one, and reaches at most as many rows beside the base.
-- Two zeros are so: nothing reaches no row.
pub record Remembered (rows : Rows) (base c : List ℕ) : Type 0 where
  pub arrow : (s : ℕ) → s < PAIRS → Arrow rows (2 * get_or c (SIZES + 2 * s) 0)
  pub right : (s : ℕ) → s < PAIRS → Outside rows base (2 * get_or c (SIZES + 2 * s) 0) (get_or c (SIZES + 2 * s + 1) 0)

-- the words with one more pair
abbrev pub put_size : List ℕ → ℕ → ℕ → List ℕ
put_size c a k = set (set c (place_of a) (a / 2)) (place_of a + 1) k
