-- The rows added in a bitmap, counted by level: the rows that are marked beside those that the roots reach.
-- What `mark_added` asks and leaves. Assumes nothing.
use Rattle.std.specs.Prelude.{◌≡◌, ◌⊎◌, true, ℕ, ◌*◌, ◌≤◌, length}
use mathlib.Core.List.{List, Memᴰ as Mem}
use Rattle.diagram.specs.Rows.{Rows, Arrow}
use Rattle.diagram.specs.Count.{NoDup}
use Rattle.diagram.specs.Reach.{Reach}
use Rattle.diagram.specs.Survey.{AddedSoFar}
use Rattle.layout.specs.View.{View}
use Rattle.rows.specs.Used.{rows_of}
use Rattle.rows.specs.Bits.{On}
use Rattle.rows.specs.Mark.{Marks}
use Rattle.rows.specs.Sound.{Good}
use Rattle.stages.specs.Levels.{LEVELS, count_of}

-- the marked rows that the roots do not reach are closed under arrows, and counted by level
pub record AddedCounts (rows : Rows) (roots reached added : List ℕ) : Type 0 where
  pub list : List ℕ
  pub once : NoDup list
  pub used : (i : ℕ) → Mem i list → rows.used i ≡ true
  pub marked : (i : ℕ) → Mem i list → On reached i
  pub all : (i : ℕ) → On reached i → Reach rows roots i ⊎ Mem i list
  pub so_far : AddedSoFar rows roots list (count_of added)
  pub few : (l : ℕ) → count_of added l ≤ length list

-- what `mark_added` asks: some roots, and marks and counts of which this holds
pub record MarkAddedPre (W : View) (reached added : List ℕ) (b : ℕ) : Type 0 where
  pub good : Good W
  pub arrow : Arrow (rows_of W) b
  pub room : W.rows ≤ 32 * length reached
  pub counts-size : length added ≡ LEVELS
  pub roots : List ℕ
  pub added-counts : AddedCounts (rows_of W) roots reached added

-- what `mark_added` leaves: the rows that the arrow reaches are marked too, and counted whatever the roots are
pub record MarkAddedPost (rows : Rows) (reached reached' added added' : List ℕ) (b : ℕ) : Type 0 where
  pub marks : Marks rows reached reached' b
  pub added-counts : (roots : List ℕ) → AddedCounts rows roots reached added → AddedCounts rows roots reached' added'
