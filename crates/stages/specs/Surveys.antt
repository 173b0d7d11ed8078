-- The arrows that are followed from one, in a bitmap with a bit for each arrow, counted by level. What `survey` asks and leaves.
-- Assumes nothing.
use Rattle.std.specs.Prelude.{◌≡◌, ◌⊎◌, ℕ, ◌+◌, ◌*◌, ◌≤◌, length}
use mathlib.Core.List.{List, [], Memᴰ as Mem}
use Rattle.diagram.specs.Rows.{Rows, Leads, Arrow, den}
use Rattle.diagram.specs.Count.{NoDup}
use Rattle.diagram.specs.Post.{Denotes}
use Rattle.diagram.specs.Odd.{odd_f, Follows}
use Rattle.diagram.specs.Survey.{Survey}
use Rattle.layout.specs.View.{View}
use Rattle.rows.specs.Used.{rows_of}
use Rattle.rows.specs.Bits.{On}
use Rattle.rows.specs.Mark.{OnArrow}
use Rattle.operations.specs.Work.{Ready}
use Rattle.stages.specs.Levels.{LEVELS, count_of}
use Rattle.stages.specs.AddedCounts.{AddedCounts, MarkAddedPre}

-- EXISTS at every odd level of arrow c is an arrow to a marked row, or a constant
pub record Cover (m : ℕ) (rows : Rows) (reached : List ℕ) (c : ℕ) : Type 0 where
  pub by : ℕ
  pub denotes : Denotes m rows by (odd_f (den m rows c))
  pub marked : OnArrow reached by

-- the arrows with a bit are closed under what is followed, counted by level, and covered by marked rows
pub record Surveys (m : ℕ) (rows : Rows) (seen above reached : List ℕ) : Type 0 where
  pub list : List ℕ
  pub once : NoDup list
  pub arrow : (c : ℕ) → Mem c list → Arrow rows c
  pub marked : (c : ℕ) → Mem c list → On seen c
  pub all : (c : ℕ) → On seen c → Mem c list
  pub survey : Survey m rows [] list (count_of above)
  pub covers : (c : ℕ) → Mem c list → Cover m rows reached c
  pub few : (l : ℕ) → count_of above l ≤ length list

-- what `survey` asks
pub record SurveyPre (m N : ℕ) (W : View) (seen above reached added : List ℕ) (a : ℕ) : Type 0 where
  pub ready : Ready m N 0 W
  pub seen-room : 2 * N + 2 ≤ 32 * length seen
  pub above-size : length above ≡ LEVELS
  pub surveys : Surveys m (rows_of W) seen above reached
  pub marking : MarkAddedPre W reached added a

-- what it leaves where it answers true: the arrows that are followed from a have a bit too, and the rows that cover them are marked
pub record SurveyPost (m : ℕ) (rows : Rows) (seen seen' above above' reached reached' added added' : List ℕ) (a : ℕ) : Type 0 where
  pub kept : (c : ℕ) → On seen c → On seen' c
  pub has : (i : ℕ) → Leads a i → On seen' a
  pub only : (c : ℕ) → On seen' c → On seen c ⊎ Follows rows a c
  pub surveys : Surveys m rows seen' above' reached'
  pub marked_more : (i : ℕ) → On reached i → On reached' i
  pub added-counts : (roots : List ℕ) → AddedCounts rows roots reached added → AddedCounts rows roots reached' added'
