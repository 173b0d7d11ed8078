-- Marking from many roots. Assumes nothing.
use Rattle.std.specs.Prelude.{◌≡◌, ◌⊎◌, List, [], ◌∷◌, ℕ, zero, suc, ◌≤◌, ◌<◌}
use Rattle.diagram.specs.Rows.{Rows, Arrow}
use Rattle.diagram.specs.Reach.{Reach}
use Rattle.layout.specs.Places.{HEADER}
use Rattle.layout.specs.View.{View, view}
use Rattle.rows.specs.Used.{rows_of}
use Rattle.rows.specs.Bits.{On}
use Rattle.rows.specs.Mark.{OnArrow, Closed, Base}

-- exactly the rows that the arrows in `root` reach were marked
pub record MarksAll (rows : Rows) (m m' : List ℕ) (root : ℕ → Type 0) : Type 0 where
  pub kept : (i : ℕ) → On m i → On m' i
  pub has : (a : ℕ) → root a → OnArrow m' a
  pub only : (i : ℕ) → On m' i → On m i ⊎ ((a : ℕ) × root a × Reach rows (a ∷ []) i)
  pub closed : Closed rows m → Closed rows m'

-- a register or relation: 0, or one more than an arrow
abbrev pub Ref : Rows → ℕ → Type 0
Ref rows zero = Unit {0}
Ref rows (suc a) = Arrow rows a

-- the arrows of the header's words from `from` up to, and not with, k
pub record Held (w : View) (start k a : ℕ) : Type 0 where
  pub at : ℕ
  pub from : start ≤ at
  pub below : at < k
  pub holds : w.header at ≡ suc a

-- what is reached from the arrows of S is marked beside what was marked before
abbrev pub MarksIn : (rows : ℕ) (words before after : List ℕ) (S : ℕ → Type 0) → Type 0
MarksIn rows words before after S = MarksAll (rows_of (view rows words)) before after S

-- from the root words of a range
abbrev pub MarksHeld : (rows : ℕ) (words before after : List ℕ) (start end : ℕ) → Type 0
MarksHeld rows words before after start end = MarksIn rows words before after (Held (view rows words) start end)

pub record RefPre (w : View) (size r : ℕ) : Type 0 where
  pub base : Base w size
  pub ref : Ref (rows_of w) r

pub record RefsPre (w : View) (size start stop : ℕ) : Type 0 where
  pub base : Base w size
  pub order : start ≤ stop
  pub within : stop ≤ HEADER
  pub ref : (h : ℕ) → start ≤ h → h < stop → Ref (rows_of w) (w.header h)
