-- What the operations ask of the words and promise of them, by name. `before` and `after` are the lists of words at a call and at its
-- return. Assumes nothing.
use Rattle.std.specs.Prelude.{◌≡◌, true, false, ℕ, ◌<◌, min, List, Option, Result}
use Rattle.diagram.specs.Level.{Fn}
use Rattle.diagram.specs.Rows.{Rows, Arrow, den}
use Rattle.diagram.specs.Even.{ReadsOn, even}
use Rattle.diagram.specs.Steps.{low_at, high_at}
use Rattle.layout.specs.View.{view}
use Rattle.layout.specs.Arrows.{is_row, row_of, is_marked}
use Rattle.rows.specs.Used.{rows_of}
use Rattle.table.specs.declared.Full.{Full}
use Rattle.operations.specs.Work.{Ready, Known, Worked}
use Rattle.operations.specs.Open.{ReachesLevel}
use Rattle.operations.specs.Odd.{JoinPost}
use Rattle.operations.specs.Pairs.{BothRows}

-- the rows of a table in words
abbrev pub rows_in : (rows : ℕ) (words : List ℕ) → Rows
rows_in rows words = rows_of (view rows words)

-- the function of an arrow there
abbrev pub den_in : (levels rows : ℕ) (words : List ℕ) (a : ℕ) → Fn
den_in levels rows words a = den levels (rows_in rows words) a

-- the words are ready for an operation within the limit on an arrow
abbrev pub ArrowPre : (levels rows limit : ℕ) (words : List ℕ) (a : ℕ) → Type 0
ArrowPre levels rows limit words a = Ready levels rows limit (view rows words) × Arrow (rows_in rows words) a

-- on an arrow to a row
abbrev pub RowPre : (levels rows limit : ℕ) (words : List ℕ) (a : ℕ) → Type 0
RowPre levels rows limit words a = Ready levels rows limit (view rows words) × Arrow (rows_in rows words) a × (is_row a ≡ true)

-- on two arrows
abbrev pub PairPre : (levels rows limit : ℕ) (words : List ℕ) (a b : ℕ) → Type 0
PairPre levels rows limit words a b = Ready levels rows limit (view rows words) × Arrow (rows_in rows words) a × Arrow (rows_in rows words) b

-- on a lesser and a greater arrow to rows
abbrev pub PairRowsPre : (levels rows limit : ℕ) (words : List ℕ) (lo hi : ℕ) → Type 0
PairRowsPre levels rows limit words lo hi =
    Ready levels rows limit (view rows words) × Arrow (rows_in rows words) lo × Arrow (rows_in rows words) hi × BothRows lo hi

-- SHIFT: on an arrow whose function reads even levels only
abbrev pub ShiftPre : (levels rows limit : ℕ) (words : List ℕ) (a : ℕ) → Type 0
ShiftPre levels rows limit words a =
    Ready levels rows limit (view rows words) × Arrow (rows_in rows words) a × ReadsOn even (den_in levels rows words a)

-- on such an arrow to a row, without a NOT
abbrev pub ShiftRowPre : (levels rows limit : ℕ) (words : List ℕ) (a : ℕ) → Type 0
ShiftRowPre levels rows limit words a =
    Ready levels rows limit (view rows words) × Arrow (rows_in rows words) a × ReadsOn even (den_in levels rows words a) × (is_row a ≡ true)
    × (is_marked a ≡ false)

-- EXISTS: on an arrow, at one level x
abbrev pub LevelPre : (levels rows limit : ℕ) (words : List ℕ) (x a : ℕ) → Type 0
LevelPre levels rows limit words x a = Ready levels rows limit (view rows words) × Arrow (rows_in rows words) a × (x < levels)

-- on an arrow to a row of a level up to x
abbrev pub LevelRowPre : (levels rows limit : ℕ) (words : List ℕ) (x a : ℕ) → Type 0
LevelRowPre levels rows limit words x a =
    Ready levels rows limit (view rows words) × Arrow (rows_in rows words) a × (x < levels) × ReachesLevel (rows_in rows words) x a

-- what is known before any work of `op` of an arrow: an arrow for it; or nothing, and then R
abbrev pub KnownOf : (op : Fn → Fn) (levels rows : ℕ) (words : List ℕ) (a : ℕ) (found : Option ℕ) (R : Type 0) → Type 0
KnownOf op levels rows words a found R = Known levels (view rows words) found (op (den_in levels rows words a)) R

-- `Worked` of the words: r is an arrow for F, or the rows within the limit ran out; rows were only added, and nothing else is
-- touched
abbrev pub FnPost : (levels rows limit : ℕ) (before after : List ℕ) (r : Result ℕ Full) (F : Fn) → Type 0
FnPost levels rows limit before after r F = Worked levels rows limit (view rows before) (view rows after) r F

-- an operation on one arrow: r is for `op` of what the arrow denotes before
abbrev pub OnePost : (op : Fn → Fn) (levels rows limit : ℕ) (before after : List ℕ) (a : ℕ) (r : Result ℕ Full) → Type 0
OnePost op levels rows limit before after a r = FnPost levels rows limit before after r (op (den_in levels rows before a))

-- and on two
abbrev pub TwoPost : (op : Fn → Fn → Fn) (levels rows limit : ℕ) (before after : List ℕ) (a b : ℕ) (r : Result ℕ Full) → Type 0
TwoPost op levels rows limit before after a b r =
    FnPost levels rows limit before after r (op (den_in levels rows before a) (den_in levels rows before b))

-- the parts of a row are joined: by OR at an odd level, by a row at an even one
abbrev pub JoinedPost : (levels rows limit : ℕ) (before after : List ℕ) (level low high : ℕ) (r : Result ℕ Full) → Type 0
JoinedPost levels rows limit before after level low high r =
    JoinPost levels rows limit (view rows before) (view rows after) level low high r

-- the lesser level of two arrows to rows
abbrev pub top_level : (rows : ℕ) (words : List ℕ) (lo hi : ℕ) → ℕ
top_level rows words lo hi = min ((rows_in rows words).level (row_of lo)) ((rows_in rows words).level (row_of hi))

-- low and high are the halves of an arrow at a level
abbrev pub HalvesAt : (rows : ℕ) (words : List ℕ) (level a low high : ℕ) → Type 0
HalvesAt rows words level a low high = (low ≡ low_at (rows_in rows words) level a) × (high ≡ high_at (rows_in rows words) level a)
