-- What the checks ask of the words and promise of them, by name: a name with `In` says of words what the name without it says of their
-- view. Assumes nothing.
use Rattle.std.specs.Prelude.{◌≡◌, List, ℕ, ◌+◌, ◌*◌, ◌≤◌, ◌<◌, length}
use Rattle.diagram.specs.Rows.{row, level_of}
use Rattle.layout.specs.Places.{HEADER, words_for, BITS, ROWS, LAYOUT, CURRENT, RANK}
use Rattle.layout.specs.View.{view, header_of, cell_of}
use Rattle.rows.specs.Used.{Sizes, rows_of}
use Rattle.rows.specs.Roots.{Ref}
use Rattle.soundness.specs.Cells.{Tabled}
use Rattle.soundness.specs.Contained.{MANY}
use Rattle.soundness.specs.Lists.{ROOM, FOUND}

-- every root word of a range is empty or an arrow
abbrev pub RefsIn : (rows : ℕ) (words : List ℕ) (start end : ℕ) → Type 0
RefsIn rows words start end = (h : ℕ) → start ≤ h → h < end → Ref (rows_of (view rows words)) (header_of words h)

-- the sizes in the header are those of a table, and the words have room for it
abbrev pub SizesIn : (words : List ℕ) → Type 0
SizesIn words = Sizes (header_of words BITS) (header_of words ROWS) (length words)

-- the words have the sizes of a table of so many rows, in the current layout
abbrev pub LaidPre : (rows : ℕ) (words : List ℕ) → Type 0
LaidPre rows words = Sizes (header_of words BITS) rows (length words) × (header_of words ROWS ≡ rows) × (header_of words LAYOUT ≡ CURRENT)

-- a list has a place for the rank of row i
abbrev pub RankPre : (rows : ℕ) (words memo : List ℕ) (i : ℕ) → Type 0
RankPre rows words memo i = (i < rows) × (words_for rows ≤ length words) × (cell_of rows words i RANK < length memo)

-- the cells of a row's function from the base on
abbrev pub TabledIn : (rows : ℕ) (words : List ℕ) (base shift up i cells : ℕ) → Type 0
TabledIn rows words base shift up i cells = Tabled (2 * (view rows words).header BITS) (rows_of (view rows words)) base shift up (row i) cells

-- the cells of an arrow whose levels count higher by the shift
abbrev pub SetTabledIn : (rows : ℕ) (words : List ℕ) (base shift b cells : ℕ) → Type 0
SetTabledIn rows words base shift b cells = Tabled (2 * (view rows words).header BITS) (rows_of (view rows words)) base shift shift b cells

-- the level of an arrow
abbrev pub level_in : (rows : ℕ) (words : List ℕ) (a : ℕ) → ℕ
level_in rows words a = level_of (2 * header_of words BITS) (rows_of (view rows words)) a

-- a list has room for the roots in some words of the header
abbrev pub ListRefsPre : (words list found : List ℕ) (start end : ℕ) → Type 0
ListRefsPre words list found start end =
    (start ≤ end) × (end ≤ start + MANY) × (end ≤ HEADER) × (HEADER ≤ length words) × (length list ≡ ROOM) × (length found ≡ FOUND)
