-- What collecting asks of the words and promises of them, by name: a name with `In` says of words what the name without it says of their
-- view. Assumes nothing.
use mathlib.Core.List.{List, ◌++◌, Memᴰ as Mem}
use Rattle.std.specs.Prelude.{ℕ, ◌≤◌, ◌<◌, length}
use Rattle.layout.specs.Places.{MAX_ROWS, USED, VALID, ROOTS_END, words_for}
use Rattle.layout.specs.View.{view, list_of, put_header}
use Rattle.rows.specs.Bits.{On}
use Rattle.rows.specs.Roots.{RefsPre, MarksIn, MarksHeld}
use Rattle.collect.specs.Lent.{LentPre, live}
use Rattle.collect.specs.Gather.{Part}
use Rattle.collect.specs.Freed.{Freed}

-- what is reached from the lent arrows is marked
abbrev pub MarksLent : (rows : ℕ) (words before after roots : List ℕ) → Type 0
MarksLent rows words before after roots = MarksIn rows words before after (λ a. Mem a roots)

-- from V, registers and relations
abbrev pub MarksFilled : (rows : ℕ) (words before after : List ℕ) → Type 0
MarksFilled rows words before after = MarksHeld rows words before after VALID ROOTS_END

-- from all that is live: these and the lent arrows
abbrev pub MarksLive : (rows : ℕ) (words before after roots : List ℕ) → Type 0
MarksLive rows words before after roots = MarksIn rows words before after (λ a. Mem a (live (view rows words) roots))

-- what is live can be marked
abbrev pub MarkLivePre : (rows : ℕ) (words marks roots : List ℕ) → Type 0
MarkLivePre rows words marks roots =
    RefsPre (view rows words) (length marks) VALID ROOTS_END × LentPre (view rows words) (length marks) roots

-- a table of so many rows, and the list of the first `total` used ones
abbrev pub HeadsPre : (rows : ℕ) (words : List ℕ) (total : ℕ) → Type 0
HeadsPre rows words total =
    (total ≤ rows) × (rows ≤ MAX_ROWS) × (words_for rows ≤ length words) × ((k : ℕ) → k < total → list_of rows words k < rows)

-- the marked ones of the first `total` rows are gathered and linked anew
abbrev pub RegatheredIn : (rows : ℕ) (before after marks : List ℕ) (total : ℕ) → Type 0
RegatheredIn rows before after marks total = Part (put_header (view rows before) USED total) (λ j. On marks j) total (view rows after)

-- the rows that are left are those reached from what is live: registers, relations and two lists of roots
abbrev pub FreedIn : (rows : ℕ) (before after roots more : List ℕ) → Type 0
FreedIn rows before after roots more = Freed (view rows before) (view rows after) (live (view rows before) (roots ++ more))
