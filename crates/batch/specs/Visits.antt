-- ROW READS: "the number of distinct pairs of a row and the bit answers that led to it, over the listed states". Only bits that rows ask
-- are answered: a level that an arrow skips adds no answer, and a constant is no row. Assumes nothing.
use Rattle.std.specs.Prelude.{Bool, false, cond, ◌&&◌, ◌||◌, List, [], ◌∷◌, ◌++◌, map, ℕ, zero, suc, ◌+◌, ◌/◌, eqb}
use Rattle.mucalculus.specs.Sets.{same}
use Rattle.mucalculus.specs.Means.{bit}
use Rattle.diagram.specs.Rows.{Rows, target, child}

-- a row and the bit answers that led to it, the first one first
abbrev pub Visit : Type 0
Visit = ℕ × List Bool

-- the same row, after one more answer at the start
abbrev pub after : Bool → Visit → Visit
after b v = (v.0, b ∷ v.1)

-- the rows that the question for state s reads from what an arrow leads to (0 the constant, i + 1 row i), at most `fuel` of them: each asks
-- the bit of its level, and the answer chooses its arrow
unfoldable pub visits : ℕ → Rows → ℕ → ℕ → List Visit
visits zero rows k s = []
visits (suc fuel) rows zero s = []
visits (suc fuel) rows (suc i) s =
    let b = bit (rows.level i / 2) s in
    (i, []) ∷ map (after b) (visits fuel rows (target (child rows i b)) s)

-- for all the states
unfoldable pub visits_all : ℕ → Rows → ℕ → List ℕ → List Visit
visits_all m rows a [] = []
visits_all m rows a (s ∷ ss) = visits m rows (target a) s ++ visits_all m rows a ss

-- the same row after the same answers
abbrev pub same_visit : Visit → Visit → Bool
same_visit v w = eqb v.0 w.0 && same v.1 w.1

-- a visit is among some
abbrev pub listed : Visit → List Visit → Bool
listed v [] = false
listed v (w ∷ ws) = same_visit v w || listed v ws

-- how many different ones a list has
unfoldable pub distinct : List Visit → ℕ
distinct [] = 0
distinct (v ∷ vs) = let more = distinct vs in cond (listed v vs) more (suc more)

-- the row reads of the states asked together, from arrow a of a table over m levels
unfoldable pub row_reads : ℕ → Rows → ℕ → List ℕ → ℕ
row_reads m rows a states = distinct (visits_all m rows a states)

-- "the sum over single questions"
abbrev pub singly : ℕ → Rows → ℕ → List ℕ → ℕ
singly m rows a [] = 0
singly m rows a (s ∷ ss) = row_reads m rows a (s ∷ []) + singly m rows a ss
