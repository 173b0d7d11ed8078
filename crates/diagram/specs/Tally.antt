-- Counts by level, as a survey of a product leaves them: their sums, and the lists that they count. Assumes nothing.
use Rattle.std.specs.Prelude.{Bool, cond, List, [], ◌∷◌, ℕ, zero, suc, ◌+◌, eqb}
use Rattle.diagram.specs.Rows.{Rows, level_of}

-- The sum of the counts of levels below k, and of the d levels from k on.
unfoldable pub sum_to : (ℕ → ℕ) → ℕ → ℕ
sum_to h zero = 0
sum_to h (suc k) = h k + sum_to h k

unfoldable pub sum_from : (ℕ → ℕ) → ℕ → ℕ → ℕ
sum_from h k zero = 0
sum_from h k (suc d) = h k + sum_from h (suc k) d

-- Those of a list that pass a test.
unfoldable pub those : (ℕ → Bool) → List ℕ → List ℕ
those p [] = []
those p (x ∷ xs) = let more = those p xs in cond (p x) (x ∷ more) more

-- How many arrows of a list lead to level l, of m levels; how many rows of a list are of level l.
abbrev pub arrows_at : ℕ → Rows → List ℕ → ℕ → List ℕ
arrows_at m rows cs l = those (λ c. eqb (level_of m rows c) l) cs

abbrev pub rows_at : Rows → List ℕ → ℕ → List ℕ
rows_at rows is l = those (λ i. eqb (rows.level i) l) is
