-- The cause of each outcome. Assumes nothing.
use Rattle.std.specs.Prelude.{◌≡◌, Bool, true, false, List, ℕ, ◌^◌, ◌≤◌, ◌<◌, T, length}
use Rattle.mucalculus.specs.Form.{Pairs}
use Rattle.diagram.specs.Level.{Fn}
use Rattle.book.specs.Run.{fit}
use Rattle.paths.specs.Runs.{is_run, Shortest, path_needs, Outcome, full, none, short, found}

-- what each outcome says, of a search for a best one of some runs: whether the steps fit, which lists are runs, and which are best
abbrev pub CauseOf : Bool → (List ℕ → Type 0) → (List ℕ → Type 0) → ℕ → Outcome → Type 0
CauseOf fits Run Best room full = fits ≡ false
CauseOf fits Run Best room none = (fits ≡ true) × ((l : List ℕ) → Run l → ⊥)
CauseOf fits Run Best room short = (fits ≡ true) × ((l : List ℕ) × Best l × (room < length l))
CauseOf fits Run Best room (found l) = (fits ≡ true) × Best l × (length l ≤ room)

-- here: runs from A into B, and the shortest that is least
abbrev pub Cause : ℕ → ℕ → List Fn → Pairs → List Bool → List Bool → ℕ → Outcome → Type 0
Cause n N live R A B room o =
    CauseOf (fit N (path_needs n live R A B)) (λ l. T (is_run (2 ^ n) R A B l)) (λ l. Shortest (2 ^ n) R A B l) room o
