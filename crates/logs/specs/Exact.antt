-- The cause of each outcome. Assumes nothing.
use Rattle.std.specs.Prelude.{Bool, List, ℕ, T}
use Rattle.mucalculus.specs.Form.{Pairs}
use Rattle.diagram.specs.Level.{Fn}
use Rattle.book.specs.Run.{fit}
use Rattle.paths.specs.Runs.{Outcome}
use Rattle.paths.specs.Exact.{CauseOf}
use Rattle.logs.specs.Runs.{Moment, is_through, LeastThrough, sets_of, log_needs}

-- what each outcome says: runs of j + 1 states that fit both logs, and the one of them that is least
abbrev pub LogCause : ℕ → ℕ → List Fn → Pairs → List Bool → (ℕ → Moment) → ℕ → ℕ → Outcome → Type 0
LogCause n N live R E M j room o =
    CauseOf (fit N (log_needs n live R E M j)) (λ l. T (is_through R (sets_of n E M) j l)) (λ l. LeastThrough R (sets_of n E M) j l) room o
