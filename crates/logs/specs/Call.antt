-- The call by the book, with the list that is lent: checks 1, 3 and 7, then the outcome of its steps. It changes nothing in the book.
-- Assumes nothing.
use Rattle.std.specs.Prelude.{Bool, cond, ◌&&◌, List, ℕ, ◌-◌, ◌/◌, ◌%◌, eqb, leb, ltb, length}
use Rattle.std.proofs.Math.Option.{Option, none, some}
use Rattle.mucalculus.specs.Form.{Pairs}
use Rattle.book.specs.Book.{Book, relations, live_of}
use Rattle.book.specs.Leaves.{plain}
use Rattle.paths.specs.Runs.{Outcome, full, none as no_run, short, found, written}
use Rattle.paths.specs.Call.{Ended, refuse}
use Rattle.logs.specs.Runs.{moment_at, log_outcome}

-- "Each log has k entries, 1 to 1,024": a log lends two numbers for each
abbrev pub logs_fit : ℕ → ℕ → Bool
logs_fit one two = eqb one two && (eqb (one % 2) 0 && (leb 1 one && leb one 2_048))

-- the place of the last moment, from 0 on
abbrev pub last_moment : List ℕ → ℕ
last_moment one = length one / 2 - 1

-- nothing is returned beside the number: the run has as many states as the logs have entries
abbrev pub log_ends : Outcome → List ℕ → Ended
log_ends full list = refuse 8 list
log_ends no_run list = refuse 10 list
log_ends short list = refuse 11 list
log_ends (found l) list = record { reply = plain 0; list = written l list }

-- check 7, then the steps
abbrev pub logged_over : Book → Option Pairs → List ℕ → List ℕ → List ℕ → Ended
logged_over bk none one two list = refuse 7 list
logged_over bk (some R) one two list =
    log_ends (log_outcome bk.n bk.N (live_of bk) R bk.valid (moment_at one two) (last_moment one) (length list)) list

-- "A log length out of range or unequal gives 1"; check 3, then the others
abbrev pub logged : Book → ℕ → List ℕ → List ℕ → List ℕ → Ended
logged bk t one two list =
    let more = logged_over bk (bk.rel t) one two list in
    let kept = refuse 3 list in
    cond (logs_fit (length one) (length two)) (cond (ltb t relations) more kept) (refuse 1 list)
