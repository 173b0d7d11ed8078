-- The call by the book, with the list that is lent: checks 3 and 7, then the outcome of its steps. It changes nothing in the book. Assumes
-- nothing.
use Rattle.std.specs.Prelude.{Bool, cond, ◌&&◌, List, ℕ, ltb, length}
use Rattle.std.proofs.Math.Option.{Option, none, some}
use Rattle.mucalculus.specs.Form.{Pairs}
use Rattle.book.specs.Book.{Book, registers, relations, live_of}
use Rattle.book.specs.Table.{Reply}
use Rattle.book.specs.Leaves.{plain}
use Rattle.paths.specs.Runs.{Outcome, full, none as no_run, short, found, outcome, written}

-- what the call returns, and the list after it
pub record Ended : Type 0 where
  pub reply : Reply
  pub list : List ℕ

-- "number, zeros"; "every refusal keeps the list"
abbrev pub refuse : ℕ → List ℕ → Ended
refuse k list = record { reply = plain k; list = list }

-- "New numbers: 10, no run exists; 11, the list is too short for the run"; "The call returns their number"
abbrev pub ends : Outcome → List ℕ → Ended
ends full list = refuse 8 list
ends no_run list = refuse 10 list
ends short list = refuse 11 list
ends (found l) list = record { reply = record { number = 0; rounds = 0; peak = 0; value = length l }; list = written l list }

-- check 7, then the steps
abbrev pub over_filled : Book → Option (List Bool) → Option (List Bool) → Option Pairs → List ℕ → Ended
over_filled bk none B R list = refuse 7 list
over_filled bk (some A) none R list = refuse 7 list
over_filled bk (some A) (some B) none list = refuse 7 list
over_filled bk (some A) (some B) (some R) list = ends (outcome bk.n bk.N (live_of bk) R A B (length list)) list

-- "Given registers a and b and a relation": check 3, then the others
abbrev pub shortest : Book → ℕ → ℕ → ℕ → List ℕ → Ended
shortest bk a b t list =
    let more = over_filled bk (bk.reg a) (bk.reg b) (bk.rel t) list in
    let kept = refuse 3 list in
    cond (ltb a registers && (ltb b registers && ltb t relations)) more kept
