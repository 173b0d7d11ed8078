-- The search over the words of a table: what it answers is the outcome of the book that the table stands for. Assumes nothing.
use Rattle.std.specs.Prelude.{◌≡◌, List, ℕ, suc, ◌+◌, ◌<◌, length, Result}
use Rattle.mucalculus.specs.Form.{inside}
use Rattle.layout.specs.declared.Refusal.{Refusal}
use Rattle.layout.specs.Places.{VALID, FIRST_RELATION}
use Rattle.layout.specs.View.{View}
use Rattle.diagram.specs.Keep.{Keeps}
use Rattle.rows.specs.Used.{rows_of}
use Rattle.rows.specs.Sound.{Sound}
use Rattle.rows.specs.Filled.{filled}
use Rattle.operations.specs.Work.{OpFrame}
use Rattle.book.specs.Book.{relations, live_of}
use Rattle.path_calls.specs.Search.{book_in, Opens}
use Rattle.logs.specs.Runs.{moment_at, log_outcome}
use Rattle.logs.specs.Call.{last_moment}
use Rattle.moments.specs.Sets.{Logs}
use Rattle.moments.specs.Find.{OutcomeTold}

-- relation rt and V hold these arrows
pub record Named (W : View) (rt t v : ℕ) : Type 0 where
  pub t_in : rt < relations
  pub t_is : W.header (FIRST_RELATION + rt) ≡ suc t
  pub v_is : W.header VALID ≡ suc v

pub record SearchPre (n N limit : ℕ) (W : View) (t v : ℕ) (one two : List ℕ) : Type 0 where
  pub opens : Opens n N limit W
  pub rt : ℕ
  pub named : Named W rt t v
  pub logs : Logs one two

-- a sound table, nothing touched but unneeded rows, the index and remembered results, and the book's outcome
pub record Searched (n limit : ℕ) (W X : View) (rt : ℕ) (one two old new : List ℕ) (r : Result (Unit {0}) Refusal) : Type 0 where
  pub sound : Sound X
  pub frame : OpFrame W X
  pub kept : Keeps (rows_of W) (rows_of X) (filled W)
  pub told : OutcomeTold
      (log_outcome n limit (live_of (book_in W)) (inside ((book_in W).rel rt)) (book_in W).valid (moment_at one two) (last_moment one) (length old))
      r old new

abbrev pub SearchPost : ℕ → ℕ → View → View → ℕ → ℕ → List ℕ → List ℕ → List ℕ → List ℕ → Result (Unit {0}) Refusal → Type 0
SearchPost n limit W X t v one two old new r =
    (rt : ℕ) → Named W rt t v → Searched n limit W X rt one two old new r
