-- The search for a run that fits both logs: all sets, then the run's states, where the list has room. Assumes nothing.
use Rattle.std.specs.Prelude.{◌≡◌, List, ℕ, length, Result, Ok, Err}
use Rattle.layout.specs.declared.Refusal.{Refusal}
use Rattle.layout.specs.Refusals.{refusal_number}
use Rattle.layout.specs.View.{View}
use Rattle.book.specs.Table.{Reply}
use Rattle.book.specs.Leaves.{plain}
use Rattle.paths.specs.Runs.{Outcome}
use Rattle.layers.specs.Scene.{Scene, Start}
use Rattle.layers.specs.Pass.{Steps}
use Rattle.logs.specs.Runs.{moment_at, log_outcome}
use Rattle.logs.specs.Call.{last_moment, log_ends}
use Rattle.moments.specs.Sets.{Logs}

-- "For each answer that is an enum, a definition gives this paper's number and values for each of the enum's cases"
abbrev pub logged_reply : Result (Unit {0}) Refusal → Reply
logged_reply (Ok _) = plain 0
logged_reply (Err e) = plain (refusal_number e)

-- the answer and the list are the outcome's
pub record OutcomeTold (o : Outcome) (r : Result (Unit {0}) Refusal) (old new : List ℕ) : Type 0 where
  pub reply : logged_reply r ≡ (log_ends o old).reply
  pub list : new ≡ (log_ends o old).list

pub record FindPre (n N limit : ℕ) (W : View) (t v : ℕ) (one two : List ℕ) : Type 0 where
  pub start : Start n N limit W t v
  pub scene : Scene n W t v
  pub logs : Logs one two

pub record Finds (n limit : ℕ) (W X : View) (t v : ℕ) (S : Scene n W t v) (one two old new : List ℕ)
    (r : Result (Unit {0}) Refusal) : Type 0 where
  pub steps : Steps n W X
  pub told : OutcomeTold (log_outcome n limit S.fs S.R S.B (moment_at one two) (last_moment one) (length old)) r old new

abbrev pub FindPost : ℕ → ℕ → View → View → ℕ → ℕ → List ℕ → List ℕ → List ℕ → List ℕ → Result (Unit {0}) Refusal → Type 0
FindPost n limit W X t v one two old new r =
    (S : Scene n W t v) → Finds n limit W X t v S one two old new r
