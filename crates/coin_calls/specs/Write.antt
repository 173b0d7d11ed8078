-- The writing of the run: what it asks, and what stands in the two lists then. Assumes nothing.
use Rattle.std.specs.Prelude.{◌≡◌, Bool, List, ℕ, ◌+◌, ◌-◌, ◌%◌, ◌^◌, ◌≤◌, ◌<◌, T, length}
use Rattle.layout.specs.View.{View}
use Rattle.coins.specs.Runs.{PricedStep, mixed_into}
use Rattle.coins.specs.Cost.{CREDIT, cost}
use Rattle.coins.specs.Marks.{Standing}
use Rattle.coins.specs.Post.{Written}
use Rattle.coin_search.specs.Words.{mark_of, marks_of}
use Rattle.coin_search.specs.Hall.{leads_at, Hall}

-- what is asked: f is marked, its mark says the number of steps, and the lists have room
pub record WriteRunPre (W : View) (n : ℕ) (prices w states relations : List ℕ) (f steps : ℕ) : Type 0 where
  pub hall : Hall W n prices w
  pub goal : ℕ → Bool
  pub count : ℕ
  pub standing : Standing (2 ^ n) (leads_at W) goal prices (marks_of w count)
  pub below : f < 2 ^ n
  pub marked : 1 ≤ mark_of w f
  pub steps_are : (mark_of w f - 1) % CREDIT ≡ steps
  pub for_states : steps < length states
  pub for_steps : steps ≤ length relations

-- a run from f into B that costs what its mark says is written
pub record RunWritten (W : View) (n : ℕ) (B : ℕ → Bool) (prices w states states' relations relations' : List ℕ) (f steps : ℕ) : Type 0 where
  pub run : List PricedStep
  pub is_run : T (mixed_into (2 ^ n) (leads_at W) B f run)
  pub exact : mark_of w f ≡ cost prices run + 1
  pub length-is : length run ≡ steps
  pub lists : Written f run states states' relations relations'

-- whatever the goal that the marks stand for
abbrev pub WriteRunGives : View → ℕ → List ℕ → List ℕ → List ℕ → List ℕ → List ℕ → List ℕ → ℕ → ℕ → Type 0
WriteRunGives W n prices w states states' relations relations' f steps =
    (B : ℕ → Bool) (count : ℕ) → Standing (2 ^ n) (leads_at W) B prices (marks_of w count)
    → RunWritten W n B prices w states states' relations relations' f steps
