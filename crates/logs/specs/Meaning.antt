-- The call by the book in plain words: what an answered call writes, and what 10 and 11 say. Assumes nothing.
use Rattle.std.specs.Prelude.{◌≡◌, Bool, List, ℕ, suc, ◌^◌, ◌≤◌, ◌<◌, T, length, get_or}
use Rattle.mucalculus.specs.Sets.{mem}
use Rattle.mucalculus.specs.Form.{Pairs}
use Rattle.mucalculus.specs.Means.{pair}
use Rattle.paths.specs.Runs.{Least, written}
use Rattle.paths.specs.Call.{Ended}
use Rattle.logs.specs.Runs.{Moment, fits, fits_both}

-- "some run of a relation with k states fits both logs": k states, each one of n bits that exists and fits both entries of its moment, and
-- each next one a next state of the one before
pub record LoggedRun (n : ℕ) (R : Pairs) (E : List Bool) (M : ℕ → Moment) (k : ℕ) (l : List ℕ) : Type 0 where
  pub size : length l ≡ k
  pub state : (i : ℕ) → i < k → get_or l i 0 < 2 ^ n
  pub exists : (i : ℕ) → i < k → T (mem E (get_or l i 0))
  pub agrees : (i : ℕ) → i < k → T (fits_both (M i) (get_or l i 0))
  pub next : (i : ℕ) → suc i < k → T (pair R (get_or l i 0) (get_or l (suc i) 0))

-- over relation R within V, which is E, and k moments, with a list before and what the call ends with
pub record LogMeant (n : ℕ) (R : Pairs) (E : List Bool) (M : ℕ → Moment) (k : ℕ) (lent : List ℕ) (e : Ended) : Type 0 where
  -- a run that fits both logs, the least possible at each place in turn, is written
  pub answered : e.reply.number ≡ 0
      → (l : List ℕ) × LoggedRun n R E M k l × ((m : List ℕ) → LoggedRun n R E M k m → Least l m) × (length l ≤ length lent)
      × (e.list ≡ written l lent)
  pub no-run : e.reply.number ≡ 10 → (l : List ℕ) → LoggedRun n R E M k l → ⊥
  pub too_short : e.reply.number ≡ 11 → ((l : List ℕ) × LoggedRun n R E M k l) × (length lent < k)
  pub kept : 1 ≤ e.reply.number → e.list ≡ lent
