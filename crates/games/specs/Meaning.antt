-- The two calls in plain words. Assumes nothing.
use Rattle.std.specs.Prelude.{◌≡◌, ◌⊎◌, Bool, false, List, ℕ, ◌≤◌, ◌<◌, T}
use Rattle.mucalculus.specs.Sets.{mem}
use Rattle.mucalculus.specs.Binder.{Least}
use Rattle.mucalculus.specs.Form.{Pairs}
use Rattle.mucalculus.specs.Means.{pair}
use Rattle.games.specs.Game.{forcing, enters}
use Rattle.games.specs.Plays.{Forces, Stays}

-- A is what the first call stores, for the guest's moves G, the machine's moves M and the goal B over k states
pub record ForcedSet (k : ℕ) (G M : Pairs) (B A : List Bool) : Type 0 where
  -- "those in the goal, and those where the guest has a move and after every guest move some machine move leads back into the set, least
  -- such set"
  pub least : Least (forcing k G M B) A
  -- "the set of states from which the machine can force the goal"
  pub machine_can : (s : ℕ) → T (mem A s) → (h : ℕ → ℕ → ℕ) × (bound : ℕ) × Forces k G M B h bound s
  -- and no other state is one
  pub only : (s : ℕ) → s < k → (h : ℕ → ℕ → ℕ) (bound : ℕ) → Forces k G M B h bound s → T (mem A s)
  -- "In every state outside the set the guest has a way to stay outside for good, or no move"
  pub guest_can : (s : ℕ) → s < k → mem A s ≡ false → (g : ℕ → ℕ) × Stays k G M A g s

-- u is what the second call answers, for the state s and the press t
pub record AnswerIs (k : ℕ) (G M : Pairs) (B A : List Bool) (s t u : ℕ) : Type 0 where
  -- "for a state of the set outside the goal and a guest move"
  pub in-set : T (mem A s)
  pub outside : mem B s ≡ false
  pub press : T (pair G s t)
  -- "the least machine answer whose state enters in an earlier round than it"
  pub state : u < k
  pub move : T (pair M t u)
  pub back : T (mem A u)
  pub earlier : enters k G M B u < enters k G M B s
  pub least : (v : ℕ) → v < k → T (pair M t v) → enters k G M B v < enters k G M B s → u ≤ v

-- why the second call has no answer: "15, the state is in the goal or outside the set, or the press is no guest move"
abbrev pub NoAnswerTo : Pairs → List Bool → List Bool → ℕ → ℕ → Type 0
NoAnswerTo G B A s t = T (mem B s) ⊎ ((mem A s ≡ false) ⊎ (pair G s t ≡ false))
