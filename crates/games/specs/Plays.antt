-- Plays and strategies: what it means that the machine can force the goal, and that the guest can stay outside for good. Assumes nothing.
use Rattle.std.specs.Prelude.{◌≡◌, Bool, true, false, ◌&&◌, ◌||◌, List, [], ◌∷◌, ℕ, ◌<◌, T, ltb, eqb, length}
use Rattle.mucalculus.specs.Sets.{mem}
use Rattle.mucalculus.specs.Form.{Pairs}
use Rattle.mucalculus.specs.Means.{pair}
use Rattle.games.specs.Game.{has_move}

-- one exchange: "The guest presses, then the machine reacts": the state that the press leads to, and the one that the answer leads to
pub record Turn : Type 0 where
  pub press : ℕ
  pub answer : ℕ

-- the turns of l are a play from s, "in turn"
abbrev pub is_play : ℕ → Pairs → Pairs → ℕ → List Turn → Bool
is_play k G M s [] = true
is_play k G M s (x ∷ l) =
    (ltb x.press k && pair G s x.press) && ((ltb x.answer k && pair M x.press x.answer) && is_play k G M x.answer l)

-- where the play ends
abbrev pub play_end : ℕ → List Turn → ℕ
play_end s [] = s
play_end s (x ∷ l) = play_end x.answer l

-- the play meets the set A, at its start, on its way or at its end
abbrev pub play_meets : List Bool → ℕ → List Turn → Bool
play_meets A s [] = mem A s
play_meets A s (x ∷ l) = mem A s || play_meets A x.answer l

-- the guest's presses are those of the strategy, which goes by the state
abbrev pub by_guest : (ℕ → ℕ) → ℕ → List Turn → Bool
by_guest g s [] = true
by_guest g s (x ∷ l) = eqb x.press (g s) && by_guest g x.answer l

-- the machine's answers are those of the strategy, which goes by the state and the press
abbrev pub by_machine : (ℕ → ℕ → ℕ) → ℕ → List Turn → Bool
by_machine h s [] = true
by_machine h s (x ∷ l) = eqb x.answer (h s x.press) && by_machine h x.answer l

-- "the machine can force the goal" B from s, by the strategy h, in fewer than `bound` turns: as long as a play has not met the goal it can
-- go on, as the guest has a move and to every press h has an answer; and it cannot go on for ever
pub record Forces (k : ℕ) (G M : Pairs) (B : List Bool) (h : ℕ → ℕ → ℕ) (bound s : ℕ) : Type 0 where
  pub goes_on : (l : List Turn) → T (is_play k G M s l) → T (by_machine h s l) → play_meets B s l ≡ false
      → T (has_move k G (play_end s l))
      × ((t : ℕ) → t < k → T (pair G (play_end s l) t) → (h (play_end s l) t < k) × T (pair M t (h (play_end s l) t)))
  pub ends : (l : List Turn) → T (is_play k G M s l) → T (by_machine h s l) → play_meets B s l ≡ false → length l < bound

-- "the guest has a way to stay outside" the set A "for good, or no move", by the strategy g: whatever the machine does, no play by it meets
-- the set, and where the guest has a move, what g says is one
pub record Stays (k : ℕ) (G M : Pairs) (A : List Bool) (g : ℕ → ℕ) (s : ℕ) : Type 0 where
  pub outside : (l : List Turn) → T (is_play k G M s l) → T (by_guest g s l) → play_meets A s l ≡ false
  pub moves_on : (l : List Turn) → T (is_play k G M s l) → T (by_guest g s l) → T (has_move k G (play_end s l))
      → (g (play_end s l) < k) × T (pair G (play_end s l) (g (play_end s l)))
