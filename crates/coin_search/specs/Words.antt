-- The parts of the work words, and what a store does to them. Assumes nothing.
use Rattle.std.specs.Prelude.{◌≡◌, ◌≢◌, List, ℕ, suc, ◌/◌, ◌%◌, length, get_or}
use Rattle.coins.specs.Marks.{Marks}
use Rattle.coins.specs.Added.{Added}

-- the mark of state s, and the state at place i of the order
abbrev pub mark_of : List ℕ → ℕ → ℕ
mark_of w s = get_or w s 0 / 131_072

abbrev pub state_at : List ℕ → ℕ → ℕ
state_at w i = get_or w i 0 % 65_536

-- the search that they hold, of which `count` states are in the order
abbrev pub marks_of : List ℕ → ℕ → Marks
marks_of w count = record { count = count; at = state_at w; mark = mark_of w }

-- state s has the mark m
pub record MarkPut (w v : List ℕ) (s m : ℕ) : Type 0 where
  pub size : length v ≡ length w
  pub mark : mark_of v s ≡ m
  pub others : (t : ℕ) → t ≢ s → mark_of v t ≡ mark_of w t
  pub states : (i : ℕ) → state_at v i ≡ state_at w i

-- state s stands at place i
pub record StatePut (w v : List ℕ) (i s : ℕ) : Type 0 where
  pub size : length v ≡ length w
  pub state : state_at v i ≡ s
  pub others : (j : ℕ) → j ≢ i → state_at v j ≡ state_at w j
  pub marks : (t : ℕ) → mark_of v t ≡ mark_of w t

-- both stores: state s with the mark m at the end of the order
pub record AddPost (w v : List ℕ) (s m count : ℕ) : Type 0 where
  pub size : length v ≡ length w
  pub added : Added (marks_of w count) (marks_of v (suc count)) s m
