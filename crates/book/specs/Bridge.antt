-- Sets of states and of pairs as functions of levels, and back; and when they have a place for each state. Assumes nothing.
use Rattle.std.specs.Prelude.{◌≡◌, Bool, List, [], ℕ, ◌^◌, ◌<◌, length, get_or}
use Rattle.mucalculus.specs.Sets.{mem, table}
use Rattle.mucalculus.specs.Form.{Pairs}
use Rattle.mucalculus.specs.Means.{pair}
use Rattle.diagram.specs.Level.{Fn}
use Rattle.book.specs.States.{now_of, next_of, pair_val}

-- the function of a set of states: it reads the current bits
abbrev pub fn_of : ℕ → List Bool → Fn
fn_of n A v = mem A (now_of n v)

-- the function of a set of pairs (now, next): it reads the current and the next bits
abbrev pub fn_of_pairs : ℕ → Pairs → Fn
fn_of_pairs n R v = pair R (now_of n v) (next_of n v)

-- the set of states of a function of current bits
abbrev pub set_of : ℕ → Fn → List Bool
set_of n F = table (2 ^ n) (λ s. F (pair_val s 0))

-- the set of pairs of a function of levels
abbrev pub pairs_of : ℕ → Fn → Pairs
pairs_of n F = table (2 ^ n) (λ s. table (2 ^ n) (λ t. F (pair_val s t)))

-- a set of states has a place for each state
abbrev pub Sized : ℕ → List Bool → Type 0
Sized n A = length A ≡ 2 ^ n

-- a set of pairs has a set of states for each state
pub record SizedPairs (n : ℕ) (R : Pairs) : Type 0 where
  pub rows : length R ≡ 2 ^ n
  pub each : (s : ℕ) → s < 2 ^ n → Sized n (get_or R s [])
