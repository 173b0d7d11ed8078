-- Until by runs, computed at n = 1 and n = 2; and the set that the formula written with a binder has, computed beside it. Assumes nothing.
use mathlib.Core.Path.{◌≡◌, refl}
use mathlib.Core.Bool.{Bool, true, false}
use mathlib.Core.List.{List, [], ◌∷◌}
use mathlib.Core.Option.{none, some}
use Rattle.mucalculus.specs.Sets.{bit_lists}
use Rattle.mucalculus.specs.Form.{Form, bot, top, now, conj, box, until, Pairs, Model, no_env}
use Rattle.mucalculus.specs.Runs.{counts, walks, until_set}
use Rattle.mucalculus.specs.Means.{means}
use Rattle.mucalculus.specs.Written.{written}

-- n = 1: each state leads to the other
abbrev turn : Pairs
turn = (false ∷ true ∷ []) ∷ (true ∷ false ∷ []) ∷ []

-- the counted run from 0 has 2 steps
pub turn-runs : walks 2 turn 2 0 ≡ (1 ∷ 0 ∷ []) ∷ []
turn-runs = refl

pub turn-some : until_set true 2 turn (true ∷ true ∷ []) (false ∷ true ∷ []) ≡ true ∷ true ∷ []
turn-some = refl

-- where f does not hold before g, the run does not pass
pub turn-held : until_set false 2 turn (false ∷ false ∷ []) (false ∷ true ∷ []) ≡ false ∷ true ∷ []
turn-held = refl

-- n = 2: state 0 leads to 1 and 2, state 1 to 3, and 2 and 3 lead nowhere
abbrev fork : Pairs
fork = (false ∷ true ∷ true ∷ false ∷ []) ∷ (false ∷ false ∷ false ∷ true ∷ []) ∷ (false ∷ false ∷ false ∷ false ∷ [])
    ∷ (false ∷ false ∷ false ∷ false ∷ []) ∷ []

-- both of its runs from 0 are shorter than 4 steps, and count
pub fork_runs : walks 4 fork 4 0 ≡ (1 ∷ 3 ∷ []) ∷ (2 ∷ []) ∷ []
fork_runs = refl

pub fork_counts : counts 4 fork 0 (1 ∷ 3 ∷ []) ≡ true
fork_counts = refl

-- a run that could go on does not count
pub fork_cut : counts 4 fork 0 (1 ∷ []) ≡ false
fork_cut = refl

abbrev everybody : List Bool
everybody = true ∷ true ∷ true ∷ true ∷ []

abbrev three : List Bool
three = false ∷ false ∷ false ∷ true ∷ []

-- from 0 some run comes to 3, and some does not
pub fork_some : until_set true 4 fork everybody three ≡ true ∷ true ∷ false ∷ true ∷ []
fork_some = refl

pub fork_every : until_set false 4 fork everybody three ≡ false ∷ true ∷ false ∷ true ∷ []
fork_every = refl

-- each state leads to each: 256 counted runs from each, of which one stays where it is
abbrev whole : Pairs
whole = everybody ∷ everybody ∷ everybody ∷ everybody ∷ []

pub whole-every : until_set false 4 whole everybody three ≡ three
whole-every = refl

pub whole-some : until_set true 4 whole everybody three ≡ everybody
whole-some = refl

-- ---- as formulas: true until bit 0 and bit 1

abbrev room : Model
room = record { n = 2; valid = everybody; rel = λ t. some fork; reg = λ r. none }

abbrev goal : Form
goal = conj (now 0) (now 1)

pub room-every : means room no_env (until false 0 top goal) ≡ false ∷ true ∷ false ∷ true ∷ []
room-every = refl

pub room-written : means room no_env (written false 0 5 top goal) ≡ false ∷ true ∷ false ∷ true ∷ []
unfolding bit_lists
room-written = refl

-- ---- where state 3 does not exist: state 1, which led to it alone, leads nowhere

abbrev selector : Model
selector = record { n = 2; valid = true ∷ true ∷ true ∷ false ∷ []; rel = λ t. some fork; reg = λ r. none }

pub selector_dead : means selector no_env (box 0 bot) ≡ false ∷ true ∷ true ∷ false ∷ []
selector_dead = refl

pub selector_some : means selector no_env (until true 0 top (now 0)) ≡ true ∷ true ∷ false ∷ false ∷ []
selector_some = refl

pub selector_every : means selector no_env (until false 0 top (now 0)) ≡ false ∷ true ∷ false ∷ false ∷ []
selector_every = refl

pub selector_written : means selector no_env (written false 0 5 top (now 0)) ≡ false ∷ true ∷ false ∷ false ∷ []
unfolding bit_lists
selector_written = refl
