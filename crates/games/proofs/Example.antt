-- Computed cases that tell readings of the request apart. Assumes nothing.
use mathlib.Core.Path.{◌≡◌, refl}
use mathlib.Core.Bool.{Bool, true, false}
use mathlib.Core.List.{List, [], ◌∷◌}
use mathlib.Core.Option.{Option, none, some}
use Prim.Native.Nat.{ℕ, zero, suc}
use Rattle.mucalculus.specs.Sets.{bit_lists}
use Rattle.mucalculus.specs.Form.{Pairs}
use Rattle.accounts.specs.declared.Terms.{Terms}
use Rattle.accounts.specs.Terms.{alone}
use Rattle.book.specs.Book.{Book, does}
use Rattle.book.specs.Leaves.{plain, valued}
use Rattle.book.proofs.Compute.{computing}
use Rattle.games.specs.Game.{forced, enters, answer_to, answerable}
use Rattle.games.specs.Call.{game_call, forced_in, force_done, reacts}

abbrev set : Bool → Bool → Bool → Bool → List Bool
set a b c d = a ∷ b ∷ c ∷ d ∷ []

abbrev nowhere : List Bool
nowhere = set false false false false

-- ---- the guest stays at 0, 1 or 2; the machine goes from 0 to 1, from 1 to 2, from 2 to 3 or back to 1; 3 is the goal

abbrev stays : Pairs
stays = set true false false false ∷ set false true false false ∷ set false false true false ∷ nowhere ∷ []

abbrev climbs : Pairs
climbs = set false true false false ∷ set false false true false ∷ set false true false true ∷ nowhere ∷ []

abbrev top : List Bool
top = set false false false true

pub all_four : forced 4 stays climbs top ≡ set true true true true
unfolding bit_lists
all_four = refl

-- the goal enters in round 1, state 0 in round 4
pub first_round : enters 4 stays climbs top 3 ≡ 1
first_round = refl

pub last-round : enters 4 stays climbs top 0 ≡ 4
last-round = refl

-- "whose state enters in an earlier round than it": 1 is a lesser answer and in the set too, but enters later than 2 does
pub not_the_least_in_the_set : answer_to 4 stays climbs top 2 2 ≡ 3
not_the_least_in_the_set = refl

-- nor one of its own round: 2 may stay as it is, which is a lesser answer
abbrev lingers : Pairs
lingers = set false true false false ∷ set false false true false ∷ set false false true true ∷ nowhere ∷ []

pub not_its_own_round : answer_to 4 stays lingers top 2 2 ≡ 3
not_its_own_round = refl

-- "for a state of the set outside the goal and a guest move"
pub asked_well : answerable 4 stays climbs top 2 2 ≡ true
unfolding bit_lists
asked_well = refl

pub goal-is-not-asked : answerable 4 stays climbs top 3 3 ≡ false
unfolding bit_lists
goal-is-not-asked = refl

pub no-guest-move : answerable 4 stays climbs top 2 1 ≡ false
unfolding bit_lists
no-guest-move = refl

-- ---- "where the guest has a move": without a press at 1 that state is outside the set, and 0 with it

abbrev silent : Pairs
silent = set true false false false ∷ nowhere ∷ set false false true false ∷ nowhere ∷ []

pub no-move-outside : forced 4 silent climbs top ≡ set false false true true
unfolding bit_lists
no-move-outside = refl

-- ---- "after every guest move": a second press at 2, to which the machine has no answer, keeps all but the goal outside. It leads to 3:
-- the goal counts only where the guest is to press, not between a press and its answer

abbrev restless : Pairs
restless = set true false false false ∷ set false true false false ∷ set false false true true ∷ nowhere ∷ []

pub every-press : forced 4 restless climbs top ≡ set false false false true
unfolding bit_lists
every-press = refl

-- ---- over one state bit: the guest stays at 1, the machine goes from 1 to 0, which is the goal in register 0

abbrev press : Pairs
press = (false ∷ false ∷ []) ∷ (false ∷ true ∷ []) ∷ []

abbrev react : Pairs
react = (false ∷ false ∷ []) ∷ (true ∷ false ∷ []) ∷ []

abbrev rel : ℕ → Option Pairs
rel zero = some press
rel (suc zero) = some react
rel (suc (suc t)) = none

abbrev reg : ℕ → Option (List Bool)
reg zero = some (true ∷ false ∷ [])
reg (suc r) = none

abbrev room : Book
room = record { n = 1; N = 99; valid = true ∷ true ∷ []; rel = rel; reg = reg }

-- ---- the first call: both states are in the set

pub forced_in-room : forced_in room 0 0 1 ≡ (true ∷ true ∷ [])
unfolding bit_lists
forced_in-room = refl

-- the target may be the goal's register, which then holds the set; as the set call that the first call is, and as it is said to do
pub into_the_goal : (does room (game_call alone 0 3 0 0 1)).0.reg 0 ≡ some (true ∷ true ∷ [])
unfolding computing bit_lists
into_the_goal = refl

pub said_alike : (force_done room 0 0 1 alone 0 3).0.reg 0 ≡ some (true ∷ true ∷ [])
unfolding computing bit_lists
said_alike = refl

-- ---- the second call

-- R must cover the round that gives the same set again
pub three_rounds : reacts room 0 0 1 alone 3 1 1 ≡ valued 0
unfolding computing bit_lists
three_rounds = refl

pub two-rounds : reacts room 0 0 1 alone 2 1 1 ≡ plain 9
unfolding computing bit_lists
two-rounds = refl

-- 9 comes before 15, which is given where the state is in the goal
pub nine_first : reacts room 0 0 1 alone 2 0 0 ≡ plain 9
unfolding computing bit_lists
nine_first = refl

pub in-the-goal : reacts room 0 0 1 alone 3 0 0 ≡ plain 15
unfolding computing bit_lists
in-the-goal = refl

-- "either out of range gives 3", before 14 and 7, and 14 before 7
abbrev nobody : Terms
nobody = record { count = 0; place = 0; rows = 0; rounds = 0 }

pub no_such_state : reacts room 5 0 1 nobody 3 2 0 ≡ plain 3
unfolding computing bit_lists
no_such_state = refl

pub unlisted : reacts room 5 0 1 nobody 3 1 1 ≡ plain 14
unfolding computing bit_lists
unlisted = refl

-- 7 for the goal and for each relation
pub no-goal : reacts room 5 0 1 alone 3 1 1 ≡ plain 7
unfolding computing bit_lists
no-goal = refl

pub no-presses : reacts room 0 2 1 alone 3 1 1 ≡ plain 7
unfolding computing bit_lists
no-presses = refl

pub no-reactions : reacts room 0 0 2 alone 3 1 1 ≡ plain 7
unfolding computing bit_lists
no-reactions = refl

-- 8 by the account's limit, and before 15
pub no_rows : reacts room 0 0 1 (record { count = 1; place = 0; rows = 0; rounds = 3 }) 3 0 0 ≡ plain 8
unfolding computing bit_lists
no_rows = refl

-- ---- V is not every state: 1 alone exists, and is the goal; 0, which does not, is outside the set and gives 15, not 3

abbrev once : ℕ → Option Pairs
once t = some press

abbrev only : ℕ → Option (List Bool)
only r = some (false ∷ true ∷ [])

abbrev cellar : Book
cellar = record { n = 1; N = 99; valid = false ∷ true ∷ []; rel = once; reg = only }

pub in-the-cellar : forced_in cellar 0 0 1 ≡ (false ∷ true ∷ [])
unfolding bit_lists
in-the-cellar = refl

pub outside : reacts cellar 0 0 1 alone 2 0 0 ≡ plain 15
unfolding computing bit_lists
outside = refl
