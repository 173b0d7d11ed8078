-- Computed cases that tell readings of the request apart. Assumes nothing.
use mathlib.Core.Path.{◌≡◌, refl}
use mathlib.Core.Bool.{Bool, true, false}
use mathlib.Core.List.{List, [], ◌∷◌, ◌++◌}
use Prim.Native.Nat.{ℕ}
use Rattle.mucalculus.specs.Form.{Pairs}
use Rattle.diagram.specs.Level.{Fn}
use Rattle.book.specs.Bridge.{fn_of, fn_of_pairs}
use Rattle.book.specs.Ticks.{dia_needs}
use Rattle.book.specs.Run.{fit}
use Rattle.book.proofs.Compute.{computing}
use Rattle.paths.specs.Runs.{full, none, short, found}
use Rattle.logs.specs.Runs.{Moment, fits, moment_at, existing, fit_needs, log_outcome}

abbrev set : Bool → Bool → Bool → Bool → List Bool
set a b c d = a ∷ b ∷ c ∷ d ∷ []

abbrev every : List Bool
every = set true true true true

abbrev nowhere : List Bool
nowhere = set false false false false

-- ---- which states fit

-- a value with a bit outside its mask fits no state, nor does a bit that no state of 2 bits has
pub outside : fits 1 3 1 ≡ false
outside = refl

pub beyond : fits 4 4 3 ≡ false
beyond = refl

-- a mask bit that no state has asks for 0, which every state has
pub unasked : fits 5 1 3 ≡ true
unasked = refl

-- ---- every state leads to every state

abbrev anywhere : Pairs
anywhere = every ∷ every ∷ every ∷ every ∷ []

abbrev bit0 : List Bool
bit0 = set false true false true

-- V, register 0 and the relation
abbrev held : List Fn
held = fn_of 2 every ∷ fn_of 2 bit0 ∷ fn_of_pairs 2 anywhere ∷ []

-- of one log the entries (3, 2) and (2, 0); the other says nothing
abbrev logs : ℕ → Moment
logs = moment_at (3 ∷ 2 ∷ 2 ∷ 0 ∷ []) (0 ∷ 0 ∷ 0 ∷ 0 ∷ [])

-- left before right: 3 rows are enough, where the fitting states before the diamond would not fit
pub diamond-first : log_outcome 2 3 held anywhere every logs 1 2 ≡ found (2 ∷ 0 ∷ [])
unfolding computing
diamond-first = refl

abbrev later : List Bool
later = existing 4 every (logs 1)

pub fitting-first : fit 3 (fit_needs 2 (fn_of 2 later ∷ held) every (logs 0)
    ++ dia_needs 2 (fn_of 2 (existing 4 every (logs 0)) ∷ fn_of 2 later ∷ held) anywhere later) ≡ false
unfolding computing
fitting-first = refl

-- a list that is one too short; and 10 before 11: the second entry fits no state, and there is no place in the list
pub one-short : log_outcome 2 3 held anywhere every logs 1 1 ≡ short
unfolding computing
one-short = refl

pub ten_first : log_outcome 2 9 held anywhere every (moment_at (3 ∷ 2 ∷ 0 ∷ 1 ∷ []) (0 ∷ 0 ∷ 0 ∷ 0 ∷ [])) 1 0 ≡ none
unfolding computing
ten_first = refl

-- all sets are made before 10 is decided: the last one is empty, and 8 comes first
pub eight_first : log_outcome 2 2 held anywhere every (moment_at (3 ∷ 2 ∷ 0 ∷ 1 ∷ []) (0 ∷ 0 ∷ 0 ∷ 0 ∷ [])) 1 0 ≡ full
unfolding computing
eight_first = refl

-- states outside V do not exist: only 0 and 1 do, so the first entry fits none
pub not_there : log_outcome 2 99 (fn_of 2 (set true true false false) ∷ []) anywhere (set true true false false) logs 1 2 ≡ none
unfolding computing
not_there = refl

-- ---- which sets are live

-- V and the relation alone
abbrev bare : List Fn
bare = fn_of 2 every ∷ fn_of_pairs 2 anywhere ∷ []

-- the later set is live until the new one is made: 4 rows would be enough where it was freed after SHIFT
pub later-live : log_outcome 2 4 bare anywhere every (moment_at (0 ∷ 0 ∷ 3 ∷ 3 ∷ []) (0 ∷ 0 ∷ 0 ∷ 0 ∷ [])) 1 2 ≡ full
unfolding computing
later-live = refl

-- and no other: 5 rows are enough, where the set after it would take a sixth
pub only-later : log_outcome 2 5 bare anywhere every (moment_at (0 ∷ 0 ∷ 3 ∷ 0 ∷ 3 ∷ 3 ∷ []) (0 ∷ 0 ∷ 0 ∷ 0 ∷ 0 ∷ 0 ∷ [])) 2 3
    ≡ found (0 ∷ 0 ∷ 3 ∷ [])
unfolding computing
only-later = refl
