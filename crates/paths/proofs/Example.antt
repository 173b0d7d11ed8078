-- Computed cases that tell readings of the request apart. Assumes nothing.
use mathlib.Core.Path.{◌≡◌, refl}
use mathlib.Core.Bool.{Bool, true, false}
use mathlib.Core.List.{List, [], ◌∷◌}
use Rattle.mucalculus.specs.Form.{Pairs}
use Rattle.diagram.specs.Level.{Fn}
use Rattle.book.specs.Bridge.{fn_of, fn_of_pairs}
use Rattle.book.specs.Run.{fit}
use Rattle.book.proofs.Compute.{computing}
use Rattle.paths.specs.Runs.{layer, layer_needs, made_needs, outcome, full, none, short, found}

abbrev set : Bool → Bool → Bool → Bool → List Bool
set a b c d = a ∷ b ∷ c ∷ d ∷ []

abbrev nowhere : List Bool
nowhere = set false false false false

-- ---- 0 leads to 1 and 2, both lead to 3

abbrev fork : Pairs
fork = set false true true false ∷ set false false false true ∷ set false false false true ∷ nowhere ∷ []

abbrev first : List Bool
first = set true false false false

abbrev last : List Bool
last = set false false false true

-- the run with the least states is written
pub least-run : outcome 2 99 [] fork first last 3 ≡ found (0 ∷ 1 ∷ 3 ∷ [])
unfolding computing
least-run = refl

-- a list that is one too short; and 10 before 11: there is no run from 3 into 0, and no place in the list
pub one-short : outcome 2 99 [] fork first last 2 ≡ short
unfolding computing
one-short = refl

pub ten_first : outcome 2 99 [] fork last first 0 ≡ none
unfolding computing
ten_first = refl

-- a run of one state takes no step, so it fits no row at all
pub one_state : outcome 2 0 [] fork last last 1 ≡ found (3 ∷ [])
unfolding computing
one_state = refl

-- ---- the last layer stays live until the next is made: from no state into those of bit 0, over the pairs from those of bit 1

abbrev from_bit1 : Pairs
from_bit1 = nowhere ∷ nowhere ∷ set true true true true ∷ set true true true true ∷ []

abbrev bit0 : List Bool
bit0 = set false true false true

abbrev held1 : List Fn
held1 = fn_of 2 nowhere ∷ fn_of 2 bit0 ∷ fn_of_pairs 2 from_bit1 ∷ []

-- 7 rows are needed; freed after SHIFT, 6 would do. And an empty set is no short cut: 8 comes before 10
pub last-live : outcome 2 6 held1 from_bit1 nowhere bit0 4 ≡ full
unfolding computing
last-live = refl

pub last-enough : outcome 2 7 held1 from_bit1 nowhere bit0 4 ≡ none
unfolding computing
last-enough = refl

-- ---- only the last layer is live: 1 leads to 3, that to 2, that to 0

abbrev chain : Pairs
chain = nowhere ∷ last ∷ first ∷ set false false true false ∷ []

abbrev held2 : List Fn
held2 = fn_of 2 nowhere ∷ fn_of 2 first ∷ fn_of_pairs 2 chain ∷ []

-- 13 rows are enough for all layers; with layer 1 live while layer 3 is made they would not be
pub only-last : fit 13 (made_needs 2 held2 chain first 4) ≡ true
unfolding computing
only-last = refl

pub older_full : fit 13 (layer_needs 2 (fn_of 2 (layer 4 chain first 1) ∷ held2) chain first (layer 4 chain first 2)) ≡ false
unfolding computing
older_full = refl
