-- Cases that are computed: coins, a tie that fewer states decide, a price of 0, and a run of one state. Assumes nothing.
use mathlib.Core.Path.{◌≡◌, refl}
use mathlib.Core.Bool.{Bool, ◌&&◌, ◌||◌}
use mathlib.Core.List.{List, [], ◌∷◌}
use Prim.Native.Nat.{ℕ}
use lib.Dec.{T, eqb}
use lib.ListN.{length}
use Rattle.coins.specs.Runs.{Transitions, PricedStep, is_mixed_run, total, coins}

-- "one for every ten credits begun, none for 0"
pub coins_begun : ◌≡◌ {A = List ℕ} (coins 0 ∷ coins 1 ∷ coins 10 ∷ coins 11 ∷ []) (0 ∷ 1 ∷ 1 ∷ 2 ∷ [])
coins_begun = refl

-- from 0, relation 0 leads to 1 and relation 2 to 3; from 1, relation 1 leads to 3
abbrev hall : Transitions
hall r s t =
    (eqb r 0 && (eqb s 0 && eqb t 1)) || ((eqb r 1 && (eqb s 1 && eqb t 3)) || (eqb r 2 && (eqb s 0 && eqb t 3)))

abbrev is : ℕ → ℕ → Bool
is a s = eqb s a

abbrev long : List PricedStep
long = record { relation = 0; state = 1 } ∷ record { relation = 1; state = 3 } ∷ []

abbrev direct : List PricedStep
direct = record { relation = 2; state = 3 } ∷ []

-- both are runs from 0 into 3
pub two_runs : T (is_mixed_run 4 hall (is 0) (is 3) 0 long) × T (is_mixed_run 4 hall (is 0) (is 3) 0 direct)
two_runs = (tt, tt)

-- at 4, 5 and 9 credits they cost the same, and the direct one has fewer states; at 0, 5 and 9 the long one is cheaper
pub tie : ◌≡◌ {A = List ℕ} (total (4 ∷ 5 ∷ 9 ∷ []) long ∷ total (4 ∷ 5 ∷ 9 ∷ []) direct ∷ length long ∷ length direct ∷ [])
    (9 ∷ 9 ∷ 2 ∷ 1 ∷ [])
tie = refl

pub for_nothing : ◌≡◌ {A = List ℕ} (total (0 ∷ 5 ∷ 9 ∷ []) long ∷ total (0 ∷ 5 ∷ 9 ∷ []) direct ∷ []) (5 ∷ 9 ∷ [])
for_nothing = refl

-- a state of both sets is a run of one state, for nothing
pub one_state : T (is_mixed_run 4 hall (is 3) (is 3) 3 []) × (◌≡◌ {A = ℕ} (total (4 ∷ []) []) 0)
one_state = (tt, refl)
