-- "The shortest way into trouble": runs of a relation, layers by distance, the run that is to be written, the steps that are taken and what
-- they come to. Assumes nothing.
use Rattle.std.specs.Prelude.{◌≡◌, Bool, false, cond, ◌&&◌, ◌||◌, List, [], ◌∷◌, ◌++◌, ℕ, zero, suc, ◌^◌, ◌≤◌, T, leb, ltb, length}
use Rattle.mucalculus.specs.Sets.{mem, same}
use Rattle.mucalculus.specs.Form.{Pairs}
use Rattle.mucalculus.specs.Means.{pair, union, sometimes}
use Rattle.diagram.specs.Level.{Fn}
use Rattle.book.specs.Bridge.{fn_of}
use Rattle.book.specs.Ticks.{dia_needs, two_need}
use Rattle.book.specs.Run.{fit}

-- ---- runs over k states

-- from state s through the states of l, each a next state of the one before, the last one in B
abbrev pub runs_into : ℕ → Pairs → List Bool → ℕ → List ℕ → Bool
runs_into k R B s [] = ltb s k && mem B s
runs_into k R B s (t ∷ l) = ltb s k && (pair R s t && runs_into k R B t l)

-- l is a run from A into B
abbrev pub is_run : ℕ → Pairs → List Bool → List Bool → List ℕ → Bool
is_run k R A B [] = false
is_run k R A B (s ∷ l) = mem A s && runs_into k R B s l

-- at the first place where they differ, the first list has the lesser state
abbrev pub Least : List ℕ → List ℕ → Type 0
Least [] m = Unit {0}
Least (s ∷ l) [] = Unit {0}
Least (s ∷ l) (t ∷ m) = (s ≤ t) × (s ≡ t → Least l m)

-- a run from A into B with the fewest states; of those the first state is the least one, then the second, and so on
pub record Shortest (k : ℕ) (R : Pairs) (A B : List Bool) (l : List ℕ) : Type 0 where
  pub run : T (is_run k R A B l)
  pub fewest : (m : List ℕ) → T (is_run k R A B m) → length l ≤ length m
  pub least : (m : List ℕ) → T (is_run k R A B m) → length m ≡ length l → Least l m

-- ---- layers

-- "b, then b OR diamond of the last layer"
abbrev pub layer : ℕ → Pairs → List Bool → ℕ → List Bool
layer k R B zero = B
layer k R B (suc j) = union k B (sometimes k R (layer k R B j))

-- the least number below k that passes the test, and k where none does
abbrev pub first_of : ℕ → (ℕ → Bool) → ℕ
first_of zero q = zero
first_of (suc k) q = let more = suc (first_of k (λ i. q (suc i))) in cond (q zero) zero more

-- the least state of both sets, and k where they share none
abbrev pub common : ℕ → List Bool → List Bool → ℕ
common k A L = first_of k (λ s. mem A s && mem L s)

-- two sets share a state
abbrev pub meets : ℕ → List Bool → List Bool → Bool
meets k A L = ltb (common k A L) k

-- layer j does not grow: it is the one before
abbrev pub still : ℕ → Pairs → List Bool → ℕ → Bool
still k R B zero = false
still k R B (suc j) = same (layer k R B (suc j)) (layer k R B j)

-- the last layer that is made: the first that shares a state with A, or no longer grows
abbrev pub last_layer : ℕ → Pairs → List Bool → List Bool → ℕ
last_layer k R A B = first_of (suc (suc k)) (λ j. meets k A (layer k R B j) || still k R B j)

-- ---- the run that is written

-- the least next state of s in a set, and k where it has none
abbrev pub toward : ℕ → Pairs → List Bool → ℕ → ℕ
toward k R X s = first_of k (λ t. pair R s t && mem X t)

-- the least next state of s in layer d, then that one's least next state in layer d − 1, down to layer 0
abbrev pub onward : ℕ → Pairs → List Bool → ℕ → ℕ → List ℕ
onward k R B zero s = []
onward k R B (suc d) s = let t = toward k R (layer k R B d) s in t ∷ onward k R B d t

-- from the least state of A in layer d
abbrev pub route : ℕ → Pairs → List Bool → List Bool → ℕ → List ℕ
route k R A B d = let s = common k A (layer k R B d) in s ∷ onward k R B d s

-- ---- steps, over n state bits

-- the needs of the steps from layer L to the next: "Only the last layer is live, until the next is made"
abbrev pub layer_needs : ℕ → List Fn → Pairs → List Bool → List Bool → List ℕ
layer_needs n live R B L = let l = fn_of n L ∷ live in dia_needs n l R L ++ (two_need n l (union (2 ^ n)) B (sometimes (2 ^ n) R L) ∷ [])

-- of the steps that make layer j from layer 0, which takes none
abbrev pub made_needs : ℕ → List Fn → Pairs → List Bool → ℕ → List ℕ
made_needs n live R B zero = []
made_needs n live R B (suc j) = made_needs n live R B j ++ layer_needs n live R B (layer (2 ^ n) R B j)

-- "earlier ones are made again": layers d − 1, d − 2, down to 0, each from layer 0
abbrev pub again_needs : ℕ → List Fn → Pairs → List Bool → ℕ → List ℕ
again_needs n live R B zero = []
again_needs n live R B (suc d) = made_needs n live R B d ++ again_needs n live R B d

-- of all steps of a call: those of a first pass, and again those of what is made again where a run is to be written
abbrev pub pass_needs : List ℕ → List ℕ → Bool → List ℕ
pass_needs made again some = made ++ cond some again []

-- here the first pass goes up to the last layer
abbrev pub path_needs : ℕ → List Fn → Pairs → List Bool → List Bool → List ℕ
path_needs n live R A B =
    let k = 2 ^ n in
    let d = last_layer k R A B in
    pass_needs (made_needs n live R B d) (again_needs n live R B d) (meets k A (layer k R B d))

-- ---- the outcome

-- what becomes of the search for a run
pub data Outcome : Type 0 where
  full : Outcome  -- 8: a step needs more than N rows
  none : Outcome  -- 10: no run exists
  short : Outcome  -- 11: the list is too short for the run
  found : List ℕ → Outcome  -- the run's states are written

-- whether the steps fit, whether a run exists, the run, and the places of the list: 8 before 10, 10 before 11
abbrev pub decided : Bool → Bool → List ℕ → ℕ → Outcome
decided fits some l room = cond fits (cond some (cond (leb (length l) room) (found l) short) none) full

-- here the run goes from A into B
abbrev pub outcome : ℕ → ℕ → List Fn → Pairs → List Bool → List Bool → ℕ → Outcome
outcome n N live R A B room =
    let k = 2 ^ n in
    let d = last_layer k R A B in
    decided (fit N (path_needs n live R A B)) (meets k A (layer k R B d)) (route k R A B d) room

-- a list with the states of l at its first places: "places beyond the run are never written"
abbrev pub written : List ℕ → List ℕ → List ℕ
written [] m = m
written (s ∷ l) [] = []
written (s ∷ l) (x ∷ m) = s ∷ written l m
