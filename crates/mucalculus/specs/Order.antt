-- Inclusion of sets, the set from which mu (`true`) and nu (`false`) start, and how many states a set has. Assumes nothing.
use Rattle.std.specs.Prelude.{Bool, true, false, List, [], ◌∷◌, ℕ, zero, suc, T}
use Rattle.std.specs.Bool.{beq}
use Rattle.mucalculus.specs.Sets.{mem, table, no_states}

-- every member of A is one of B
abbrev pub Below : List Bool → List Bool → Type 0
Below A B = (s : ℕ) → T (mem A s) → T (mem B s)

-- "Mu starts from the empty set", "nu starts from V": where the iteration in direction b starts, E being the states that exist
abbrev pub start : Bool → ℕ → List Bool → List Bool
start true k E = no_states k
start false k E = table k (λ s. mem E s)

-- one more where the test holds
abbrev pub bump : Bool → ℕ → ℕ
bump true n = suc n
bump false n = n

-- how many places of the list hold b
abbrev pub weight : Bool → List Bool → ℕ
weight b [] = zero
weight b (a ∷ A) = bump (beq a b) (weight b A)
