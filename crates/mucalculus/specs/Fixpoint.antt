-- The least and the greatest set A with F A = A, by enumeration of all sets. Assumes nothing.
use Rattle.std.specs.Prelude.{Bool, ◌&&◌, List, ℕ}
use Rattle.mucalculus.specs.Sets.{mem, table, all, any, keep, bit_lists, same}
use Rattle.mucalculus.specs.Order.{Below}

-- all sets A of k states with F A = A
abbrev pub fixpoints : ℕ → (List Bool → List Bool) → List (List Bool)
fixpoints k F = keep (λ A. same (F A) A) (bit_lists k)

-- the least: the states of E, those that exist, that are in every such set
abbrev pub least : ℕ → List Bool → (List Bool → List Bool) → List Bool
least k E F = let S = fixpoints k F in table k (λ s. mem E s && all (λ A. mem A s) S)

-- the greatest: the states of E that are in some such set
abbrev pub greatest : ℕ → List Bool → (List Bool → List Bool) → List Bool
greatest k E F = let S = fixpoints k F in table k (λ s. mem E s && any (λ A. mem A s) S)

-- F makes sets of existing states
abbrev pub Into : List Bool → (List Bool → List Bool) → Type 0
Into E F = (A : List Bool) → Below (F A) E
