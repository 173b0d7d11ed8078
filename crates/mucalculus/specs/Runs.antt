-- "Until, as the installers say it": runs of a relation, which of them count, which pass, and the states of which some or every counted run
-- passes. Assumes nothing.
use Rattle.std.specs.Prelude.{Bool, true, false, not, ◌&&◌, ◌||◌, cond, List, [], ◌∷◌, ◌++◌, map, ℕ, zero, suc, ltb, eqb, length, get_or}
use Rattle.mucalculus.specs.Sets.{mem, table, all, any, keep}
use Rattle.mucalculus.specs.Form.{Pairs}

-- t is a next state of s
abbrev pub pair : Pairs → ℕ → ℕ → Bool
pair R s t = mem (get_or R s []) t

-- no next state of s exists among the k states
abbrev pub stuck : ℕ → Pairs → ℕ → Bool
stuck k R s = not (any (λ t. pair R s t) (table k (λ t. t)))

-- s and then the states of l are a run: each state is a next state of the one before
abbrev pub is_run : ℕ → Pairs → ℕ → List ℕ → Bool
is_run k R s [] = true
is_run k R s (t ∷ l) = (ltb t k && pair R s t) && is_run k R t l

-- where the run ends
abbrev pub end_of : ℕ → List ℕ → ℕ
end_of s [] = s
end_of s (t ∷ l) = end_of t l

-- "A run counts if it has exactly 2^n steps, or is shorter and ends where no next state exists": k is 2^n, and l has a state for each step
abbrev pub counts : ℕ → Pairs → ℕ → List ℕ → Bool
counts k R s l = is_run k R s l && (eqb (length l) k || (ltb (length l) k && stuck k R (end_of s l)))

-- the states of a run before the first one in G
abbrev pub before : List Bool → List ℕ → List ℕ
before G [] = []
before G (s ∷ l) = let others = before G l in cond (mem G s) [] (s ∷ others)

-- "It passes if g holds somewhere on it and f everywhere before the first such place", of all the run's states
abbrev pub passes : List Bool → List Bool → List ℕ → Bool
passes F G l = any (λ s. mem G s) l && all (λ s. mem F s) (before G l)

-- the next states of s
abbrev pub nexts : ℕ → Pairs → ℕ → List ℕ
nexts k R s = keep (λ t. pair R s t) (table k (λ t. t))

-- the lists h x for each x, one after the other
abbrev pub gather : {X Y : Type 0} → (X → List Y) → List X → List Y
gather h [] = []
gather h (x ∷ l) = h x ++ gather h l

-- the runs from s that have exactly j steps, or fewer and end where no next state exists
abbrev pub walks : ℕ → Pairs → ℕ → ℕ → List (List ℕ)
walks k R zero s = [] ∷ []
walks k R (suc j) s = let longer = gather (λ t. map (λ l. t ∷ l) (walks k R j t)) (nexts k R s) in cond (stuck k R s) ([] ∷ []) longer

-- q holds of some element, or with `false` of every one
abbrev pub over : {X : Type 0} → Bool → (X → Bool) → List X → Bool
over true q l = any q l
over false q l = all q l

-- the states of which some counted run passes, or with `false` every one
abbrev pub until_set : Bool → ℕ → Pairs → List Bool → List Bool → List Bool
until_set b k R F G = table k (λ s. over b (λ l. passes F G (s ∷ l)) (walks k R k s))
