-- The set of the states in which a formula holds, and the set of the pairs in which a relation's formula holds. Assumes nothing.
use Rattle.std.specs.Prelude.{Bool, true, false, not, ◌&&◌, ◌||◌, List, ℕ, ◌^◌, ◌/◌, ◌%◌, eqb}
use Rattle.mucalculus.specs.Sets.{mem, table, no_states, all, any}
use Rattle.mucalculus.specs.Fixpoint.{least, greatest}
pub use Rattle.mucalculus.specs.Runs.{pair, until_set}
use Rattle.mucalculus.specs.Form.{Form, bot, top, neg, conj, disj, now, next, var, reg, box, dia, mu, nu, until, Pairs, Model, Env}
use Rattle.mucalculus.specs.Form.{put, inside}

-- ---- operations on sets of k states

-- A with exactly k places
abbrev pub clip : ℕ → List Bool → List Bool
clip k A = table k (λ s. mem A s)

-- the states that are not in A
abbrev pub compl : ℕ → List Bool → List Bool
compl k A = table k (λ s. not (mem A s))

-- the states in A and in B
abbrev pub inter : ℕ → List Bool → List Bool → List Bool
inter k A B = table k (λ s. mem A s && mem B s)

-- the states in A or in B
abbrev pub union : ℕ → List Bool → List Bool → List Bool
union k A B = table k (λ s. mem A s || mem B s)

-- bit p of state s
abbrev pub bit : ℕ → ℕ → Bool
bit p s = eqb (s / 2 ^ p % 2) 1

-- the states whose bit p is 1
abbrev pub bit_states : ℕ → ℕ → List Bool
bit_states k p = table k (λ s. bit p s)

-- the states of which every next state is in A
abbrev pub always : ℕ → Pairs → List Bool → List Bool
always k R A = table k (λ s. all (λ t. not (pair R s t) || mem A t) (table k (λ t. t)))

-- the states of which some next state is in A
abbrev pub sometimes : ℕ → Pairs → List Bool → List Bool
sometimes k R A = table k (λ s. any (λ t. pair R s t && mem A t) (table k (λ t. t)))

-- ---- the meaning

-- how many states there are
abbrev pub size : Model → ℕ
size m = 2 ^ m.n

-- the states that exist
abbrev pub exist : Model → List Bool
exist m = clip (size m) m.valid

-- "next states outside V do not exist": the pairs of relation t within V
abbrev pub related : Model → ℕ → Pairs
related m t = let E = exist m in table (size m) (λ s. table (size m) (λ u. (mem E s && mem E u) && pair (inside (m.rel t)) s u))

-- the states in which f holds (a next bit is of relation calls only, and holds nowhere): "true means V, NOT V without the set, a bit its
-- states in
-- V"; a variable and a register are read with their states in V
abbrev pub means : Model → Env → Form → List Bool
means m e bot = no_states (size m)
means m e top = exist m
means m e (neg f) = inter (size m) (compl (size m) (means m e f)) (exist m)
means m e (conj f g) = inter (size m) (means m e f) (means m e g)
means m e (disj f g) = union (size m) (means m e f) (means m e g)
means m e (now p) = inter (size m) (bit_states (size m) p) (exist m)
means m e (next p) = no_states (size m)
means m e (var P) = inter (size m) (e P) (exist m)
means m e (reg r) = inter (size m) (inside (m.reg r)) (exist m)
means m e (box t f) = inter (size m) (always (size m) (related m t) (means m e f)) (exist m)
means m e (dia t f) = sometimes (size m) (related m t) (means m e f)
means m e (mu P f) = least (size m) (exist m) (λ A. means m (put e P A) f)
means m e (nu P f) = greatest (size m) (exist m) (λ A. means m (put e P A) f)
means m e (until b t f g) = until_set b (size m) (related m t) (means m e f) (means m e g)

-- a relation's formula holds in the pair (s, t); the other tokens are of set calls only, and hold nowhere
abbrev pub holds : Form → ℕ → ℕ → Bool
holds bot s t = false
holds top s t = true
holds (neg f) s t = not (holds f s t)
holds (conj f g) s t = holds f s t && holds g s t
holds (disj f g) s t = holds f s t || holds g s t
holds (now p) s t = bit p s
holds (next p) s t = bit p t
holds (var P) s t = false
holds (reg r) s t = false
holds (box r f) s t = false
holds (dia r f) s t = false
holds (mu P f) s t = false
holds (nu P f) s t = false
holds (until b r f g) s t = false

-- the pairs in which a relation's formula holds, over n state bits
abbrev pub means_pair : ℕ → Form → Pairs
means_pair n f = table (2 ^ n) (λ s. table (2 ^ n) (λ t. holds f s t))

-- "then ANDed with V, then with SHIFT of V": the pairs of Q within the set E
abbrev pub pairs_within : ℕ → List Bool → Pairs → Pairs
pairs_within n E Q = table (2 ^ n) (λ s. table (2 ^ n) (λ t. (pair Q s t && mem E s) && mem E t))
