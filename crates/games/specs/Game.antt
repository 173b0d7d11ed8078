-- "Guest against machine": a guest's move by the pairs G, then a machine's move by the pairs M, over k states; the set from which the
-- machine can force the goal B, the round in which a state enters it, and the machine's answer to a press. V, the states that exist, is not
-- named: in a table no move and no goal has a state outside V, so that no such state is in the set, and no answer leads to one. Assumes
-- nothing.
use Rattle.std.specs.Prelude.{Bool, not, ◌&&◌, ◌||◌, List, ℕ, zero, suc, ltb}
use Rattle.mucalculus.specs.Sets.{mem, table, no_states, all_states, all, any}
use Rattle.mucalculus.specs.Fixpoint.{least}
use Rattle.mucalculus.specs.Form.{Pairs}
use Rattle.mucalculus.specs.Means.{pair}
use Rattle.paths.specs.Runs.{first_of}

-- "the guest has a move" in s
abbrev pub has_move : ℕ → Pairs → ℕ → Bool
has_move k G s = any (λ t. pair G s t) (table k (λ t. t))

-- after the press t "some machine move leads back into the set" A
abbrev pub has_answer : ℕ → Pairs → List Bool → ℕ → Bool
has_answer k M A t = any (λ u. pair M t u && mem A u) (table k (λ u. u))

-- "those in the goal, and those where the guest has a move and after every guest move some machine move leads back into the set"
abbrev pub forcing : ℕ → Pairs → Pairs → List Bool → List Bool → List Bool
forcing k G M B A = table k (λ s. mem B s || (has_move k G s && all (λ t. not (pair G s t) || has_answer k M A t) (table k (λ t. t))))

-- "least such set": of all sets A of k states with forcing A = A
abbrev pub forced : ℕ → Pairs → Pairs → List Bool → List Bool
forced k G M B = least k (all_states k) (forcing k G M B)

-- the set after so many rounds
abbrev pub set_after : ℕ → Pairs → Pairs → List Bool → ℕ → List Bool
set_after k G M B zero = no_states k
set_after k G M B (suc i) = forcing k G M B (set_after k G M B i)

-- the round in which s enters: the first after which it is in the set; k + 1 where it never does
abbrev pub enters : ℕ → Pairs → Pairs → List Bool → ℕ → ℕ
enters k G M B s = first_of (suc k) (λ i. mem (set_after k G M B i) s)

-- "the least machine answer whose state enters in an earlier round than it": of the state s and the press t; k where there is none
abbrev pub answer_to : ℕ → Pairs → Pairs → List Bool → ℕ → ℕ → ℕ
answer_to k G M B s t = first_of k (λ u. pair M t u && ltb (enters k G M B u) (enters k G M B s))

-- the press t is "a guest move" of a state s "outside the goal"
abbrev pub open_move : Pairs → List Bool → ℕ → ℕ → Bool
open_move G B s t = not (mem B s) && pair G s t

-- there is an answer: "for a state of the set outside the goal and a guest move"; else 15 is given
abbrev pub answerable : ℕ → Pairs → Pairs → List Bool → ℕ → ℕ → Bool
answerable k G M B s t = mem (forced k G M B) s && open_move G B s t
