-- What a formula is read over: the states of a model, or the pairs of all states; and its values, sets of the one or the other, as
-- functions of levels. Assumes nothing.
use Rattle.std.specs.Prelude.{Bool, List, ℕ, ◌+◌, ◌*◌, ◌^◌, ◌/◌, ◌%◌}
use Rattle.mucalculus.specs.Sets.{mem, table, all_states}
use Rattle.mucalculus.specs.Form.{Form, Model, Env}
use Rattle.mucalculus.specs.Means.{bit, bit_states, size, exist, means, means_pair}
use Rattle.diagram.specs.Level.{Val, Fn}
use Rattle.book.specs.States.{now_of, next_of}
use Rattle.book.specs.Bridge.{fn_of, fn_of_pairs}

-- the states of a model, with a set for each variable; or the pairs of all states of n bits
pub data Over : Type 0 where
  states : Model → Env → Over
  pairs : ℕ → Over

-- how many state bits there are
abbrev pub bits_of : Over → ℕ
bits_of (states m e) = m.n
bits_of (pairs n) = n

-- a relation formula's value as a function of levels
abbrev pub pair_f : ℕ → Form → Fn
pair_f n f = fn_of_pairs n (means_pair n f)

-- the value of f, which is its meaning, as a function of levels
abbrev pub value_f : Over → Form → Fn
value_f (states m e) f = fn_of m.n (means m e f)
value_f (pairs n) f = pair_f n f

-- ---- values as lists

-- how many pairs there are: (s, t) is the number s · 2^n + t
abbrev pub all_pairs : ℕ → ℕ
all_pairs n = 2 ^ n * 2 ^ n

abbrev pub size_of : Over → ℕ
size_of (states m e) = size m
size_of (pairs n) = all_pairs n

-- the state or the pair that a valuation makes
abbrev pub point_of : Over → Val → ℕ
point_of (states m e) v = now_of m.n v
point_of (pairs n) v = now_of n v * 2 ^ n + next_of n v

-- the function of a set of states or of pairs
abbrev pub levels : Over → List Bool → Fn
levels (states m e) A = fn_of m.n A
levels (pairs n) A = λ v. mem A (point_of (pairs n) v)

-- true
abbrev pub true_of : Over → List Bool
true_of (states m e) = exist m
true_of (pairs n) = all_states (all_pairs n)

-- where current bit p is 1, and the pairs whose next bit p is 1
abbrev pub now_bit : Over → ℕ → List Bool
now_bit (states m e) p = bit_states (size m) p
now_bit (pairs n) p = table (all_pairs n) (λ x. bit p (x / 2 ^ n))

abbrev pub next_bit : ℕ → ℕ → List Bool
next_bit n p = table (all_pairs n) (λ x. bit p (x % 2 ^ n))
