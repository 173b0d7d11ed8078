-- Laws of what specs/Over.antt defines. Assumes nothing.
use mathlib.Core.Path.{◌≡◌, sym, ap, ap₂, ◌∙◌, fun_ext}
use mathlib.Core.Bool.{Bool, true, false, not, ◌&&◌, ◌||◌}
use mathlib.Core.List.{List}
use Prim.Native.Nat.{ℕ, suc, ◌+◌, ◌*◌, ◌^◌, ◌/◌, ◌%◌, ◌≤◌, ◌<◌}
use native.Mathlib.Omega.{arith}
use native.Mathlib.Nat.{add-zero, suc-mul, mul-le-mul_right, mul-add-div_right, mul-add-mod_self_right, div-eq_of_lt, mod-eq_of_lt}
use Rattle.mucalculus.specs.Sets.{mem, table, no_states, all_states}
use Rattle.mucalculus.specs.Form.{Form, bot, top, neg, conj, disj, now, next, var, reg, box, dia, mu, nu, until}
use Rattle.mucalculus.specs.Means.{compl, inter, union, bit}
use Rattle.mucalculus.proofs.Laws.{get_or-table}
use Rattle.diagram.specs.Level.{Val}
use Rattle.diagram.specs.Steps.{not_f, and_f, or_f}
use Rattle.book.specs.States.{now_of, next_of}
use Rattle.book.proofs.States.{now_of-lt}
use Rattle.book.proofs.Bridge.{fn_of-table, fn_of-holds, pairs-not, pairs-and, pairs-or}
use Rattle.book.specs.Over.{Over, states, pairs, pair_f, all_pairs, size_of, point_of, levels, now_bit, next_bit}

-- ---- what the steps on lists are on functions

point_lt : (n : ℕ) (v : Val) → point_of (pairs n) v < all_pairs n
point_lt n v = go (now_of n v) (next_of n v) (2 ^ n) (now_of-lt n v) (now_of-lt n (λ l. v (suc l)))
  where
    go : (s t k : ℕ) → s < k → t < k → s * k + t < k * k
    go s t k a b = let u : suc s * k ≡ s * k + k = suc-mul s k in let w : suc s * k ≤ k * k = mul-le-mul_right k a in omega arith

-- a set given by a test
pub levels-table : (o : Over) (h : ℕ → Bool) → levels o (table (size_of o) h) ≡ (λ v. h (point_of o v))
levels-table (states m e) h = fn_of-table m.n h
levels-table (pairs n) h = fun_ext (λ v. get_or-table (all_pairs n) h (point_of (pairs n) v) false (point_lt n v))

-- NOT, AND, OR
pub levels-not : (o : Over) (A : List Bool) → levels o (compl (size_of o) A) ≡ not_f (levels o A)
levels-not (states m e) A = levels-table (states m e) (λ s. not (mem A s))
levels-not (pairs n) A = levels-table (pairs n) (λ s. not (mem A s))

pub levels-and : (o : Over) (A B : List Bool) → levels o (inter (size_of o) A B) ≡ and_f (levels o A) (levels o B)
levels-and (states m e) A B = levels-table (states m e) (λ s. mem A s && mem B s)
levels-and (pairs n) A B = levels-table (pairs n) (λ s. mem A s && mem B s)

pub levels-or : (o : Over) (A B : List Bool) → levels o (union (size_of o) A B) ≡ or_f (levels o A) (levels o B)
levels-or (states m e) A B = levels-table (states m e) (λ s. mem A s || mem B s)
levels-or (pairs n) A B = levels-table (pairs n) (λ s. mem A s || mem B s)

-- ---- the pairs of a relation's formula

-- as a list; what a relation's formula cannot have, holds nowhere
abbrev pub points_of : ℕ → Form → List Bool
points_of n bot = no_states (all_pairs n)
points_of n top = all_states (all_pairs n)
points_of n (neg f) = compl (all_pairs n) (points_of n f)
points_of n (conj f g) = inter (all_pairs n) (points_of n f) (points_of n g)
points_of n (disj f g) = union (all_pairs n) (points_of n f) (points_of n g)
points_of n (now p) = now_bit (pairs n) p
points_of n (next p) = next_bit n p
points_of n (var P) = no_states (all_pairs n)
points_of n (reg r) = no_states (all_pairs n)
points_of n (box t f) = no_states (all_pairs n)
points_of n (dia t f) = no_states (all_pairs n)
points_of n (mu P f) = no_states (all_pairs n)
points_of n (nu P f) = no_states (all_pairs n)
points_of n (until b t f g) = no_states (all_pairs n)

-- the states of a pair's number
point_now : (n : ℕ) (v : Val) → point_of (pairs n) v / 2 ^ n ≡ now_of n v
point_now n v =
    let t : next_of n v < 2 ^ n = now_of-lt n (λ l. v (suc l)) in
    let p : 0 < 2 ^ n = omega arith in
    mul-add-div_right p (now_of n v) (next_of n v) ∙ ap (λ (k : ℕ). now_of n v + k) (div-eq_of_lt t) ∙ add-zero (now_of n v)

point_next : (n : ℕ) (v : Val) → point_of (pairs n) v % 2 ^ n ≡ next_of n v
point_next n v = mul-add-mod_self_right (now_of n v) (2 ^ n) (next_of n v) ∙ mod-eq_of_lt (now_of-lt n (λ l. v (suc l)))

-- they are the formula's value
pub points_value : (n : ℕ) (f : Form) → levels (pairs n) (points_of n f) ≡ pair_f n f
points_value n bot = levels-table (pairs n) (λ x. false) ∙ sym (fn_of-holds n bot)
points_value n top = levels-table (pairs n) (λ x. true) ∙ sym (fn_of-holds n top)
points_value n (neg f) = levels-not (pairs n) (points_of n f) ∙ ap not_f (points_value n f) ∙ sym (pairs-not n f)
points_value n (conj f g) =
    levels-and (pairs n) (points_of n f) (points_of n g) ∙ ap₂ and_f (points_value n f) (points_value n g) ∙ sym (pairs-and n f g)
points_value n (disj f g) =
    levels-or (pairs n) (points_of n f) (points_of n g) ∙ ap₂ or_f (points_value n f) (points_value n g) ∙ sym (pairs-or n f g)
points_value n (now p) =
    levels-table (pairs n) (λ x. bit p (x / 2 ^ n)) ∙ fun_ext (λ v. ap (bit p) (point_now n v)) ∙ sym (fn_of-holds n (now p))
points_value n (next p) =
    levels-table (pairs n) (λ x. bit p (x % 2 ^ n)) ∙ fun_ext (λ v. ap (bit p) (point_next n v)) ∙ sym (fn_of-holds n (next p))
points_value n (var P) = levels-table (pairs n) (λ x. false) ∙ sym (fn_of-holds n (var P))
points_value n (reg r) = levels-table (pairs n) (λ x. false) ∙ sym (fn_of-holds n (reg r))
points_value n (box t f) = levels-table (pairs n) (λ x. false) ∙ sym (fn_of-holds n (box t f))
points_value n (dia t f) = levels-table (pairs n) (λ x. false) ∙ sym (fn_of-holds n (dia t f))
points_value n (mu P f) = levels-table (pairs n) (λ x. false) ∙ sym (fn_of-holds n (mu P f))
points_value n (nu P f) = levels-table (pairs n) (λ x. false) ∙ sym (fn_of-holds n (nu P f))
points_value n (until b t f g) = levels-table (pairs n) (λ x. false) ∙ sym (fn_of-holds n (until b t f g))
