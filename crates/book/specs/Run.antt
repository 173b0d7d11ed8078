-- "Steps of evaluation" with their needs: the value and what is counted, or 8 or 9, whichever comes first in step order. Assumes nothing.
use Rattle.std.specs.Prelude.{Bool, true, false, cond, List, [], ◌∷◌, ◌++◌, ℕ, zero, suc, ◌*◌, ◌^◌, leb, ltb}
use Rattle.mucalculus.specs.Sets.{no_states, same, all}
use Rattle.mucalculus.specs.Order.{start}
use Rattle.mucalculus.specs.Form.{Form, bot, top, neg, conj, disj, now, next, var, reg, box, dia, mu, nu, until, Pairs, put, inside}
use Rattle.mucalculus.specs.Means.{compl, inter, union, sometimes, size, exist, related}
use Rattle.diagram.specs.Level.{Fn}
use Rattle.diagram.specs.Need.{step_need}
use Rattle.diagram.specs.Steps.{and_f, shift_f, exists_f}
use Rattle.accounts.specs.declared.Count.{Count}
use Rattle.accounts.specs.Count.{needing, another}
use Rattle.book.specs.Bridge.{fn_of, fn_of_pairs}
pub use Rattle.book.specs.Over.{pair_f}
use Rattle.book.specs.Over.{Over, states, pairs, bits_of, size_of, levels, true_of, now_bit, next_bit}
pub use Rattle.book.specs.Ticks.{add_filled, contents, within_needs}
use Rattle.book.specs.Ticks.{of_states, ticks, needs_in}

-- what the steps of a formula come to
pub data Outcome : Type 0 where
  value : List Bool → Count → Outcome  -- the set of states or of pairs, and what is counted
  full : Outcome  -- 8: a step needs more than N rows
  spent : Outcome  -- 9: rounds used up

-- go on with a value and its count
abbrev pub and_then : Outcome → (List Bool → Count → Outcome) → Outcome
and_then (value A c) g = g A c
and_then full g = full
and_then spent g = spent

-- "A reached step with a need above N is refusal 8"; c is counted before it
abbrev pub step : ℕ → ℕ → List Fn → Fn → Count → (Count → Outcome) → Outcome
step n N live result c go = let k = step_need (2 * n) live result in let more = go (needing c k) in cond (leb k N) more full

-- EXISTS at levels 2j − 1, 2j − 3, down to 1, each a step
abbrev pub exists_steps : ℕ → ℕ → List Fn → ℕ → Fn → Count → (Count → Outcome) → Outcome
exists_steps n N live zero F c go = go c
exists_steps n N live (suc j) F c go =
    let E = exists_f (suc (2 * j)) F in
    step n N (F ∷ live) E c (λ d. exists_steps n N live j E d go)

-- AND or OR of the values A and B, `lv` being a value's function of levels; of sets of states
abbrev pub two_by : (List Bool → Fn) → ℕ → ℕ → List Fn → (List Bool → List Bool → List Bool) → List Bool → List Bool → Count → Outcome
two_by lv n N live op A B q = let C = op A B in step n N (lv B ∷ lv A ∷ live) (lv C) q (λ c. value C c)

abbrev pub two_step : ℕ → ℕ → List Fn → (List Bool → List Bool → List Bool) → List Bool → List Bool → Count → Outcome
two_step n N live op A B q = two_by (fn_of n) n N live op A B q

abbrev pub not_step : ℕ → ℕ → List Fn → List Bool → List Bool → Count → Outcome
not_step n N live E A q = let B = compl (2 ^ n) A in step n N (fn_of n A ∷ live) (fn_of n B) q (λ c. two_step n N live (inter (2 ^ n)) B E c)

-- "Diamond of f: SHIFT f, AND with the relation, EXISTS at levels 2n − 1, 2n − 3, down to 1"
abbrev pub dia_steps : ℕ → ℕ → List Fn → Pairs → List Bool → Count → Outcome
dia_steps n N live R A q =
    let B = sometimes (2 ^ n) R A in
    let S = shift_f (fn_of n A) in
    let C = and_f S (fn_of_pairs n R) in
    step n N (fn_of n A ∷ live) S q (λ c. step n N (S ∷ fn_of_pairs n R ∷ live) C c (λ d. exists_steps n N live n C d (λ e. value B e)))

-- "Box: NOT f, diamond, NOT"
abbrev pub box_steps : ℕ → ℕ → List Fn → List Bool → Pairs → List Bool → Count → Outcome
box_steps n N live E R A q = and_then (not_step n N live E A q) (λ B p. and_then (dia_steps n N live R B p) (λ C o. not_step n N live E C o))

-- after f in a round of until at the set A: diamond X, with `false` box X and diamond true
abbrev pub further_steps : Bool → ℕ → ℕ → List Fn → List Bool → Pairs → List Bool → Count → Outcome
further_steps true n N live E R A q = dia_steps n N live R A q
further_steps false n N live E R A q =
    and_then (box_steps n N live E R A q)
    (λ B p. and_then (dia_steps n N (fn_of n B ∷ live) R E p) (λ D o. two_step n N live (inter (2 ^ n)) B D o))

-- two parts: the left one's outcome x, the right one's y at the left one's value, which is live meanwhile, and the step op
abbrev pub both_by : (List Bool → Fn) → ℕ → ℕ → List Fn → (List Bool → List Bool → List Bool) → Outcome → (List Bool → Count → Outcome)
    → Outcome
both_by lv n N live op x y = and_then x (λ A q. and_then (y A q) (λ B p. two_by lv n N live op A B p))

abbrev pub both_steps : ℕ → ℕ → List Fn → (List Bool → List Bool → List Bool) → Outcome → (List Bool → Count → Outcome) → Outcome
both_steps n N live op x y = both_by (fn_of n) n N live op x y

-- f and what follows, in a round of until at the set A: f's outcome is fs
abbrev pub keep_round : ℕ → ℕ → List Fn → Bool → List Bool → Pairs → (List Fn → Count → Outcome) → List Bool → Count → Outcome
keep_round n N live b E R fs A p = both_steps n N live (inter (2 ^ n)) (fs live p) (λ F o. further_steps b n N (fn_of n F ∷ live) E R A o)

-- a round of until at the set A: g's outcome is gs
abbrev pub until_round : ℕ → ℕ → List Fn → Bool → List Bool → Pairs → (List Fn → Count → Outcome) → (List Fn → Count → Outcome) → List Bool
    → Count → Outcome
until_round n N live b E R fs gs A q =
    let held = fn_of n A ∷ live in
    both_steps n N held (union (2 ^ n)) (gs held q) (λ G p. keep_round n N (fn_of n G ∷ held) b E R fs A p)

-- rounds from the set A with r counted before: "Every evaluated body is one round, counted as its evaluation starts; a round wanted when R
-- are counted gives 9. If the value is the same set the binder ends with it." No more than R rounds can start, so R is enough fuel
abbrev pub loop : ℕ → (List Bool → Count → Outcome) → ℕ → List Bool → Count → Outcome
loop R g zero A r = spent
loop R g (suc j) A r =
    let go = and_then (g A (another r)) (λ B q. let more = loop R g j B q in cond (same B A) (value B q) more) in
    cond (ltb r.rounds R) go spent

-- AND with V after a bit or NOT, over states
abbrev pub confine : Over → ℕ → List Fn → List Bool → Count → Outcome
confine (states m e) N live B q = two_step m.n N live (inter (size m)) B (exist m) q
confine (pairs n) N live B q = value B q

-- NOT of the value A, a current bit, and a next bit, which formulas of states do not have
abbrev pub neg_step : Over → ℕ → List Fn → List Bool → Count → Outcome
neg_step o N live A q = let B = compl (size_of o) A in step (bits_of o) N (levels o A ∷ live) (levels o B) q (λ c. confine o N live B c)

abbrev pub now_step : Over → ℕ → List Fn → ℕ → Count → Outcome
now_step o N live p q = let B = now_bit o p in step (bits_of o) N live (levels o B) q (λ c. confine o N live B c)

abbrev pub next_step : Over → ℕ → List Fn → ℕ → Count → Outcome
next_step (states m e) N live p q = value (no_states (size m)) q
next_step (pairs n) N live p q = let B = next_bit n p in step n N live (levels (pairs n) B) q (λ c. value B c)

-- the steps of f with r counted before them. `live` are the functions live throughout: filled registers and relations, current sets
-- of open binders, values made and not yet used
abbrev pub run : Over → ℕ → ℕ → List Fn → Form → Count → Outcome
run o N R live bot r = value (no_states (size_of o)) r
run o N R live top r = value (true_of o) r
run o N R live (neg f) r = and_then (run o N R live f r) (λ A q. neg_step o N live A q)
run o N R live (conj f g) r =
    both_by (levels o) (bits_of o) N live (inter (size_of o)) (run o N R live f r) (λ A q. run o N R (levels o A ∷ live) g q)
run o N R live (disj f g) r =
    both_by (levels o) (bits_of o) N live (union (size_of o)) (run o N R live f r) (λ A q. run o N R (levels o A ∷ live) g q)
run o N R live (now p) r = now_step o N live p r
run o N R live (next p) r = next_step o N live p r
run o N R live (var P) r = of_states o (value (no_states (size_of o)) r) (λ m e. value (inter (size m) (e P) (exist m)) r)
run o N R live (reg x) r = of_states o (value (no_states (size_of o)) r) (λ m e. value (inter (size m) (inside (m.reg x)) (exist m)) r)
run o N R live (box t f) r = of_states o (value (no_states (size_of o)) r) (λ m e.
    and_then (run o N R live f r) (λ A q. box_steps m.n N live (exist m) (related m t) A q))
run o N R live (dia t f) r = of_states o (value (no_states (size_of o)) r) (λ m e.
    and_then (run o N R live f r) (λ A q. dia_steps m.n N live (related m t) A q))
run o N R live (mu P f) r = of_states o (value (no_states (size_of o)) r) (λ m e.
    loop R (λ A q. run (states m (put e P A)) N R (fn_of m.n A ∷ live) f q) R (start true (size m) (exist m)) r)
run o N R live (nu P f) r = of_states o (value (no_states (size_of o)) r) (λ m e.
    loop R (λ A q. run (states m (put e P A)) N R (fn_of m.n A ∷ live) f q) R (start false (size m) (exist m)) r)
run o N R live (until b t f g) r = of_states o (value (no_states (size_of o)) r) (λ m e.
    loop R (until_round m.n N live b (exist m) (related m t) (λ l q. run o N R l f q) (λ l q. run o N R l g q)) R
    (start true (size m) (exist m)) r)

-- ---- relation calls: no rounds, so the needs of the steps are all there is to tell

-- what is counted after some steps
abbrev pub needing_all : Count → List ℕ → Count
needing_all c [] = c
needing_all c (k ∷ ks) = needing_all (needing c k) ks

-- every need is at most N
abbrev pub fit : ℕ → List ℕ → Bool
fit N ks = all (λ k. leb k N) ks

-- the needs of a relation formula's steps, and with those of the three steps with V
abbrev pub pair_needs : ℕ → List Fn → Form → List ℕ
pair_needs n live f = needs_in (ticks (pairs n) live f)

abbrev pub relation_needs : ℕ → List Fn → List Bool → Form → List ℕ
relation_needs n live E f = pair_needs n live f ++ within_needs n live (fn_of n E) (pair_f n f)

-- they fit, and what is counted after them
abbrev pub pairs_fit : ℕ → ℕ → List Fn → Form → Bool
pairs_fit n N live f = fit N (pair_needs n live f)

abbrev pub pairs_count : ℕ → List Fn → Form → Count → Count
pairs_count n live f c = needing_all c (pair_needs n live f)

abbrev pub relation_fits : ℕ → ℕ → List Fn → List Bool → Form → Bool
relation_fits n N live E f = fit N (relation_needs n live E f)

abbrev pub relation_count : ℕ → List Fn → List Bool → Form → Count → Count
relation_count n live E f c = needing_all c (relation_needs n live E f)
