-- From what a part's evaluation and a chain of steps give to the book's outcome of the whole. Assumes nothing.
use Rattle.std.specs.Prelude.{Result, Ok, Err}
use Rattle.std.specs.Result.{IsErrAnd}
use Rattle.std.proofs.lemmas.Result.{err_from_is_err_and}
use mathlib.Core.Path.{◌≡◌, refl, sym, ap, ap₂, ◌∙◌, subst}
use mathlib.Core.Bool.{Bool, true, false, cond}
use mathlib.Core.List.{List, [], ◌∷◌, ◌++◌}
use Prim.Native.Nat.{ℕ, ◌*◌, ◌^◌}
use Rattle.mucalculus.specs.Form.{Form, neg, now, Pairs, Model, Env, put}
use Rattle.mucalculus.specs.Means.{inter, union, compl, sometimes, always, size, exist, related}
use Rattle.mucalculus.specs.Exist.{Inside}
use Rattle.mucalculus.proofs.Exist.{box_in}
use Rattle.mucalculus.specs.Order.{start}
use Rattle.tokens.specs.declared.Join.{Join}
use Rattle.tokens.specs.declared.Join.TheVariants.{And, Or}
use Rattle.tokens.specs.declared.Mode.{Mode}
use Rattle.tokens.specs.declared.Mode.TheVariants as mode
use Rattle.tokens.specs.declared.Fix.{Fix}
use Rattle.tokens.specs.declared.Fix.TheVariants.{Mu, Nu}
use Rattle.formula.specs.Parse.{join_form, modal_form, binder_form}
use Rattle.diagram.specs.Level.{Fn}
use Rattle.diagram.specs.Rows.{Rows}
use Rattle.diagram.specs.Post.{Denotes}
use Rattle.table.specs.Make.{result}
use Rattle.table.specs.declared.Full.{Full}
use Rattle.counting.specs.Taken.{made_in, count_in}
use Rattle.counting.specs.declared.Taken.{Taken}
use Rattle.accounts.specs.declared.Count.{Count}
use Rattle.diagram.specs.Need.{step_need}
use Rattle.diagram.specs.Steps.{and_f, or_f}
use Rattle.book.specs.Bridge.{fn_of, fn_of_pairs}
use Rattle.book.proofs.Bridge.{fn_of-not, fn_of-and}
use Rattle.book.specs.Over.{Over, states, levels, size_of, now_bit}
use Rattle.book.proofs.Over.{levels-and, levels-or}
use Rattle.book.specs.Diamond.{diamond_f}
use Rattle.book.proofs.Diamond.{diamond-exact}
use Rattle.book.specs.Ticks.{counted, full as full_verdict, diamond_needs, dia_needs, not_needs, box_needs}
use Rattle.book.specs.Run.{fit}
use Rattle.book.proofs.Verdicts.{settle, steps-verdict, dia_ticks, box-ticks}
use Rattle.book.specs.Run.{needing_all, Outcome, value, full, spent, and_then, step, confine, both_by, dia_steps, box_steps, loop, run}
use Rattle.book.specs.Follow.{ends, MatchesBy, EvalsBy, Evals}
use Rattle.book.proofs.Follow.{Matches, Stops, evals-same}
use Rattle.book.specs.Pairs.{PairEvals, PairMatches}
use Rattle.modal.specs.Modal.{within_not, complement_needs, boxed_needs, boxed_f}
use Rattle.modal.specs.declared.Limits.{Limits}
use Rattle.layout.specs.View.{View}
use Rattle.steps.specs.declared.Step.{Step}
use Rattle.evaluator.specs.Scene.{evaluated}
use Rattle.evaluator.specs.Scene.{over_of, ended_of, ended_in, EndsAt, from_taken, join_step, is_least, LivePre, LivePost, JoinedPre}
use Rattle.evaluator.specs.Scene.{JoinedPost}
use Rattle.evaluator.specs.declared.Stopped.{Stopped}
use Rattle.evaluator.specs.declared.Value.{Value}
use Rattle.evaluator.specs.declared.Stopped.TheVariants as stopped

-- ---- answers

-- the answer is no value
abbrev pub Halts : Result Value Stopped → Type 0
Halts r = (s : Stopped) × (r ≡ Err s)

no_halt : {v : Value} → Halts (Ok v) → ⊥
no_halt h = let e = h.1 in cc

-- what `?` hands on is what the part answered
pub handed-on : (r : Result Value Stopped) {u : Result Value Stopped} {x : Stopped} → IsErrAnd r (λ (e : Stopped). e ≡ x) → u ≡ Err x
    → r ≡ u
handed-on r i w = let p = err_from_is_err_and r i in let told = p.1 in let same = p.2 in cc

-- a part without value ends its joining, and one with a value goes through the step
pub joined_stops : {L : Limits} {W : View} {stack : List ℕ} {held : ℕ} {j : Join} {a : ℕ} (r : Result Value Stopped) → Halts r
    → JoinedPost L W W stack held j a r r
joined_stops (Ok v) h = absurd (no_halt h)
joined_stops (Err stopped.Full) h = record { joins = (refl, refl) }
joined_stops (Err stopped.Spent) h = record { joins = (refl, refl) }

pub joined_step : {L : Limits} {W : View} {stack : List ℕ} {held : ℕ} {j : Join} {a : ℕ} {second : Result Value Stopped}
    → JoinedPre L W stack held j a second → {b k : ℕ} {q : Count} → second ≡ evaluated b k q
    → {s : Step} → s ≡ join_step j a b → LivePre L W stack held s
joined_step {L} {W} {stack} {held} P {b} {k} {q} is joins = subst (LivePre L W stack held) (sym joins) (P.asks b k q is)

pub joined-steps : {L : Limits} {W X : View} {stack : List ℕ} {held : ℕ} {j : Join} {a : ℕ} {second : Result Value Stopped} {b k : ℕ}
    {q : Count}
    → second ≡ evaluated b k q → {s : Step} → s ≡ join_step j a b
    → {o : Result Taken Full} {r : Result Value Stopped} → LivePost L W X stack held s q o → r ≡ from_taken k o
    → JoinedPost L W X stack held j a second r
joined-steps {L} {W} {X} {stack} {held} {j} {a} {second} {b} {k} {q} is {s} joins {o} {r} v is-r =
    subst (λ (x : Result Value Stopped). JoinedPost L W X stack held j a x r) (sym is)
    (record { joins = (o, subst (λ (y : Step). LivePost L W X stack held y q o) joins v, is-r) })

pub halts_stops : (r : Result Value Stopped) → Halts r → Stops (ended_of r)
halts_stops (Ok v) h = absurd (no_halt h)
halts_stops (Err stopped.Full) h = tt
halts_stops (Err stopped.Spent) h = tt

pub halts_end : (e : ℕ) (r : Result Value Stopped) → Halts r → EndsAt e r
halts_end e (Ok v) h = absurd (no_halt h)
halts_end e (Err stopped.Full) h = tt
halts_end e (Err stopped.Spent) h = tt

-- a step's answer
pub taken-ended : (e : ℕ) (o : Result Taken Full) → ended_in o ≡ ended_of (from_taken e o)
taken-ended e (Ok t) = refl
taken-ended e (Err x) = refl

pub taken-end : (e : ℕ) (o : Result Taken Full) → EndsAt e (from_taken e o)
taken-end e (Ok t) = refl
taken-end e (Err x) = tt

-- a value stands for a set that its arrow denotes
pub evals-value : {lv : List Bool → Fn} {n N : ℕ} {before after : Rows} {roots : List ℕ} {a : ℕ} {p : Count} (o : Outcome)
    → EvalsBy lv n N before after roots o (ends a p)
    → (A : List Bool) × (o ≡ value A p) × Denotes (2 * n) after a (lv A)
evals-value {lv} {n} {after = after} {a = a} {p = p} o d = go o d.result
  where
    go : (o : Outcome) → MatchesBy lv n after o (ends a p) → (A : List Bool) × (o ≡ value A p) × Denotes (2 * n) after a (lv A)
    go (value A q) m = (A, ap (value A) (sym m.1), m.0)
    go full m = absurd m
    go spent m = absurd m

-- ---- what the run of an operator is, AND and OR alike, box and diamond, mu and nu

abbrev pub join_op : Join → ℕ → List Bool → List Bool → List Bool
join_op And = inter
join_op Or = union

abbrev pub join_f : Join → Fn → Fn → Fn
join_f And = and_f
join_f Or = or_f

pub join-exact : (o : Over) (j : Join) (A B : List Bool) → levels o (join_op j (size_of o) A B) ≡ join_f j (levels o A) (levels o B)
join-exact o And A B = levels-and o A B
join-exact o Or A B = levels-or o A B

-- a step for the set B, `operands` being live, and over states AND with V
abbrev pub step_by : Bool → Model → Env → ℕ → List Fn → List Fn → List Bool → Count → Outcome
step_by b m e N live operands B q = step m.n N operands (levels (over_of b m e) B) q (λ c. confine (over_of b m e) N live B c)

abbrev pub not_by : Bool → Model → Env → ℕ → List Fn → List Bool → Count → Outcome
not_by b m e N live A q = step_by b m e N live (levels (over_of b m e) A ∷ live) (compl (size_of (over_of b m e)) A) q

-- over states with `true`, over pairs with `false`
module _ (b : Bool) (m : Model) (e : Env) (N R : ℕ) (live : List Fn) where
  pub run_join : (j : Join) (f g : Form) (r : Count) → run (over_of b m e) N R live (join_form j f g) r
      ≡ both_by (levels (over_of b m e)) m.n N live (join_op j (size_of (over_of b m e))) (run (over_of b m e) N R live f r)
      (λ A q. run (over_of b m e) N R (levels (over_of b m e) A ∷ live) g q)
  run_join j f g r = go b j
    where
      go : (b : Bool) (j : Join) → run (over_of b m e) N R live (join_form j f g) r
          ≡ both_by (levels (over_of b m e)) m.n N live (join_op j (size_of (over_of b m e))) (run (over_of b m e) N R live f r)
          (λ A q. run (over_of b m e) N R (levels (over_of b m e) A ∷ live) g q)
      go true And = refl
      go true Or = refl
      go false And = refl
      go false Or = refl

  pub run-neg : (f : Form) (r : Count)
      → run (over_of b m e) N R live (neg f) r ≡ and_then (run (over_of b m e) N R live f r) (λ A q. not_by b m e N live A q)
  run-neg f r = go b
    where
      go : (b : Bool)
          → run (over_of b m e) N R live (neg f) r ≡ and_then (run (over_of b m e) N R live f r) (λ A q. not_by b m e N live A q)
      go true = refl
      go false = refl

  pub run-now : (p : ℕ) (r : Count) → run (over_of b m e) N R live (now p) r ≡ step_by b m e N live live (now_bit (over_of b m e) p) r
  run-now p r = go b
    where
      go : (b : Bool) → run (over_of b m e) N R live (now p) r ≡ step_by b m e N live live (now_bit (over_of b m e) p) r
      go true = refl
      go false = refl

-- E is V
abbrev pub over_steps : Mode → ℕ → ℕ → List Fn → List Bool → Pairs → List Bool → Count → Outcome
over_steps mode.All n N live E R A q = box_steps n N live E R A q
over_steps mode.Some n N live E R A q = dia_steps n N live R A q

pub run-modal : (m : Model) (N R : ℕ) (e : Env) (live : List Fn) (o : Mode) (t : ℕ) (f : Form) (r : Count)
    → run (states m e) N R live (modal_form o t f) r
    ≡ and_then (run (states m e) N R live f r) (λ A q. over_steps o m.n N live (exist m) (related m t) A q)
run-modal m N R e live mode.All t f r = refl
run-modal m N R e live mode.Some t f r = refl

pub run_binder : (m : Model) (N R : ℕ) (e : Env) (live : List Fn) (x : Fix) (P : ℕ) (f : Form) (r : Count)
    → run (states m e) N R live (binder_form x P f) r
    ≡ loop R (λ A q. run (states m (put e P A)) N R (fn_of m.n A ∷ live) f q) R (start (is_least x) (size m) (exist m)) r
run_binder m N R e live Mu P f r = refl
run_binder m N R e live Nu P f r = refl

-- ---- a chain of steps

-- a chain for the set C, after which c is counted in the book
pub chain-evals : {n N : ℕ} {before after : Rows} {roots : List ℕ} {F : Fn} {c : Count} (fits : Bool) (o : Result Taken Full)
    (C : List Bool)
    → F ≡ fn_of n C
    → PairEvals n N before after roots fits F c (result (made_in o)) (count_in o)
    → Evals n N before after roots (settle C (cond fits (counted c) full_verdict)) (ended_in o)
chain-evals {n} {after = after} {F = F} {c} fits o C e p = record { wf = p.wf; kept = p.kept; result = go fits o p.result }
  where
    go : (fits : Bool) (o : Result Taken Full) → PairMatches n after fits F c (result (made_in o)) (count_in o)
        → Matches n after (settle C (cond fits (counted c) full_verdict)) (ended_in o)
    go true (Ok t) m = (subst (λ (G : Fn). Denotes (2 * n) after t.arrow G) e m.0, m.1)
    go true (Err x) m = absurd m
    go false (Ok t) m = absurd m
    go false (Err x) m = tt

-- NOT within V, of the set's function and of the set
within_not_lem : (n : ℕ) (E A : List Bool) → within_not (fn_of n E) (fn_of n A) ≡ fn_of n (inter (2 ^ n) (compl (2 ^ n) A) E)
within_not_lem n E A = ap (λ (G : Fn). and_f G (fn_of n E)) (sym (fn_of-not n A)) ∙ sym (fn_of-and n (compl (2 ^ n) A) E)

-- its needs
not_needs_lem : (n : ℕ) (fs : List Fn) (E A : List Bool) → complement_needs n fs (fn_of n E) (fn_of n A) ≡ not_needs n fs E A
not_needs_lem n fs E A =
    ap (λ (G : Fn). step_need (2 * n) (fn_of n A ∷ fs) G ∷ step_need (2 * n) (fn_of n E ∷ G ∷ fs) (and_f G (fn_of n E)) ∷ []) (sym (fn_of-not n A))
    ∙ ap (λ (G : Fn). step_need (2 * n) (fn_of n A ∷ fs) (fn_of n (compl (2 ^ n) A))
    ∷ step_need (2 * n) (fn_of n E ∷ fn_of n (compl (2 ^ n) A) ∷ fs) G ∷ []) (sym (fn_of-and n (compl (2 ^ n) A) E))

-- the needs of box over the set's function and over the set
box_needs_lem : (n : ℕ) (fs : List Fn) (E : List Bool) (Q : Pairs) (A : List Bool)
    → boxed_needs n fs (fn_of n E) (fn_of_pairs n Q) (fn_of n A) ≡ box_needs n fs E Q A
box_needs_lem n fs E Q A =
    let B = inter (2 ^ n) (compl (2 ^ n) A) E in
    ap₂ ◌++◌ (not_needs_lem n fs E A)
    (ap (λ (G : Fn). diamond_needs n fs (fn_of_pairs n Q) G ++ complement_needs n fs (fn_of n E) (diamond_f n (fn_of_pairs n Q) G))
    (within_not_lem n E A)
    ∙ ap (λ (D : Fn). dia_needs n fs Q B ++ complement_needs n fs (fn_of n E) D) (sym (diamond-exact n Q B))
    ∙ ap (λ (ks : List ℕ). dia_needs n fs Q B ++ ks) (not_needs_lem n fs E (sometimes (2 ^ n) Q B)))

-- box of functions is box of sets
box-is : (n : ℕ) (E : List Bool) (Q : Pairs) (A : List Bool) → Inside (2 ^ n) E Q
    → boxed_f n (fn_of n E) (fn_of_pairs n Q) (fn_of n A) ≡ fn_of n (inter (2 ^ n) (always (2 ^ n) Q A) E)
box-is n E Q A i =
    let B = inter (2 ^ n) (compl (2 ^ n) A) E in
    ap (λ (G : Fn). within_not (fn_of n E) (diamond_f n (fn_of_pairs n Q) G)) (within_not_lem n E A)
    ∙ ap (within_not (fn_of n E)) (sym (diamond-exact n Q B))
    ∙ within_not_lem n E (sometimes (2 ^ n) Q B)
    ∙ ap (fn_of n) (box_in (2 ^ n) E Q i A)

module _ {n N : ℕ} (limit : ℕ) {before after : Rows} {roots : List ℕ} (fs : List Fn) where
  module _ (Q : Pairs) (A : List Bool) (o : Result Taken Full) (q : Count) where
    pub diamond-evals : PairEvals n N before after roots (fit limit (diamond_needs n fs (fn_of_pairs n Q) (fn_of n A)))
        (diamond_f n (fn_of_pairs n Q) (fn_of n A))
        (needing_all q (diamond_needs n fs (fn_of_pairs n Q) (fn_of n A))) (result (made_in o)) (count_in o)
        → Evals n N before after roots (dia_steps n limit fs Q A q) (ended_in o)
    diamond-evals p =
        evals-same
        (ap (settle (sometimes (2 ^ n) Q A)) (sym (steps-verdict limit 0 q (dia_needs n fs Q A))) ∙ sym (dia_ticks limit 0 n fs Q A q))
        (chain-evals (fit limit (dia_needs n fs Q A)) o (sometimes (2 ^ n) Q A) (sym (diamond-exact n Q A)) p)

    pub box-evals : (E : List Bool) → Inside (2 ^ n) E Q
        → PairEvals n N before after roots (fit limit (boxed_needs n fs (fn_of n E) (fn_of_pairs n Q) (fn_of n A)))
        (boxed_f n (fn_of n E) (fn_of_pairs n Q) (fn_of n A))
        (needing_all q (boxed_needs n fs (fn_of n E) (fn_of_pairs n Q) (fn_of n A))) (result (made_in o)) (count_in o)
        → Evals n N before after roots (box_steps n limit fs E Q A q) (ended_in o)
    box-evals E i p =
        let C = inter (2 ^ n) (always (2 ^ n) Q A) E in
        evals-same (ap (settle C) (sym (steps-verdict limit 0 q (box_needs n fs E Q A))) ∙ sym (box-ticks limit 0 n E Q i fs A q))
        (chain-evals (fit limit (box_needs n fs E Q A)) o C (box-is n E Q A i)
        (subst (λ (ks : List ℕ). PairEvals n N before after roots (fit limit ks) (boxed_f n (fn_of n E) (fn_of_pairs n Q) (fn_of n A))
        (needing_all q ks) (result (made_in o)) (count_in o)) (box_needs_lem n fs E Q A) p))
