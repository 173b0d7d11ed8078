-- Laws of what specs/Follow.antt defines. Assumes nothing.
use mathlib.Core.Path.{◌≡◌, refl, sym, ap, ap₂, ◌∙◌, subst, fun_ext}
use mathlib.Core.Bool.{Bool, true, false, ◌&&◌}
use lib.Dec.{T}
use mathlib.Core.List.Memᴰ.{head as here}
use mathlib.Core.List.Memᴰ.{tail as there}
use mathlib.Core.List.{List, ◌∷◌, map, Memᴰ as Mem}
use Prim.Native.Nat.{ℕ, ◌*◌, ◌^◌, ◌<◌}
use Rattle.mucalculus.specs.Sets.{mem, table}
use Rattle.mucalculus.specs.Order.{Below}
use Rattle.mucalculus.specs.Means.{clip, inter, bit_states}
use Rattle.diagram.specs.Level.{Fn}
use Rattle.diagram.specs.Rows.{Rows, den, WellFormed}
use Rattle.diagram.proofs.Den.{den-zero, den-one}
use Rattle.diagram.specs.Post.{Result, at, full as no_rows, Denotes}
use Rattle.diagram.specs.Count.{Within}
use Rattle.diagram.specs.Keep.{Keeps}
use Rattle.diagram.proofs.Keep.{keeps_refl, keeps_trans, keeps_within, keeps_on, keeps_denotes}
use Rattle.diagram.specs.Step.{StepPost}
use Rattle.diagram.specs.Steps.{bit_f, and_f}
use Rattle.diagram.specs.Need.{step_need}
use Rattle.book.specs.States.{now_of}
use Rattle.accounts.specs.declared.Count.{Count}
use Rattle.accounts.specs.Count.{needing}
use Rattle.book.specs.Bridge.{fn_of}
use Rattle.book.proofs.Bridge.{fn_of-none, fn_of-all, fn_of-bit, fn_of-clip, fn_of-table, fn_of-and}
use Rattle.book.specs.Run.{Outcome, value, full, spent, and_then, step, two_by, two_step}
use Rattle.book.proofs.Run.{bit_step}
use Rattle.book.specs.Held.{Held}
use Rattle.book.proofs.Held.{denotes-same, denoted, held-arrow, held-push, held-operand, held_keeps, goes_on, Needed, step-taken}
use Rattle.book.specs.Follow.{Ended, ends, eight, nine, MatchesBy, EvalsBy, Evals}

abbrev pub Matches : ℕ → Rows → Outcome → Ended → Type 0
Matches n rows o y = MatchesBy (fn_of n) n rows o y

-- a step's answer, with what is counted after it
abbrev pub ended_by : Result → Count → Ended
ended_by (at a) q = ends a q
ended_by no_rows q = eight

-- the answer is no value
abbrev pub Stops : Ended → Type 0
Stops (ends a p) = ⊥
Stops eight = Unit {0}
Stops nine = Unit {0}

pub evals-same : {lv : List Bool → Fn} {n N : ℕ} {before after : Rows} {roots : List ℕ} {o u : Outcome} {y : Ended} → o ≡ u
    → EvalsBy lv n N before after roots o y → EvalsBy lv n N before after roots u y
evals-same {lv} {n} {N} {before} {after} {roots} {y = y} e p = subst (λ (x : Outcome). EvalsBy lv n N before after roots x y) e p

module _ (n N : ℕ) where
  -- ---- constants, registers and variables of states

  pub denotes-none : (rows : Rows) → Denotes (2 * n) rows 0 (fn_of n (table (2 ^ n) (λ s. false)))
  denotes-none rows = record { arrow = tt; same = λ v. den-zero (2 * n) rows v ∙ sym (ap (λ (F : Fn). F v) (fn_of-none n)) }

  pub denotes-all : (rows : Rows) → Denotes (2 * n) rows 1 (fn_of n (table (2 ^ n) (λ s. true)))
  denotes-all rows = record { arrow = tt; same = λ v. den-one (2 * n) rows v ∙ sym (ap (λ (F : Fn). F v) (fn_of-all n)) }

  -- a register or a variable, whose states exist: its set with exactly the states' places
  pub denotes_in : {rows : Rows} {a : ℕ} (A E : List Bool) → Below A E → Denotes (2 * n) rows a (fn_of n A)
      → Denotes (2 * n) rows a (fn_of n (inter (2 ^ n) A E))
  denotes_in A E h d =
      denotes-same
      (sym (fn_of-table n (λ s. mem A s && mem E s) ∙ fun_ext (λ v. go (mem A (now_of n v)) (mem E (now_of n v)) (h (now_of n v))))) d
    where
      go : (a c : Bool) → (T a → T c) → (a && c) ≡ a
      go true true i = refl
      go true false i = absurd (i tt)
      go false c i = refl

  -- true, which is V
  pub denotes-clip : {rows : Rows} {a : ℕ} (A : List Bool) → Denotes (2 * n) rows a (fn_of n A)
      → Denotes (2 * n) rows a (fn_of n (clip (2 ^ n) A))
  denotes-clip A d = denotes-same (sym (fn_of-clip n A)) d

module _ {lv : List Bool → Fn} (n N : ℕ) where
  -- ---- what takes no step

  pub evals-leaf : {rows : Rows} {roots : List ℕ} {live : List Fn} {a : ℕ} {A : List Bool} (q : Count) → WellFormed (2 * n) N rows
      → Held (2 * n) rows roots live
      → Denotes (2 * n) rows a (lv A) → EvalsBy lv n N rows rows roots (value A q) (ends a q)
  evals-leaf q wf h d = record { wf = wf; kept = keeps_refl wf (held-arrow h); result = (d, refl) }

  -- ---- one step

  module _ {limit : ℕ} {before mid after : Rows} {roots roots' : List ℕ} {live' : List Fn} {F : Fn} (C : List Bool) (q : Count)
      (keeping : Keeps mid after roots' → Keeps before after roots) (h : Held (2 * n) mid roots' live') (e : F ≡ lv C) where
    step-ends : (c : Count) (answer : Result) → StepPost (2 * n) N limit mid after roots' answer (lv C)
        → EvalsBy lv n N before after roots (goes_on answer (value C c)) (ended_by answer c)
    step-ends c (at b) p = record { wf = p.wf; kept = keeping p.kept; result = (p.result.0, refl) }
    step-ends c no_rows p = record { wf = p.wf; kept = keeping p.kept; result = tt }

    -- a step after others: its result is the set C, and it needed k rows
    pub evals-step : (answer : Result) → StepPost (2 * n) N limit mid after roots' answer F → (k : ℕ) → Needed (2 * n) mid roots' F answer k
        → EvalsBy lv n N before after roots (step n limit live' (lv C) q (λ c. value C c)) (ended_by answer (needing q k))
    evals-step answer p' k x =
        let p : StepPost (2 * n) N limit mid after roots' answer
        (lv C) = subst (λ (G : Fn). StepPost (2 * n) N limit mid after roots' answer G) e p' in
        let y : Needed (2 * n) mid roots' (lv C) answer k = subst (λ (G : Fn). Needed (2 * n) mid roots' G answer k) e x in
        evals-same (sym (step-taken n N h answer p k y q (λ c. value C c))) (step-ends (needing q k) answer p)

  -- a step after others for the set B, and what follows it: the rows ran out at once, or the rest decides
  module _ {limit : ℕ} {before mid : Rows} {roots roots' : List ℕ} {live' : List Fn} {F : Fn} (B : List Bool) (q : Count)
      (keeping : (t : Rows) → Keeps mid t roots' → Keeps before t roots) (h : Held (2 * n) mid roots' live') (e : F ≡ lv B)
      (G : Count → Outcome) where
    pub evals_out : {after : Rows} → StepPost (2 * n) N limit mid after roots' no_rows F
        → EvalsBy lv n N before after roots (step n limit live' (lv B) q G) eight
    evals_out {after} s' =
        let s = subst (λ (H : Fn). StepPost (2 * n) N limit mid after roots' no_rows H) e s' in
        evals-same (sym (step-taken n N h no_rows s 0 tt q G)) (record { wf = s.wf; kept = keeping after s.kept; result = tt })

    pub evals-on : {late after : Rows} {x : ℕ} {y : Ended} → StepPost (2 * n) N limit mid late roots' (at x) F → (j : ℕ)
        → Needed (2 * n) mid roots' F (at x) j
        → (WellFormed (2 * n) N late → Keeps before late roots → Denotes (2 * n) late x (lv B)
        → EvalsBy lv n N before after roots (G (needing q j)) y)
        → EvalsBy lv n N before after roots (step n limit live' (lv B) q G) y
    evals-on {late} {x = x} s' j i rest =
        let s = subst (λ (H : Fn). StepPost (2 * n) N limit mid late roots' (at x) H) e s' in
        let y : j
        ≡ step_need (2 * n) (map (den (2 * n) mid) roots')
        (lv B) = subst (λ (H : Fn). j ≡ step_need (2 * n) (map (den (2 * n) mid) roots') H) e i in
        evals-same (sym (step-taken n N h (at x) s j y q G)) (rest s.wf (keeping late s.kept) s.result.0)

  -- ---- what stopped stays so

  pub evals-stop : {before after : Rows} {roots : List ℕ} (o : Outcome) (y : Ended) (G : List Bool → Count → Outcome) → Stops y
      → EvalsBy lv n N before after roots o y → EvalsBy lv n N before after roots (and_then o G) y
  evals-stop {after = after} o y G s p = record { wf = p.wf; kept = p.kept; result = go after o y s p.result }
    where
      go : (rows : Rows) (o : Outcome) (y : Ended) → Stops y → MatchesBy lv n rows o y → MatchesBy lv n rows (and_then o G) y
      go rows (value A q) (ends a r) s m = absurd s
      go rows (value A q) eight s m = absurd m
      go rows (value A q) nine s m = absurd m
      go rows full (ends a r) s m = absurd s
      go rows full eight s m = m
      go rows full nine s m = m
      go rows spent (ends a r) s m = absurd s
      go rows spent eight s m = m
      go rows spent nine s m = m

  -- an evaluation with more roots, from a later table
  pub evals-from : {before mid after : Rows} {roots roots' : List ℕ} {o : Outcome} {y : Ended} → Keeps before mid roots
      → Within roots roots' → EvalsBy lv n N mid after roots' o y
      → EvalsBy lv n N before after roots o y
  evals-from k within p = record { wf = p.wf; kept = keeps_trans k (keeps_within within p.kept); result = p.result }

  -- what follows a value
  pub evals_then : {before mid after : Rows} {roots : List ℕ}
      {a : ℕ} {p : Count} {y : Ended} (o : Outcome) (G : List Bool → Count → Outcome) → EvalsBy lv n N before mid roots o (ends a p)
      → ((A : List Bool) → Denotes (2 * n) mid a (lv A) → EvalsBy lv n N before after roots (G A p) y)
      → EvalsBy lv n N before after roots (and_then o G) y
  evals_then {before} {mid} {after} {roots} {a} {p} {y} o G d k = go o d.result
    where
      go : (o : Outcome) → MatchesBy lv n mid o (ends a p) → EvalsBy lv n N before after roots (and_then o G) y
      go (value A q) m = subst (λ (x : Count). EvalsBy lv n N before after roots (G A x) y) m.1 (k A m.0)
      go full m = absurd m
      go spent m = absurd m

  module _ {before : Rows} {roots : List ℕ} {live : List Fn} (h : Held (2 * n) before roots live) where
    -- AND and OR: the left part's value is live during the right part's steps
    pub evals-two : (op : List Bool → List Bool → List Bool) (op_f : Fn → Fn → Fn) → ((A B : List Bool) → lv (op A B) ≡ op_f (lv A) (lv B))
        → {limit : ℕ} {mid late after : Rows} {a b : ℕ} {p q : Count} (o : Outcome) (G : List Bool → Count → Outcome)
        → EvalsBy lv n N before mid roots o (ends a p)
        → ((A : List Bool) → Denotes (2 * n) mid a (lv A) → EvalsBy lv n N mid late (a ∷ roots) (G A p) (ends b q))
        → (answer : Result) → StepPost (2 * n) N limit late after (b ∷ a ∷ roots) answer (op_f (den (2 * n) late a) (den (2 * n) late b))
        → (k : ℕ) → Needed (2 * n) late (b ∷ a ∷ roots) (op_f (den (2 * n) late a) (den (2 * n) late b)) answer k
        → EvalsBy lv n N before after roots (and_then o (λ A r. and_then (G A r) (λ B t. two_by lv n limit live op A B t)))
        (ended_by answer (needing q k))
    evals-two op op_f same {limit} {mid} {late} {after} {a} {b} {p} {q} o G d f answer s k x = evals_then o _ d (λ A e. right A e (f A e))
      where
        right : (A : List Bool) → Denotes (2 * n) mid a (lv A) → EvalsBy lv n N mid late (a ∷ roots) (G A p) (ends b q)
            → EvalsBy lv n N before after roots (and_then (G A p) (λ B t. two_by lv n limit live op A B t)) (ended_by answer (needing q k))
        right A e c =
            let w = evals-from d.kept (λ x i. there i) c in
            let e' = keeps_denotes c.kept (here refl) e in
            evals_then (G A p) (λ B t. two_by lv n limit live op A B t) w (λ B f.
            evals-step (op A B) q (λ l. keeps_trans w.kept (keeps_within (λ x i. there (there i)) l))
            (held-push (held-push (held_keeps h w.kept) e') f)
            (ap₂ op_f (denoted e') (denoted f) ∙ sym (same A B)) answer s k x)

    -- the right part stopped
    pub evals-two-stop : {mid late : Rows} {a : ℕ} {p : Count} {y : Ended} (o : Outcome) (G : List Bool → Count → Outcome)
        (K : List Bool → List Bool → Count → Outcome) → EvalsBy lv n N before mid roots o (ends a p)
        → ((A : List Bool) → Denotes (2 * n) mid a (lv A) → EvalsBy lv n N mid late (a ∷ roots) (G A p) y) → Stops y
        → EvalsBy lv n N before late roots (and_then o (λ A r. and_then (G A r) (λ B t. K A B t))) y
    evals-two-stop {p = p} {y = y} o G K d k s =
        evals_then o _ d (λ A e. evals-stop (G A p) y (K A) s (evals-from d.kept (λ x i. there i) (k A e)))

-- AND with V after a step whose answer is the arrow x of the set B; w is V's arrow, which is among the roots
module _ (n N : ℕ) {before : Rows} {roots : List ℕ} {live : List Fn} (h : Held (2 * n) before roots live)
    (E : List Bool) (w : ℕ) (wm : Mem w roots) (wl : Mem (fn_of n E) live) (wd : Denotes (2 * n) before w (fn_of n E)) where
  pub evals-valid : {limit : ℕ} {mid after : Rows} {x : ℕ} (B : List Bool) (q : Count) → Keeps before mid roots
      → Denotes (2 * n) mid x (fn_of n B)
      → (answer : Result) → StepPost (2 * n) N limit mid after (x ∷ roots) answer (and_f (den (2 * n) mid x) (den (2 * n) mid w)) → (k : ℕ)
      → Needed (2 * n) mid (x ∷ roots) (and_f (den (2 * n) mid x) (den (2 * n) mid w)) answer k
      → Evals n N before after roots (two_step n limit live (inter (2 ^ n)) B E q) (ended_by answer (needing q k))
  evals-valid B q kp e answer s k y =
      evals-step n N (inter (2 ^ n) B E) q (keeps_on kp) (held-operand (held-push (held_keeps h kp) e) (there wl))
      (ap₂ and_f (denoted e) (denoted (keeps_denotes kp wm wd)) ∙ sym (fn_of-and n B E)) answer s k y

  -- a bit of states: current bit p is level 2p
  pub evals-bit : {limit : ℕ} {mid after : Rows} {x : ℕ} (p : ℕ) (q : Count) → p < n
      → StepPost (2 * n) N limit before mid roots (at x) (bit_f (2 * p)) → (j : ℕ) → Needed (2 * n) before roots (bit_f (2 * p)) (at x) j
      → (answer : Result) → StepPost (2 * n) N limit mid after (x ∷ roots) answer (and_f (den (2 * n) mid x) (den (2 * n) mid w)) → (k : ℕ)
      → Needed (2 * n) mid (x ∷ roots) (and_f (den (2 * n) mid x) (den (2 * n) mid w)) answer k
      → Evals n N before after roots (bit_step n limit live E p q) (ended_by answer (needing (needing q j) k))
  evals-bit {limit} p q l s j y answer u k z =
      evals-on n N (bit_states (2 ^ n) p) q (λ t r. r) h (sym (fn_of-bit n p l))
      (λ c. two_step n limit live (inter (2 ^ n)) (bit_states (2 ^ n) p) E c) s j y
      (λ wf kp d. evals-valid (bit_states (2 ^ n) p) (needing q j) kp d answer u k z)
