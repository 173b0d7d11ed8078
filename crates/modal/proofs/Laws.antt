-- Each call and each return of quantify, diamond and box: what it asks and what it gives. Assumes nothing.
use Rattle.std.specs.Prelude.{Result}
use mathlib.Core.Path.{◌≡◌, refl, sym, ap, ap₂, ◌∙◌, subst}
use mathlib.Core.Bool.{Bool, true, false, not, ◌&&◌, cond}
use mathlib.Core.List.Memᴰ.{cast as mem_cast}
use mathlib.Core.List.Memᴰ.{tail as there}
use mathlib.Core.List.{List, [], ◌∷◌, ◌++◌, map, Memᴰ as Mem}
use mathlib.Core.List.Memᴰ.{append_right}
use Prim.Native.Nat.{ℕ, suc, ◌+◌, ◌-◌, ◌*◌, ◌<◌, ◌≤◌}
use native.Mathlib.Omega.{arith}
use lib.Dec.{leb}
use Rattle.accounts.specs.declared.Count.{Count}
use Rattle.accounts.specs.Count.{needing}
use Rattle.layout.specs.View.{View}
use Rattle.diagram.specs.Level.{Fn}
use Rattle.diagram.specs.Rows.{Rows, Arrow, den}
use Rattle.diagram.specs.Need.{step_need}
use Rattle.diagram.specs.Post.{at, full, Denotes}
use Rattle.diagram.specs.Keep.{Keeps}
use Rattle.diagram.proofs.Keep.{keeps_refl, keeps_trans, keeps_arrow, keeps_denotes, keeps_on}
use Rattle.diagram.specs.Steps.{not_f, and_f, shift_f, exists_f}
use Rattle.rows.specs.Used.{rows_of}
use Rattle.rows.specs.Filled.{filled}
use Rattle.collect.specs.Lent.{live}
use Rattle.steps.specs.declared.Step.TheVariants.{Not, And, Shift, Exists}
use Rattle.steps.specs.Steps.{StepPre}
use Rattle.steps.proofs.Steps.{live-arrows, live_same}
use Rattle.table.specs.declared.Full.{Full}
use Rattle.counting.specs.Taken.{taken, ran_out, count_in}
use Rattle.counting.specs.declared.Taken.{Taken}
use Rattle.book.specs.Ticks.{exists_needs, diamond_needs, counted, full as full_verdict}
use Rattle.book.specs.Run.{needing_all, value, full as full_run, exists_steps, fit}
use Rattle.book.specs.Diamond.{exists_next, diamond_f}
use Rattle.book.proofs.Verdicts.{fit_append, count-append, settle, steps-verdict, exists-ticks}
use Rattle.book.specs.Held.{Held}
use Rattle.book.proofs.Held.{denoted, held-arrow, held-push, held-operand, held_keeps}
use Rattle.book.specs.Pairs.{PairMatches}
use Rattle.book.proofs.Modal.{Quantifies, quantify-start, quantify-on, quantify_out, quantify-end}
use Rattle.modal.proofs.Chain.{alike_cons, alike_once, held_alike, denotes-own, held-own, moved_refl, moved_trans, base-next}
use Rattle.modal.proofs.Chain.{base-wf, step-pre, Took, ran_step, ran_stop, ran_kept, ran_value, ran_then}
use Rattle.modal.specs.Chain.{Base, Moved, Ran}
use Rattle.modal.specs.Modal.{within_not, complement_needs, boxed_f, Chained, QuantifyPre, ModalPre, ComplementPre, BoxPre, QuantifyPost}
use Rattle.modal.specs.Modal.{DiamondPost, ComplementPost, BoxPost}

-- ---- the loop of EXISTS

-- j levels are left, c is the arrow so far and r is counted, q before the loop: the loop's invariant
pub record Quantified (n N limit : ℕ) (W X : View) (lent : List ℕ) (a : ℕ) (q : Count) (j c : ℕ) (r : Count) : Type 0 where
  pub moved : Moved n W X
  pub steps : (fs : List Fn) → Held (2 * n) (rows_of W) (live W lent) fs
      → Quantifies n N limit (rows_of W) (rows_of X) (live W lent) fs (den (2 * n) (rows_of W) a) q j c r

-- the steps at a list of needs fit, or do not
pub fit-steps : (n limit : ℕ) (fs : List Fn) (j : ℕ) (F : Fn) (q : Count)
    → exists_steps n limit fs j F q (λ c. value [] c)
    ≡ settle [] (cond (fit limit (exists_needs n fs j F)) (counted (needing_all q (exists_needs n fs j F))) full_verdict)
fit-steps n limit fs j F q = exists-ticks limit 0 n fs [] q j F ∙ ap (settle []) (steps-verdict limit 0 q (exists_needs n fs j F))

pub fit-true : (b : Bool) (r d : Count) → value [] r ≡ settle [] (cond b (counted d) full_verdict) → (b ≡ true) × (r ≡ d)
fit-true true r d e = (refl, cc)
fit-true false r d e = let z : ◌≡◌ {A = ℕ} 0 1 = cc in absurd (omega arith)

fit-false : (b : Bool) (d : Count) → full_run ≡ settle [] (cond b (counted d) full_verdict) → b ≡ false
fit-false true d e = let z : ◌≡◌ {A = ℕ} 0 1 = cc in absurd (omega arith)
fit-false false d e = refl

module _ {n N limit : ℕ} {W : View} {lent : List ℕ} {a : ℕ} (p : QuantifyPre n N limit W lent a) where
  own : Held (2 * n) (rows_of W) (live W lent) (map (den (2 * n) (rows_of W)) (live W lent))
  own = held-own (live-arrows lent p.base.sound p.arrows)

  pub quantify-begins : (q : Count) → Quantified n N limit W W lent a q n a q
  quantify-begins q = record {
    moved = moved_refl p.base;
    steps =
        λ fs h. quantify-start n N limit h q (base-wf p.base) (keeps_refl (base-wf p.base) (held-arrow h)) (denotes-own p.operand);
  }

  module _ {X : View} {q r : Count} {j c : ℕ} (i : Quantified n N limit W X lent a q j c r) where
    pub at_own : Quantifies n N limit (rows_of W) (rows_of X) (live W lent) (map (den (2 * n) (rows_of W)) (live W lent))
        (den (2 * n) (rows_of W) a) q j c r
    at_own = i.steps _ own

    pub quantify-base : Base n N limit X
    quantify-base = base-next p.base i.moved

    pub quantify-asks : {x : ℕ} → x < 2 * n → StepPre (2 * n) N limit X lent (Exists x c)
    quantify-asks l = step-pre quantify-base (λ b h. keeps_arrow at_own.kept b (append_right (filled W) h)) (at_own.denotes.arrow, l)

    module _ {Y : View} {o : Result Taken Full} (less : 0 < j)
        (s : Took n N limit X Y (c ∷ live X lent) r o (exists_f (2 * (j - 1) + 1) (den (2 * n) (rows_of X) c))) where
      turn : (fs : List Fn) → Held (2 * n) (rows_of W) (live W lent) fs
          → Quantifies n N limit (rows_of W) (rows_of X) (live W lent) fs (den (2 * n) (rows_of W) a) q (suc (j - 1)) c r
      turn fs h =
          let e : j ≡ suc (j - 1) = omega arith in
          subst (λ (k : ℕ). Quantifies n N limit (rows_of W) (rows_of X) (live W lent) fs (den (2 * n) (rows_of W) a) q k c r) e
          (i.steps fs h)

      -- the step, from the loop's roots
      taken_at : {t : Result Taken Full} → o ≡ t
          → Took n N limit X Y (c ∷ live W lent) r t (exists_f (suc (2 * (j - 1))) (den (2 * n) (rows_of X) c))
      taken_at {t} e =
          let odd : 2 * (j - 1) + 1 ≡ suc (2 * (j - 1)) = omega arith in
          let s1 = subst
          (λ (t : Result Taken Full). Took n N limit X Y (c ∷ live X lent) r t (exists_f (2 * (j - 1) + 1) (den (2 * n) (rows_of X) c))) e
          s in
          let s2 = subst (λ (x : ℕ). Took n N limit X Y (c ∷ live X lent) r t (exists_f x (den (2 * n) (rows_of X) c))) odd s1 in
          subst (λ (xs : List ℕ). Took n N limit X Y (c ∷ xs) r t (exists_f (suc (2 * (j - 1))) (den (2 * n) (rows_of X) c)))
          (live_same i.moved.frame lent) s2

      pub quantify-turns : {d : ℕ} {m : Count} → o ≡ taken d m → Quantified n N limit W Y lent a q (j - 1) d m
      quantify-turns {d} {m} e =
          let t = taken_at e in
          record {
            moved = moved_trans i.moved s.moved;
            steps = λ fs h.
                subst (Quantifies n N limit (rows_of W) (rows_of Y) (live W lent) fs (den (2 * n) (rows_of W) a) q (j - 1) d) (sym t.count)
                (quantify-on n N limit h (j - 1) c d (turn fs h) t.post
                (step_need (2 * n) (map (den (2 * n) (rows_of X)) (c ∷ live W lent))
                (exists_f (suc (2 * (j - 1))) (den (2 * n) (rows_of X) c))) refl);
          }

      pub quantify-full : o ≡ ran_out → QuantifyPost n N limit W Y lent a q ran_out
      quantify-full e fs h =
          let C : Fn = den (2 * n) (rows_of W) a in
          let t = turn fs h in
          let v = (taken_at e).post in
          let out = fit-false (fit limit (exists_needs n fs n C)) (needing_all q (exists_needs n fs n C))
          (sym (quantify_out n N limit h (j - 1) c t v (λ z. value [] z)) ∙ fit-steps n limit fs n C q) in
          record {
            moved = moved_trans i.moved s.moved;
            evals = record {
              wf = v.wf;
              kept = keeps_on t.kept v.kept;
              result =
                  subst (λ (b : Bool). PairMatches n (rows_of Y) b (exists_next n C) (needing_all q (exists_needs n fs n C)) full
                  (count_in ran_out)) (sym out) tt;
            };
          }

    pub quantify-ends : j ≤ 0 → QuantifyPost n N limit W X lent a q (taken c r)
    quantify-ends z fs h =
        let C : Fn = den (2 * n) (rows_of W) a in
        let e : j ≡ 0 = omega arith in
        let t : Quantifies n N limit (rows_of W) (rows_of X) (live W lent) fs C q 0 c
        r = subst (λ (k : ℕ). Quantifies n N limit (rows_of W) (rows_of X) (live W lent) fs C q k c r) e (i.steps fs h) in
        let fits = fit-true (fit limit (exists_needs n fs n C)) r (needing_all q (exists_needs n fs n C))
        (sym (t.steps (λ z. value [] z)) ∙ fit-steps n limit fs n C q) in
        record {
          moved = i.moved;
          evals = record {
            wf = t.wf;
            kept = t.kept;
            result =
                subst (λ (b : Bool). PairMatches n (rows_of X) b (exists_next n C) (needing_all q (exists_needs n fs n C)) (at c) r)
                (sym fits.0) (quantify-end n N limit h t, fits.1);
          };
        }

-- ---- diamond

-- what the lent arrows are after steps
pub kept-lent : (W : View) {after : Rows} (lent : List ℕ) → Keeps (rows_of W) after (live W lent) → (b : ℕ) → Mem b lent → Arrow after b
kept-lent W lent k b h = keeps_arrow k b (append_right (filled W) h)

-- what is held by registers, relations and lent arrows is held by them after steps
pub held_moved : {n : ℕ} {W X : View} (lent : List ℕ) {fs : List Fn} → Moved n W X → Keeps (rows_of W) (rows_of X) (live W lent)
    → Held (2 * n) (rows_of W) (live W lent) fs
    → Held (2 * n) (rows_of X) (live X lent) fs
held_moved {n} {W} {X} lent {fs} m k h =
    subst (λ (xs : List ℕ). Held (2 * n) (rows_of X) xs fs) (sym (live_same m.frame lent)) (held_keeps h k)

-- a chain from a later table, whose roots are the same
pub ran_from : {n N : ℕ} {W X Y : View} (lent : List ℕ) {b : Bool} {F : Fn} {d : Count} {o : Result Taken Full} → Moved n W X
    → Ran n N X Y (live X lent) b F d o → Ran n N X Y (live W lent) b F d o
ran_from {n} {N} {W} {X} {Y} lent {b} {F} {d} {o} m r = subst (λ (xs : List ℕ). Ran n N X Y xs b F d o) (live_same m.frame lent) r

-- what a root denotes is among what the roots hold
pub held-mem : {m : ℕ} {rows : Rows} {roots : List ℕ} {fs : List Fn} {a : ℕ} → Held m rows roots fs → Mem a roots → Mem (den m rows a) fs
held-mem {a = a} h i = let (f, j, d) = h.only a i in mem_cast (denoted d) j

and-true : (b : Bool) → (b && true) ≡ b
and-true true = refl
and-true false = refl

appended : {n N : ℕ} (limit : ℕ) {W X : View} {roots : List ℕ} {G : Fn} (q : Count) {o : Result Taken Full} (xs ys : List ℕ)
    → Ran n N W X roots (fit limit xs && fit limit ys) G (needing_all (needing_all q xs) ys) o
    → Ran n N W X roots (fit limit (xs ++ ys)) G (needing_all q (xs ++ ys)) o
appended {n} {N} limit {W} {X} {roots} {G} q {o} xs ys r =
    subst (λ (b : Bool). Ran n N W X roots b G (needing_all q (xs ++ ys)) o) (sym (fit_append limit xs ys))
    (subst (λ (c : Count). Ran n N W X roots (fit limit xs && fit limit ys) G c o) (sym (count-append q xs ys)) r)

-- a chain of steps after another
chain_then : {n N : ℕ} (limit : ℕ) {W X Y : View} {roots : List ℕ} {F G : Fn} (q : Count) {o u : Result Taken Full} (xs ys : List ℕ)
    {a : ℕ} {p : Count}
    → o ≡ taken a p
    → Ran n N W X roots (fit limit xs) F (needing_all q xs) o → Ran n N X Y roots (fit limit ys) G (needing_all p ys) u
    → Ran n N W Y roots (fit limit (xs ++ ys)) G (needing_all q (xs ++ ys)) u
chain_then limit q xs ys e r s = appended limit q xs ys (ran_then e r (λ c. needing_all c ys) s)

-- the first chain stopped
chain-stop : {n N : ℕ} (limit : ℕ) {W X : View} {roots : List ℕ} {F : Fn} (G : Fn) (q : Count) {o : Result Taken Full} (xs ys : List ℕ)
    → o ≡ ran_out
    → Ran n N W X roots (fit limit xs) F (needing_all q xs) o
    → Ran n N W X roots (fit limit (xs ++ ys)) G (needing_all q (xs ++ ys)) ran_out
chain-stop limit G q xs ys e r = appended limit q xs ys (ran_stop (fit limit ys) G (needing_all (needing_all q xs) ys) e r)

module _ {n N limit : ℕ} {W : View} {lent : List ℕ} {t a : ℕ} (q : Count) (p : ModalPre n N limit W lent t a) where
  -- the operand and the relation as functions
  abbrev F : Fn
  F = den (2 * n) (rows_of W) a

  abbrev R : Fn
  R = den (2 * n) (rows_of W) t

  abbrev all : List Fn
  all = map (den (2 * n) (rows_of W)) (live W lent)

  all_held : Held (2 * n) (rows_of W) (live W lent) all
  all_held = held-own (live-arrows lent p.base.sound p.arrows)

  pub shift-asks : StepPre (2 * n) N limit W lent (Shift a)
  shift-asks = step-pre p.base p.arrows (p.operand, p.even)

  -- a first step from the operand
  first_step : {X : View} {o : Result Taken Full} {G : Fn} → Took n N limit W X (a ∷ live W lent) q o G → (fs : List Fn)
      → Held (2 * n) (rows_of W) (live W lent) fs
      → Ran n N W X (live W lent) (leb (step_need (2 * n) (F ∷ fs) G) limit) G (needing q (step_need (2 * n) (F ∷ fs) G)) o
  first_step s fs h = ran_step (held-push h (denotes-own p.operand)) (λ b i. there i) s

  module _ {X : View} {o : Result Taken Full} (s : Took n N limit W X (a ∷ live W lent) q o (shift_f F)) where
    pub shift-full : o ≡ ran_out → DiamondPost n N limit W X lent t a q ran_out
    shift-full e fs h = ran_stop _ (diamond_f n R F) _ e (first_step s fs h)

    module _ {x : ℕ} {q1 : Count} (e : o ≡ taken x q1) where
      abbrev shift_need : List Fn → ℕ
      shift_need fs = step_need (2 * n) (F ∷ fs) (shift_f F)

      shifted : (fs : List Fn) → Held (2 * n) (rows_of W) (live W lent) fs
          → Ran n N W X (live W lent) (leb (step_need (2 * n) (F ∷ fs) (shift_f F)) limit) (shift_f F) (needing q (shift_need fs)) o
      shifted fs h = first_step s fs h

      k1 : Keeps (rows_of W) (rows_of X) (live W lent)
      k1 = ran_kept e (shifted all all_held)

      x_is : Denotes (2 * n) (rows_of X) x (shift_f F)
      x_is = ran_value e (shifted all all_held)

      t_is : Denotes (2 * n) (rows_of X) t R
      t_is = keeps_denotes k1 p.relation (denotes-own (live-arrows lent p.base.sound p.arrows t p.relation))

      pub and-base : Base n N limit X
      and-base = base-next p.base s.moved

      pub and-asks : StepPre (2 * n) N limit X lent (And x t)
      and-asks = step-pre and-base (kept-lent W lent k1) (x_is.arrow, t_is.arrow)

      module _
          {Y : View} {u : Result Taken Full}
          (v : Took n N limit X Y (x ∷ t ∷ live X lent) q1 u (and_f (den (2 * n) (rows_of X) x) (den (2 * n) (rows_of X) t))) where
        v1 : Took n N limit X Y (x ∷ t ∷ live W lent) q1 u (and_f (shift_f F) R)
        v1 =
            subst (λ (G : Fn). Took n N limit X Y (x ∷ t ∷ live W lent) q1 u G) (ap₂ and_f (denoted x_is) (denoted t_is))
            (subst (λ (xs : List ℕ). Took n N limit X Y (x ∷ t ∷ xs) q1 u (and_f (den (2 * n) (rows_of X) x) (den (2 * n) (rows_of X) t)))
            (live_same s.moved.frame lent) v)

        abbrev and_need : List Fn → ℕ
        and_need fs = step_need (2 * n) (shift_f F ∷ R ∷ fs) (and_f (shift_f F) R)

        joined : (fs : List Fn) → Held (2 * n) (rows_of W) (live W lent) fs
            → Ran n N X Y (live W lent) (leb (step_need (2 * n) (shift_f F ∷ R ∷ fs) (and_f (shift_f F) R)) limit) (and_f (shift_f F) R)
            (needing q1 (and_need fs)) u
        joined fs h =
            let g : Held (2 * n) (rows_of X) (x ∷ live W lent)
            (shift_f F ∷ R ∷ fs) = held-push (held-operand (held_keeps h k1) (held-mem h p.relation)) x_is in
            ran_step (held_alike (alike_cons x (alike_once p.relation)) g) (λ b i. there (there i)) v1

        pub and-full : u ≡ ran_out → DiamondPost n N limit W Y lent t a q ran_out
        and-full f fs h =
            ran_then e (shifted fs h) (λ c. needing_all (needing c (and_need fs)) (exists_needs n fs n (and_f (shift_f F) R)))
            (ran_stop _ (diamond_f n R F) _ f (joined fs h))

        module _ {c : ℕ} {q2 : Count} (f : u ≡ taken c q2) where
          k2 : Keeps (rows_of X) (rows_of Y) (live W lent)
          k2 = ran_kept f (joined all all_held)

          c_is : Denotes (2 * n) (rows_of Y) c (and_f (shift_f F) R)
          c_is = ran_value f (joined all all_held)

          m2 : Moved n W Y
          m2 = moved_trans s.moved v.moved

          pub loop-asks : QuantifyPre n N limit Y lent c
          loop-asks = record { base = base-next p.base m2; arrows = kept-lent W lent (keeps_trans k1 k2); operand = c_is.arrow }

          pub diamond-ends : {Z : View} {r : Result Taken Full} → QuantifyPost n N limit Y Z lent c q2 r
              → DiamondPost n N limit W Z lent t a q r
          diamond-ends {Z} {r} g fs h =
              let l = g fs (held_moved lent m2 (keeps_trans k1 k2) h) in
              let l1 = subst (λ (G : Fn). Chained n N limit Y Z lent (exists_needs n fs n G) (exists_next n G) q2 r) (denoted c_is) l in
              ran_then e (shifted fs h) (λ d. needing_all (needing d (and_need fs)) (exists_needs n fs n (and_f (shift_f F) R)))
              (ran_then f (joined fs h) (λ d. needing_all d (exists_needs n fs n (and_f (shift_f F) R))) (ran_from lent m2 l1))

-- ---- NOT within V

module _ {n N limit : ℕ} {W : View} {lent : List ℕ} {v a : ℕ} (q : Count) (p : ComplementPre n N limit W lent v a) where
  pub not-asks : StepPre (2 * n) N limit W lent (Not a)
  not-asks = step-pre p.base p.arrows p.operand

  module _ {X : View} {o : Result Taken Full} (s : Took n N limit W X (a ∷ live W lent) q o (not_f (den (2 * n) (rows_of W) a))) where
    -- the operand and V as functions
    abbrev G : Fn
    G = den (2 * n) (rows_of W) a

    abbrev E : Fn
    E = den (2 * n) (rows_of W) v

    abbrev roots-all : List Fn
    roots-all = map (den (2 * n) (rows_of W)) (live W lent)

    roots-held : Held (2 * n) (rows_of W) (live W lent) (map (den (2 * n) (rows_of W)) (live W lent))
    roots-held = held-own (live-arrows lent p.base.sound p.arrows)

    negated : (fs : List Fn) → Held (2 * n) (rows_of W) (live W lent) fs
        → Ran n N W X (live W lent) (leb (step_need (2 * n) (G ∷ fs) (not_f G)) limit) (not_f G)
        (needing q (step_need (2 * n) (G ∷ fs) (not_f G))) o
    negated fs h = ran_step (held-push h (denotes-own p.operand)) (λ b i. there i) s

    pub not_full : o ≡ ran_out → ComplementPost n N limit W X lent v a q ran_out
    not_full e fs h = ran_stop _ (within_not E G) _ e (negated fs h)

    module _ {b : ℕ} {q1 : Count} (e : o ≡ taken b q1) where
      not-kept : Keeps (rows_of W) (rows_of X) (live W lent)
      not-kept = ran_kept e (negated roots-all roots-held)

      not_is : Denotes (2 * n) (rows_of X) b (not_f G)
      not_is = ran_value e (negated roots-all roots-held)

      valid-is : Denotes (2 * n) (rows_of X) v E
      valid-is = keeps_denotes not-kept p.valid (denotes-own (live-arrows lent p.base.sound p.arrows v p.valid))

      pub in-base : Base n N limit X
      in-base = base-next p.base s.moved

      pub in-asks : StepPre (2 * n) N limit X lent (And b v)
      in-asks = step-pre in-base (kept-lent W lent not-kept) (not_is.arrow, valid-is.arrow)

      module _
          {Y : View} {u : Result Taken Full}
          (w : Took n N limit X Y (b ∷ v ∷ live X lent) q1 u (and_f (den (2 * n) (rows_of X) b) (den (2 * n) (rows_of X) v))) where
        w1 : Took n N limit X Y (b ∷ v ∷ live W lent) q1 u (within_not E G)
        w1 =
            subst (λ (H : Fn). Took n N limit X Y (b ∷ v ∷ live W lent) q1 u H) (ap₂ and_f (denoted not_is) (denoted valid-is))
            (subst (λ (xs : List ℕ). Took n N limit X Y (b ∷ v ∷ xs) q1 u (and_f (den (2 * n) (rows_of X) b) (den (2 * n) (rows_of X) v)))
            (live_same s.moved.frame lent) w)

        abbrev in_need : List Fn → ℕ
        in_need fs = step_need (2 * n) (E ∷ not_f G ∷ fs) (within_not E G)

        pub complement-ends : ComplementPost n N limit W Y lent v a q u
        complement-ends fs h =
            let g : Held (2 * n) (rows_of X) (b ∷ live W lent) (E ∷ not_f G ∷ fs) = held-operand (held-push (held_keeps h not-kept) not_is)
            (there (held-mem h p.valid)) in
            let l = ran_step (held_alike (alike_cons b (alike_once p.valid)) g) (λ b i. there (there i)) w1 in
            subst (λ (x : Bool). Ran n N W Y (live W lent) (leb (step_need (2 * n) (G ∷ fs) (not_f G)) limit && x) (within_not E G)
            (needing (needing q (step_need (2 * n) (G ∷ fs) (not_f G))) (in_need fs)) u)
            (sym (and-true (leb (in_need fs) limit))) (ran_then e (negated fs h) (λ c. needing c (in_need fs)) l)

-- ---- box

module _ {n N limit : ℕ} {W : View} {lent : List ℕ} {v t a : ℕ} (q : Count) (p : BoxPre n N limit W lent v t a) where
  pub complement-asks : ComplementPre n N limit W lent v a
  complement-asks = record { base = p.modal.base; arrows = p.modal.arrows; valid = p.valid; operand = p.modal.operand }

  module _ {X : View} {o : Result Taken Full} (d : ComplementPost n N limit W X lent v a q o) where
    -- the operand, the relation and V as functions, and NOT of the operand within V
    abbrev H : Fn
    H = den (2 * n) (rows_of W) a

    abbrev Q : Fn
    Q = den (2 * n) (rows_of W) t

    abbrev U : Fn
    U = den (2 * n) (rows_of W) v

    abbrev B : Fn
    B = within_not (den (2 * n) (rows_of W) v) (den (2 * n) (rows_of W) a)

    abbrev box-all : List Fn
    box-all = map (den (2 * n) (rows_of W)) (live W lent)

    box-held : Held (2 * n) (rows_of W) (live W lent) (map (den (2 * n) (rows_of W)) (live W lent))
    box-held = held-own (live-arrows lent p.modal.base.sound p.modal.arrows)

    -- what follows the first NOT
    abbrev later : List Fn → List ℕ
    later fs = diamond_needs n fs Q B ++ complement_needs n fs U (diamond_f n Q B)

    pub first-full : o ≡ ran_out → BoxPost n N limit W X lent v t a q ran_out
    first-full e fs h = chain-stop limit (boxed_f n U Q H) q (complement_needs n fs U H) (later fs) e (d fs h)

    module _ {b : ℕ} {q1 : Count} (e : o ≡ taken b q1) where
      b_kept : Keeps (rows_of W) (rows_of X) (live W lent)
      b_kept = ran_kept e (d box-all box-held)

      b_moved : Moved n W X
      b_moved = (d box-all box-held).moved

      b_is : Denotes (2 * n) (rows_of X) b B
      b_is = ran_value e (d box-all box-held)

      r_is : Denotes (2 * n) (rows_of X) t Q
      r_is = keeps_denotes b_kept p.modal.relation
          (denotes-own (live-arrows lent p.modal.base.sound p.modal.arrows t p.modal.relation))

      pub diamond-asks : ModalPre n N limit X lent t b
      diamond-asks = record {
        base = base-next p.modal.base b_moved;
        arrows = kept-lent W lent b_kept;
        relation = subst (λ (xs : List ℕ). Mem t xs) (sym (live_same b_moved.frame lent)) p.modal.relation;
        operand = b_is.arrow;
        even = λ x y g. b_is.same x ∙ ap₂ (λ (c e : Bool). not c && e) (p.modal.even x y g) (p.states x y g) ∙ sym (b_is.same y);
      }

      module _ {Y : View} {u : Result Taken Full} (m : DiamondPost n N limit X Y lent t b q1 u) where
        inner : (fs : List Fn) → Held (2 * n) (rows_of W) (live W lent) fs
            → Ran n N X Y (live W lent) (fit limit (diamond_needs n fs Q B)) (diamond_f n Q B) (needing_all q1 (diamond_needs n fs Q B)) u
        inner fs h =
            let l = m fs (held_moved lent b_moved b_kept h) in
            let l1 =
            subst (λ (G : Fn). Chained n N limit X Y lent (diamond_needs n fs (den (2 * n) (rows_of X) t) G)
            (diamond_f n (den (2 * n) (rows_of X) t) G) q1 u) (denoted b_is) l in
            let l2 = subst (λ (G : Fn). Chained n N limit X Y lent (diamond_needs n fs G B) (diamond_f n G B) q1 u) (denoted r_is) l1 in
            ran_from lent b_moved l2

        pub inner_full : u ≡ ran_out → BoxPost n N limit W Y lent v t a q ran_out
        inner_full f fs h = chain_then limit q (complement_needs n fs U H) (later fs) e (d fs h)
            (chain-stop limit (boxed_f n U Q H) q1 (diamond_needs n fs Q B) (complement_needs n fs U (diamond_f n Q B)) f (inner fs h))

        module _ {c : ℕ} {q2 : Count} (f : u ≡ taken c q2) where
          c_kept : Keeps (rows_of W) (rows_of Y) (live W lent)
          c_kept = keeps_trans b_kept (ran_kept f (inner box-all box-held))

          d_is : Denotes (2 * n) (rows_of Y) c (diamond_f n Q B)
          d_is = ran_value f (inner box-all box-held)

          c_moved : Moved n W Y
          c_moved = moved_trans b_moved (inner box-all box-held).moved

          v_is : Denotes (2 * n) (rows_of Y) v U
          v_is = keeps_denotes c_kept p.valid (denotes-own (live-arrows lent p.modal.base.sound p.modal.arrows v p.valid))

          pub last-asks : ComplementPre n N limit Y lent v c
          last-asks = record {
            base = base-next p.modal.base c_moved;
            arrows = kept-lent W lent c_kept;
            valid = subst (λ (xs : List ℕ). Mem v xs) (sym (live_same c_moved.frame lent)) p.valid;
            operand = d_is.arrow;
          }

          pub box-ends : {Z : View} {r : Result Taken Full} → ComplementPost n N limit Y Z lent v c q2 r
              → BoxPost n N limit W Z lent v t a q r
          box-ends {Z} {r} w fs h =
              let D : Fn = diamond_f n Q B in
              let l = w fs (held_moved lent c_moved c_kept h) in
              let l1 =
              subst (λ (G : Fn). Chained n N limit Y Z lent (complement_needs n fs (den (2 * n) (rows_of Y) v) G)
              (within_not (den (2 * n) (rows_of Y) v) G) q2 r) (denoted d_is) l in
              let l2 = subst (λ (G : Fn). Chained n N limit Y Z lent (complement_needs n fs G D) (within_not G D) q2 r) (denoted v_is) l1 in
              chain_then limit q (complement_needs n fs U H) (later fs) e (d fs h)
              (chain_then limit q1 (diamond_needs n fs Q B) (complement_needs n fs U D) f (inner fs h) (ran_from lent c_moved l2))
