-- "Steps and rounds are those of the formula written so": the ticks of until are those of the formula with a binder of a variable of its
-- own, tick by tick, the needs included. Assumes nothing.
use mathlib.Core.Path.{◌≡◌, refl, sym, ap, ap₂, ◌∙◌, fun_ext}
use mathlib.Core.Bool.{Bool, true, false, not, ◌&&◌, cond}
use mathlib.Core.List.{List, [], ◌∷◌, ◌++◌}
use Prim.Native.Nat.{ℕ, zero, suc, ◌*◌, ◌^◌, ◌<◌}
use lib.Dec.{T, ltb, eqb}
use Rattle.mucalculus.specs.Sets.{mem, same}
use Rattle.mucalculus.proofs.Sets.{and_out, length-table}
use Rattle.mucalculus.specs.Order.{Below, start}
use Rattle.mucalculus.proofs.Order.{start_in, length-start}
use Rattle.mucalculus.specs.Fixpoint.{Into}
use Rattle.mucalculus.specs.Form.{Form, bot, top, neg, conj, disj, now, next, var, reg, box, dia, mu, nu, until, Pairs, Model, Env, put}
use Rattle.mucalculus.specs.Means.{compl, inter, union, always, sometimes, size, exist, related, means}
use Rattle.mucalculus.proofs.Laws.{get_or-table, table_ext}
use Rattle.mucalculus.proofs.Exist.{means_in, related-inside, always-same, inter-agrees, onward-into}
use Rattle.mucalculus.specs.Until.{further, onward}
use Rattle.mucalculus.proofs.Polarity.{put-swap}
use Rattle.mucalculus.specs.Written.{absent, goes, written}
use Rattle.mucalculus.proofs.Written.{apart, var_apart, means-absent, put-here, goes-means, written-round}
use Rattle.diagram.specs.Level.{Fn}
use Rattle.diagram.specs.Need.{step_need}
use Rattle.accounts.specs.declared.Count.{Count}
use Rattle.accounts.specs.Count.{another}
use Rattle.book.specs.Over.{states}
use Rattle.book.specs.Bridge.{fn_of, fn_of_pairs, Sized}
use Rattle.book.proofs.Bridge.{fn_of-table, fn_of_inj}
use Rattle.book.specs.Run.{Outcome, value, full, spent, and_then, not_step, dia_steps, box_steps, further_steps, both_steps, until_round}
use Rattle.book.specs.Run.{loop, run}
use Rattle.book.specs.Ticks.{Tick, round, steps, round_ticks, ticks, not_needs, two_need, diamond_needs, dia_needs, box_needs, further_ticks}
use Rattle.book.specs.Ticks.{until_ticks}
use Rattle.book.proofs.Turns.{Good, GoodOn, until-good, run-good}
use Rattle.book.specs.States.{now_of}

-- two parts and the step that joins them: the left one's ticks and value, the right one's ticks by what is live, and its value
abbrev both_ticks : ℕ → List Fn → (List Bool → List Bool → List Bool) → List Tick → List Bool → (List Fn → List Tick) → List Bool → List Tick
both_ticks n live op ts A us B = ts ++ (us (fn_of n A ∷ live) ++ steps (two_need n live op A B ∷ []))

both-same : (n : ℕ) (live : List Fn) (op : List Bool → List Bool → List Bool) (ts ts' : List Tick) (A A' : List Bool)
    (us us' : List Fn → List Tick) (B B' : List Bool)
    → ts ≡ ts' → A ≡ A' → ((l : List Fn) → us l ≡ us' l) → B ≡ B' → both_ticks n live op ts A us B ≡ both_ticks n live op ts' A' us' B'
both-same n live op ts ts' A A' us us' B B' d e f g =
    ap₂ (λ (x : List Tick) (X : List Bool). both_ticks n live op x X us B) d e
    ∙ ap₂ (λ (x : List Fn → List Tick) (X : List Bool). both_ticks n live op ts' A' x X) (fun_ext f) g

rounds-same : (h h' : List Bool → List Tick) (F F' : List Bool → List Bool) (j : ℕ) (A : List Bool) → ((B : List Bool) → h B ≡ h' B)
    → ((B : List Bool) → F B ≡ F' B) → round_ticks h F j A ≡ round_ticks h' F' j A
rounds-same h h' F F' j A d e = ap₂ (λ (x : List Bool → List Tick) (X : List Bool → List Bool). round_ticks x X j A) (fun_ext d) (fun_ext e)

-- rounds from a set of existing states, which none of them leaves
rounds-within : (E : List Bool) (h h' : List Bool → List Tick) (F F' : List Bool → List Bool) → ((B : List Bool) → Below B E → h B ≡ h' B)
    → ((B : List Bool) → F B ≡ F' B) → Into E F'
    → (j : ℕ) (A : List Bool) → Below A E → round_ticks h F j A ≡ round_ticks h' F' j A
rounds-within E h h' F F' d e i zero A a = refl
rounds-within E h h' F F' d e i (suc j) A a =
    ap₂ (λ (x : List Tick) (B : List Bool). round ∷ (x ++ cond (same B A) [] (round_ticks h F j B))) (d A a) (e A)
    ∙ ap (λ (l : List Tick). round ∷ (h' A ++ cond (same (F' A) A) [] l)) (rounds-within E h h' F F' d e i j (F' A) (i A))

-- ---- a variable that stands nowhere

module _ (m : Model) (X : ℕ) (A : List Bool) where
  pub ticks-absent : (f : Form) → T (absent X f) → (e : Env) (live : List Fn)
      → ticks (states m (put e X A)) live f ≡ ticks (states m e) live f
  ticks-absent bot h e live = refl
  ticks-absent top h e live = refl
  ticks-absent (neg f) h e live =
      ap₂ (λ (x : List Tick) (B : List Bool). x ++ steps (not_needs m.n live (exist m) B)) (ticks-absent f h e live)
      (means-absent m X A f h e)
  ticks-absent (conj f g) h e live =
      let w = and_out (absent X f) (absent X g) h in
      both-same m.n live (inter (size m)) _ _ _ _ (λ l. ticks (states m (put e X A)) l g) (λ l. ticks (states m e) l g) _ _
      (ticks-absent f w.0 e live) (means-absent m X A f w.0 e) (λ l. ticks-absent g w.1 e l) (means-absent m X A g w.1 e)
  ticks-absent (disj f g) h e live =
      let w = and_out (absent X f) (absent X g) h in
      both-same m.n live (union (size m)) _ _ _ _ (λ l. ticks (states m (put e X A)) l g) (λ l. ticks (states m e) l g) _ _
      (ticks-absent f w.0 e live) (means-absent m X A f w.0 e) (λ l. ticks-absent g w.1 e l) (means-absent m X A g w.1 e)
  ticks-absent (now p) h e live = refl
  ticks-absent (next p) h e live = refl
  ticks-absent (var P) h e live = refl
  ticks-absent (reg r) h e live = refl
  ticks-absent (box t f) h e live =
      ap₂ (λ (x : List Tick) (B : List Bool). x ++ steps (box_needs m.n live (exist m) (related m t) B)) (ticks-absent f h e live)
      (means-absent m X A f h e)
  ticks-absent (dia t f) h e live =
      ap₂ (λ (x : List Tick) (B : List Bool). x ++ steps (dia_needs m.n live (related m t) B)) (ticks-absent f h e live)
      (means-absent m X A f h e)
  ticks-absent (mu P f) h e live =
      let w = and_out (not (eqb P X)) (absent X f) h in
      rounds-same _ (λ B. ticks (states m (put e P B)) (fn_of m.n B ∷ live) f) _ (λ B. means m (put e P B) f) (suc (size m))
      (start true (size m) (exist m))
      (λ B. ap (λ (d : Env). ticks (states m d) (fn_of m.n B ∷ live) f) (put-swap e X A P B (apart P X w.0))
      ∙ ticks-absent f w.1 (put e P B) (fn_of m.n B ∷ live))
      (λ B. ap (λ (d : Env). means m d f) (put-swap e X A P B (apart P X w.0)) ∙ means-absent m X A f w.1 (put e P B))
  ticks-absent (nu P f) h e live =
      let w = and_out (not (eqb P X)) (absent X f) h in
      rounds-same _ (λ B. ticks (states m (put e P B)) (fn_of m.n B ∷ live) f) _ (λ B. means m (put e P B) f) (suc (size m))
      (start false (size m) (exist m))
      (λ B. ap (λ (d : Env). ticks (states m d) (fn_of m.n B ∷ live) f) (put-swap e X A P B (apart P X w.0))
      ∙ ticks-absent f w.1 (put e P B) (fn_of m.n B ∷ live))
      (λ B. ap (λ (d : Env). means m d f) (put-swap e X A P B (apart P X w.0)) ∙ means-absent m X A f w.1 (put e P B))
  ticks-absent (until b t f g) h e live =
      let w = and_out (absent X f) (absent X g) h in
      let R = related m t in
      let all : (F G : List Bool) (fs gs : List Fn → List Tick)
      → List Tick = λ F G fs gs. round_ticks (until_ticks m.n live b (exist m) R F G fs gs) (onward b (size m) R F G) (suc (size m))
      (start true (size m) (exist m)) in
      ap₂ (λ (F G : List Bool). all F G (λ l. ticks (states m (put e X A)) l f) (λ l. ticks (states m (put e X A)) l g))
      (means-absent m X A f w.0 e) (means-absent m X A g w.1 e)
      ∙ ap₂ (λ (x y : List Fn → List Tick). all (means m e f) (means m e g) x y) (fun_ext (λ l. ticks-absent f w.0 e l))
      (fun_ext (λ l. ticks-absent g w.1 e l))

-- ---- the translation

-- the diamond of a set that agrees with another on E takes the same steps: both sets' existing states have one function, and so do their
-- shifts
in-fn : (n : ℕ) (E A : List Bool) → Below A E → fn_of n (inter (2 ^ n) A E) ≡ fn_of n A
in-fn n E A h = fn_of-table n (λ s. mem A s && mem E s) ∙ fun_ext (λ v. go (mem A (now_of n v)) (mem E (now_of n v)) (h (now_of n v)))
  where
    go : (a c : Bool) → (T a → T c) → (a && c) ≡ a
    go true true i = refl
    go true false i = absurd (i tt)
    go false c i = refl

-- the same of A with exactly the states' places
compl_in : (k : ℕ) (E A : List Bool) → Below A E → (s : ℕ) → s < k → mem (inter k A E) s ≡ mem A s
compl_in k E A h s l = get_or-table k (λ s. mem A s && mem E s) s false l ∙ go (mem A s) (mem E s) (h s)
  where
    go : (a c : Bool) → (T a → T c) → (a && c) ≡ a
    go true true i = refl
    go true false i = absurd (i tt)
    go false c i = refl

dia_in : (n : ℕ) (live : List Fn) (E : List Bool) (R : Pairs) (A : List Bool) → Below A E
    → dia_needs n live R (inter (2 ^ n) A E) ≡ dia_needs n live R A
dia_in n live E R A h = ap (diamond_needs n live (fn_of_pairs n R)) (in-fn n E A h)

not_same : (k : ℕ) (E A : List Bool) → Below A E → compl k (inter k A E) ≡ compl k A
not_same k E A h = table_ext k _ _ (λ s l. ap not (compl_in k E A h s l))

boxes_in : (n : ℕ) (live : List Fn) (E : List Bool) (R : Pairs) (A : List Bool) → Below A E
    → box_needs n live E R (inter (2 ^ n) A E) ≡ box_needs n live E R A
boxes_in n live E R A h = ap₂ needs (in-fn n E A h) (not_same (2 ^ n) E A h)
  where
    needs : Fn → List Bool → List ℕ
    needs F B =
        let C = inter (2 ^ n) B E in
        (step_need (2 * n) (F ∷ live) (fn_of n B) ∷ two_need n live (inter (2 ^ n)) B E ∷ [])
        ++ (dia_needs n live R C ++ not_needs n live E (sometimes (2 ^ n) R C))

module _ (m : Model) (e : Env) (t X : ℕ) where
  goes-ticks : (b : Bool) (A : List Bool) → Below A (exist m) → (live : List Fn)
      → ticks (states m (put e X A)) live (goes b t X) ≡ further_ticks b m.n live (exist m) (related m t) A
  goes-ticks true A h live =
      ap (λ (B : List Bool). steps (dia_needs m.n live (related m t) (inter (size m) B (exist m)))) (put-here e X A)
      ∙ ap steps (dia_in m.n live (exist m) (related m t) A h)
  goes-ticks false A h live =
      let R = related m t in
      let E = exist m in
      both-same m.n live (inter (size m)) _ (steps (box_needs m.n live E R A)) _ (inter (size m) (always (size m) R A) E)
      (λ l. steps (dia_needs m.n l R E)) (λ l. steps (dia_needs m.n l R E)) (sometimes (size m) R E) (sometimes (size m) R E)
      (ap (λ (B : List Bool). steps (box_needs m.n live E R (inter (size m) B E))) (put-here e X A)
      ∙ ap steps (boxes_in m.n live E R A h))
      (ap (λ (B : List Bool). inter (size m) (always (size m) R (inter (size m) B E)) E) (put-here e X A)
      ∙ ap (λ (B : List Bool). inter (size m) B E)
      (always-same (size m) E R (related-inside m t) (inter (size m) A E) A (inter-agrees (size m) E A))) (λ l. refl) refl

  -- UNTIL IS THE WRITTEN FORMULA, in steps, needs and rounds
  pub ticks-written : (b : Bool) (f g : Form) → T (absent X f) → T (absent X g) → (live : List Fn)
      → ticks (states m e) live (until b t f g) ≡ ticks (states m e) live (written b t X f g)
  ticks-written b f g hf hg live =
      let R = related m t in
      let E = exist m in
      sym (rounds-within E _
      (until_ticks m.n live b E R (means m e f) (means m e g) (λ l. ticks (states m e) l f) (λ l. ticks (states m e) l g)) _
      (onward b (size m) R (means m e f) (means m e g))
      (λ A a.
      let held = fn_of m.n A ∷ live in
      both-same m.n held (union (size m)) _ (ticks (states m e) held g) _ (means m e g)
      (λ l. ticks (states m (put e X A)) l (conj f (goes b t X)))
      (λ l. both_ticks m.n l (inter (size m)) (ticks (states m e) l f) (means m e f) (λ k. further_ticks b m.n k E R A)
      (further b (size m) R A)) _ (inter (size m) (means m e f) (further b (size m) R A))
      (ticks-absent m X A g hg e held) (means-absent m X A g hg e)
      (λ l.
      both-same m.n l (inter (size m)) _ (ticks (states m e) l f) _ (means m e f) (λ k. ticks (states m (put e X A)) k (goes b t X))
      (λ k. further_ticks b m.n k E R A) _ (further b (size m) R A)
      (ticks-absent m X A f hf e l) (means-absent m X A f hf e) (λ k. goes-ticks b A a k) (goes-means m e b t X A))
      (ap₂ (inter (size m)) (means-absent m X A f hf e) (goes-means m e b t X A)))
      (written-round m e b t X f g hf hg) (onward-into m t b (means m e f) (means m e g) (means_in m e f) (means_in m e g)) (suc (size m))
      (start true (size m) E) (start_in true (size m) E))

-- ---- the same of the run

two_ext : {Y : Type 0} {h k : List Bool → Count → Y} → ((A : List Bool) (q : Count) → h A q ≡ k A q) → h ≡ k
two_ext e = fun_ext (λ A. fun_ext (λ q. e A q))

live_ext : {Y : Type 0} {h k : List Fn → Count → Y} → ((l : List Fn) (q : Count) → h l q ≡ k l q) → h ≡ k
live_ext e = fun_ext (λ l. fun_ext (λ q. e l q))

module _ (m : Model) (N R X : ℕ) (A : List Bool) where
  pub run-absent : (f : Form) → T (absent X f) → (e : Env) (live : List Fn) (r : Count)
      → run (states m (put e X A)) N R live f r ≡ run (states m e) N R live f r
  run-absent bot h e live r = refl
  run-absent top h e live r = refl
  run-absent (neg f) h e live r = ap (λ (o : Outcome). and_then o (λ B q. not_step m.n N live (exist m) B q)) (run-absent f h e live r)
  run-absent (conj f g) h e live r =
      let w = and_out (absent X f) (absent X g) h in
      ap₂ (both_steps m.n N live (inter (size m))) (run-absent f w.0 e live r)
      (two_ext (λ B q. run-absent g w.1 e (fn_of m.n B ∷ live) q))
  run-absent (disj f g) h e live r =
      let w = and_out (absent X f) (absent X g) h in
      ap₂ (both_steps m.n N live (union (size m))) (run-absent f w.0 e live r)
      (two_ext (λ B q. run-absent g w.1 e (fn_of m.n B ∷ live) q))
  run-absent (now p) h e live r = refl
  run-absent (next p) h e live r = refl
  run-absent (var P) h e live r = ap (λ (B : List Bool). value (inter (size m) B (exist m)) r) (var_apart (eqb P X) A (e P) h)
  run-absent (reg x) h e live r = refl
  run-absent (box t f) h e live r =
      ap (λ (o : Outcome). and_then o (λ B q. box_steps m.n N live (exist m) (related m t) B q)) (run-absent f h e live r)
  run-absent (dia t f) h e live r =
      ap (λ (o : Outcome). and_then o (λ B q. dia_steps m.n N live (related m t) B q)) (run-absent f h e live r)
  run-absent (mu P f) h e live r =
      let w = and_out (not (eqb P X)) (absent X f) h in
      ap (λ (G : List Bool → Count → Outcome). loop R G R (start true (size m) (exist m)) r)
      (two_ext
      (λ B q. ap (λ (d : Env). run (states m d) N R (fn_of m.n B ∷ live) f q) (put-swap e X A P B (apart P X w.0))
      ∙ run-absent f w.1 (put e P B) (fn_of m.n B ∷ live) q))
  run-absent (nu P f) h e live r =
      let w = and_out (not (eqb P X)) (absent X f) h in
      ap (λ (G : List Bool → Count → Outcome). loop R G R (start false (size m) (exist m)) r)
      (two_ext
      (λ B q. ap (λ (d : Env). run (states m d) N R (fn_of m.n B ∷ live) f q) (put-swap e X A P B (apart P X w.0))
      ∙ run-absent f w.1 (put e P B) (fn_of m.n B ∷ live) q))
  run-absent (until b t f g) h e live r =
      let w = and_out (absent X f) (absent X g) h in
      ap₂ (λ (fs gs : List Fn → Count → Outcome). loop R (until_round m.n N live b (exist m) (related m t) fs gs) R
      (start true (size m) (exist m)) r)
      (live_ext (λ l q. run-absent f w.0 e l q)) (live_ext (λ l q. run-absent g w.1 e l q))

-- what goes on alike from existing states goes on alike from what a run came to
then_same : (n : ℕ) (E : List Bool) (r : ℕ) (o : Outcome) (F G : List Bool → Count → Outcome) → Good n E r o
    → ((B : List Bool) (q : Count) → Sized n B → Below B E → F B q ≡ G B q)
    → and_then o F ≡ and_then o G
then_same n E r (value B q) F G g h = h B q g.0 g.2
then_same n E r full F G g h = refl
then_same n E r spent F G g h = refl

-- rounds from a set of existing states that are alike on existing states
loop-same : (n : ℕ) (E : List Bool) (R : ℕ) (G H : List Bool → Count → Outcome) → GoodOn n E G
    → ((A : List Bool) (q : Count) → Sized n A → Below A E → G A q ≡ H A q)
    → (j : ℕ) (A : List Bool) (r : Count) → Sized n A → Below A E → loop R G j A r ≡ loop R H j A r
loop-same n E R G H good alike zero A r z a = refl
loop-same n E R G H good alike (suc j) A r z a =
    ap (λ (o : Outcome). cond (ltb r.rounds R) o spent)
    (then_same n E (suc r.rounds) (G A (another r)) (λ B q. cond (same B A) (value B q) (loop R G j B q))
    (λ B q. cond (same B A) (value B q) (loop R H j B q)) (good A (another r) z a)
    (λ B q y b. ap (λ (o : Outcome). cond (same B A) (value B q) o) (loop-same n E R G H good alike j B q y b))
    ∙ ap (λ (o : Outcome). and_then o (λ B q. cond (same B A) (value B q) (loop R H j B q))) (alike A (another r) z a))

-- a set of existing states is its states in E
in-self : (n : ℕ) (E A : List Bool) → Sized n A → Below A E → inter (2 ^ n) A E ≡ A
in-self n E A z a = fn_of_inj n (inter (2 ^ n) A E) A (length-table (2 ^ n) (λ s. mem A s && mem E s)) z
    (λ v. ap (λ (F : Fn). F v) (in-fn n E A a))

module _ (m : Model) (N R : ℕ) (e : Env) (t X : ℕ) where
  goes-run : (b : Bool) (A : List Bool) → Sized m.n A → Below A (exist m) → (live : List Fn) (q : Count)
      → run (states m (put e X A)) N R live (goes b t X) q ≡ further_steps b m.n N live (exist m) (related m t) A q
  goes-run b A z a live q = go b
    where
      read : inter (size m) (put e X A X) (exist m) ≡ A
      read = ap (λ (B : List Bool). inter (size m) B (exist m)) (put-here e X A) ∙ in-self m.n (exist m) A z a

      go : (b : Bool) → run (states m (put e X A)) N R live (goes b t X) q ≡ further_steps b m.n N live (exist m) (related m t) A q
      go true = ap (λ (B : List Bool). dia_steps m.n N live (related m t) B q) read
      go false =
          ap (λ (B : List Bool). both_steps m.n N live (inter (size m)) (box_steps m.n N live (exist m) (related m t) B q)
          (λ C p. dia_steps m.n N (fn_of m.n C ∷ live) (related m t) (exist m) p)) read

  -- the run of until is that of the written formula
  pub run-written : (b : Bool) (f g : Form) → T (absent X f) → T (absent X g) → (live : List Fn) (r : Count)
      → run (states m e) N R live (until b t f g) r ≡ run (states m e) N R live (written b t X f g) r
  run-written b f g hf hg live r =
      let E = exist m in
      loop-same m.n E R
      (until_round m.n N live b E (related m t) (λ l q. run (states m e) N R l f q) (λ l q. run (states m e) N R l g q))
      (λ A q. run (states m (put e X A)) N R (fn_of m.n A ∷ live) (disj g (conj f (goes b t X))) q)
      (until-good m.n E (related m t) (related-inside m t) (length-table (size m) (λ s. mem m.valid s)) N live b
      (λ l q. run (states m e) N R l f q) (λ l q. run (states m e) N R l g q) (λ l q. run-good m N R e l f q)
      (λ l q. run-good m N R e l g q))
      (λ A q z a.
      let held = fn_of m.n A ∷ live in
      sym
      (ap₂ (both_steps m.n N held (union (size m))) (run-absent m N R X A g hg e held q)
      (two_ext (λ G p.
      ap₂ (both_steps m.n N (fn_of m.n G ∷ held) (inter (size m))) (run-absent m N R X A f hf e (fn_of m.n G ∷ held) p)
      (two_ext (λ F o. goes-run b A z a (fn_of m.n F ∷ fn_of m.n G ∷ held) o))))))
      R (start true (size m) E) r (length-start true (size m) E) (start_in true (size m) E)
