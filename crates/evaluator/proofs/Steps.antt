-- One law for each call and each return of the evaluator's functions. Assumes nothing.
use Rattle.std.specs.Prelude.{Result, Ok, Err}
use mathlib.Core.Path.{◌≡◌, refl, sym, ap, ◌∙◌, subst}
use mathlib.Core.Logic.{⊎_elim}
use mathlib.Core.Bool.{Bool, true, false}
use mathlib.Core.List.Memᴰ.{head as here}
use mathlib.Core.List.Memᴰ.{tail as there}
use mathlib.Core.List.{List, [], ◌∷◌, ◌++◌, map, Memᴰ as Mem}
use mathlib.Core.List.Memᴰ.{append_cases}
use mathlib.Core.List.Memᴰ.{cases_cons as mem-cases}
use mathlib.Core.List.Memᴰ.{not-nil as mem-nil}
use Prim.Native.Nat.{ℕ, ◌+◌, ◌*◌, ◌<◌}
use native.Mathlib.Omega.{arith}
use lib.ListN.{length, set, take}
use Rattle.mucalculus.specs.Form.{Form, neg}
use Rattle.mucalculus.specs.Means.{compl, related}
use Rattle.tokens.specs.declared.Grammar.{Grammar}
use Rattle.tokens.specs.declared.Leaf.{Leaf}
use Rattle.tokens.specs.declared.Mode.{Mode}
use Rattle.tokens.specs.declared.Join.{Join}
use Rattle.tokens.specs.declared.Join.TheVariants.{And, Or}
use Rattle.formula.specs.Parse.{leaf_form, join_form, modal_form}
use Rattle.accounts.specs.declared.Count.{Count}
use Rattle.accounts.specs.Count.{needing}
use Rattle.layout.specs.Places.{VALID}
use Rattle.layout.specs.View.{View}
use Rattle.diagram.specs.Level.{Fn}
use Rattle.diagram.specs.Rows.{Rows, Arrow, den}
use Rattle.diagram.specs.Need.{step_need}
use Rattle.diagram.specs.Post.{Result as Answer, Denotes}
use Rattle.diagram.proofs.Keep.{keeps_within, keeps_denotes}
use Rattle.diagram.specs.Step.{StepPost}
use Rattle.diagram.specs.Steps.{and_f, not_f}
use Rattle.diagram.specs.Count.{Within}
use Rattle.rows.specs.Used.{rows_of}
use Rattle.rows.specs.Within.{valid_of}
use Rattle.table.specs.Make.{result}
use Rattle.collect.specs.Lent.{live}
use Rattle.steps.specs.declared.Step.{Step}
use Rattle.steps.specs.declared.Step.TheVariants as step
use Rattle.steps.specs.Steps.{step_f, operands_of, Fits}
use Rattle.table.specs.declared.Full.{Full}
use Rattle.counting.specs.Taken.{taken, ran_out, made_in, Counted}
use Rattle.counting.specs.declared.Taken.{Taken}
use Rattle.book.specs.Bridge.{fn_of}
use Rattle.book.specs.Held.{Held}
use Rattle.book.proofs.Held.{denoted, held-arrow, held-push, Needed}
use Rattle.book.specs.Over.{size_of}
use Rattle.book.proofs.Over.{levels-not}
use Rattle.book.specs.Run.{Outcome, value, and_then, two_by, confine}
use Rattle.book.specs.Follow.{ends, EvalsBy}
use Rattle.book.proofs.Follow.{ended_by, evals-same, evals-stop, evals_then, evals-from, evals-two, evals-two-stop, evals_out, evals-on}
use Rattle.book.proofs.Follow.{evals-valid}
use Rattle.modal.specs.declared.Limits.{Limits}
use Rattle.modal.specs.Chain.{Alike, Moved}
use Rattle.modal.proofs.Chain.{alike_cons, alike_sym, alike_once, step-roots, counted-roots, moved_trans, Took, took}
use Rattle.evaluator.specs.Scene.{evaluated}
use Rattle.evaluator.specs.Scene.{stack_size, Scene, model_in, over_in, value_in, run_in, exist_in, Ready, Part, ended_of, ended_in, EndsAt}
use Rattle.evaluator.specs.Scene.{Answers, from_taken, join_step, LeafAnswers, LivePre, LivePost, JoinedTo, JoinedPost, ConfinedPre}
use Rattle.evaluator.specs.Scene.{ConfinedTo, ConfinedPost}
use Rattle.evaluator.proofs.Scene.{pushed}
use Rattle.evaluator.specs.declared.Stopped.{Stopped}
use Rattle.evaluator.specs.declared.Value.{Value}
use Rattle.evaluator.specs.declared.Stopped.TheVariants as stopped
use Rattle.evaluator.proofs.State.{valid-mem, valid-live, still-below, live-pre, ready-next, ready-push}
use Rattle.evaluator.proofs.Outcomes.{Halts, halts_stops, halts_end, taken-ended, taken-end, evals-value, join_op, join_f, join-exact}
use Rattle.evaluator.proofs.Outcomes.{step_by, not_by, run_join, run-neg, over_steps, run-modal}

-- a part's answer that is no value is the answer of what goes on with its value
pub answers-stop : {on_states : Bool} {L : Limits} {W X : View} {stack after : List ℕ}
    {held : ℕ} {count : Count} {σ : Scene} {f : Form} {e : ℕ} {r : Result Value Stopped}
    → Answers on_states L W X stack after held count σ f e r
    → Halts r
    → (h : Form) (e' : ℕ) (G : List Bool → Count → Outcome) → run_in on_states L σ h count ≡ and_then (run_in on_states L σ f count) G
    → Answers on_states L W X stack after held count σ h e' r
answers-stop {on_states} {L} {count = count} {σ = σ} {f = f} {r = r} A s h e' G q = record {
  moved = A.moved;
  kept = A.kept;
  evals = evals-same (sym q) (evals-stop L.bits L.rows (run_in on_states L σ f count) (ended_of r) G (halts_stops r s) A.evals);
  end = halts_end e' r s;
}

-- a formula that is another one
pub answers-same : {on_states : Bool} {L : Limits} {W X : View} {stack after : List ℕ}
    {held : ℕ} {count : Count} {σ : Scene} {f g : Form} {e : ℕ} {r : Result Value Stopped} → f ≡ g
    → Answers on_states L W X stack after held count σ g e r
    → Answers on_states L W X stack after held count σ f e r
answers-same {on_states} {L} {W} {X} {stack} {after} {held} {count} {σ} {e = e} {r = r} q A =
    subst (λ (h : Form). Answers on_states L W X stack after held count σ h e r) (sym q) A

-- a step's answer after a value
pub answers-taken : {on_states : Bool} {L : Limits} {W X : View} {stack after : List ℕ}
    {held : ℕ} {count : Count} {σ : Scene} (f : Form) {e : ℕ} (k : ℕ) (o : Result Taken Full) {r : Result Value Stopped} → k ≡ e
    → r ≡ from_taken k o
    → Moved L.bits W X
    → take held after ≡ take held stack
    → EvalsBy (value_in on_states L.bits σ) L.bits L.rows (rows_of W) (rows_of X) σ.roots (run_in on_states L σ f count)
    (ended_in o) → Answers on_states L W X stack after held count σ f e r
answers-taken {on_states} {L} {W} {X} {stack} {after} {held} {count} {σ} f {e} k o {r} at-e is m s v =
    subst (λ (x : Result Value Stopped). Answers on_states L W X stack after held count σ f e x)
    (sym (is ∙ ap (λ (x : ℕ). from_taken x o) at-e))
    (record {
      moved = m;
      kept = s;
      evals =
          subst (EvalsBy (value_in on_states L.bits σ) L.bits L.rows (rows_of W) (rows_of X) σ.roots (run_in on_states L σ f count))
          (taken-ended e o) v;
      end = taken-end e o;
    })

-- a leaf's value or step
pub eval-leaf : {on_states : Bool} {L : Limits} {W X : View} {stack : List ℕ}
    {held : ℕ} {count : Count} {σ : Scene} {f : Form} (l : Leaf) {e k : ℕ} {o : Result Taken Full} {r : Result Value Stopped}
    → f ≡ leaf_form l → e ≡ k
    → LeafAnswers on_states L W X count σ (leaf_form l) o → r ≡ from_taken k o → Answers on_states L W X stack stack held count σ f e r
eval-leaf l {k = k} {o = o} q at-e A is = answers-same q (answers-taken (leaf_form l) k o (sym at-e) is A.moved refl A.evals)

alike_append : {A : Type 0} {xs ys : List A} (ops : List A) → Alike xs ys → Alike (ops ++ xs) (ops ++ ys)
alike_append [] s = s
alike_append (x ∷ ops) s = alike_cons x (alike_append ops s)

alike_swap : {A : Type 0} (x y : A) (zs : List A) → Alike (x ∷ y ∷ zs) (y ∷ x ∷ zs)
alike_swap x y zs = record { to = λ a h. go x y a h; from = λ a h. go y x a h }
  where
    go : {A : Type 0} {zs : List A} (x y a : A) → Mem a (x ∷ y ∷ zs) → Mem a (y ∷ x ∷ zs)
    go x y a h = ⊎_elim (λ e. there (here e)) (λ i. ⊎_elim (λ e. here e) (λ j. there (there j)) (mem-cases i)) (mem-cases h)

-- ---- one step

-- a step over some roots is one over others with the same members
pub took_alike : {n N limit : ℕ} {W X : View} {xs ys : List ℕ} {q : Count} {o : Result Taken Full} {F : Fn} → ((a : ℕ) → Mem a ys
    → Arrow (rows_of W) a)
    → Alike xs ys → Took n N limit W X xs q o F → Took n N limit W X ys q o F
took_alike {n} {W = W} {q = q} {o} {F} u s t = record {
  moved = t.moved;
  post = step-roots (result (made_in o)) u s t.post;
  count = counted-roots (2 * n) (rows_of W) F q o u s t.count;
}

-- a step whose answer is known
pub took_at : {n N limit : ℕ} {W X : View} {roots : List ℕ} {q : Count} {o u : Result Taken Full} {F : Fn} → o ≡ u
    → Took n N limit W X roots q o F
    → Took n N limit W X roots q u F
took_at {n} {N} {limit} {W} {X} {roots} {q} {F = F} e t = subst (λ (x : Result Taken Full). Took n N limit W X roots q x F) e t

-- a step in a scene: its roots are its operands and the scene's
pub took_roots : {L : Limits} {W X : View} {stack places : List ℕ} {held : ℕ} {σ : Scene} {q : Count} {o : Result Taken Full} {F : Fn}
    (ops : List ℕ)
    → Ready L W stack places held σ
    → ((a : ℕ) → Mem a ops → Arrow (rows_of W) a) → Took L.bits L.rows L.limit W X (ops ++ live W (take held stack)) q o F
    → Took L.bits L.rows L.limit W X (ops ++ σ.roots) q o F
took_roots ops R u t = took_alike (λ a h. ⊎_elim (u a) (held-arrow R.lives a) (append_cases ops h)) (alike_append ops R.roots) t

-- what holds of a step's answer and need, holds of what was taken
pub took_evals : {n N limit : ℕ} {W X : View} {roots : List ℕ} {q : Count} {o : Result Taken Full} {F : Fn} → Took n N limit W X roots q o F
    → {lv : List Bool → Fn} {before after : Rows} {kept : List ℕ} {u : Outcome}
    → ((answer : Answer) → StepPost (2 * n) N limit (rows_of W) (rows_of X) roots answer F → (k : ℕ)
    → Needed (2 * n) (rows_of W) roots F answer k → EvalsBy lv n N before after kept u (ended_by answer (needing q k)))
    → EvalsBy lv n N before after kept u (ended_in o)
took_evals {n} {N} {limit} {W} {X} {roots} {q} {o} {F} t {lv} {before} {after} {kept} {u} law = go o t.post t.count
  where
    go : (o : Result Taken Full) → StepPost (2 * n) N limit (rows_of W) (rows_of X) roots (result (made_in o)) F
        → Counted (2 * n) (rows_of W) roots F q o
        → EvalsBy lv n N before after kept u (ended_in o)
    go (Ok t) p e =
        subst (λ (x : Count). EvalsBy lv n N before after kept u (ends t.arrow x)) (sym e)
        (law (result (made_in (Ok t))) p (step_need (2 * n) (map (den (2 * n) (rows_of W)) roots) F) refl)
    go (Err x) p e = law (result (made_in ran_out)) p 0 tt

pub one-arrow : (rows : Rows) (a : ℕ) → Arrow rows a → (b : ℕ) → Mem b (a ∷ []) → Arrow rows b
one-arrow rows a u b h = ⊎_elim (λ e. subst (Arrow rows) (sym e) u) (λ i. absurd (mem-nil i)) (mem-cases h)

two-arrows : (rows : Rows) (a c : ℕ) → Arrow rows a → Arrow rows c → (b : ℕ) → Mem b (a ∷ c ∷ []) → Arrow rows b
two-arrows rows a c u v b h = ⊎_elim (λ e. subst (Arrow rows) (sym e) u) (one-arrow rows c v b) (mem-cases h)

-- AND with V, whose arrow is a root
pub took_within : {L : Limits} {W X : View} {stack places : List ℕ} {held : ℕ} {σ : Scene} {q : Count} {o : Result Taken Full} {b x : ℕ}
    → Ready L W stack places held σ → Arrow (rows_of W) b → Arrow (rows_of W) x → x ≡ valid_of W
    → Took L.bits L.rows L.limit W X (b ∷ x ∷ live W (take held stack)) q o
    (and_f (den (2 * L.bits) (rows_of W) b) (den (2 * L.bits) (rows_of W) x))
    → Took L.bits L.rows L.limit W X (b ∷ σ.roots) q o
    (and_f (den (2 * L.bits) (rows_of W) b) (den (2 * L.bits) (rows_of W) (valid_of W)))
took_within {L} {W} {X} {stack} {places} {held} {σ} {q} {o} {b} {x} R u v e t =
    let t1 = took_roots (b ∷ x ∷ []) R (two-arrows (rows_of W) b x u v) t in
    let t2 =
    subst (λ (y : ℕ). Took L.bits L.rows L.limit W X (b ∷ y ∷ σ.roots) q o
    (and_f (den (2 * L.bits) (rows_of W) b) (den (2 * L.bits) (rows_of W) y))) e t1 in
    took_alike (λ y h. ⊎_elim (one-arrow (rows_of W) b u y) (held-arrow R.lives y) (append_cases (b ∷ []) h))
    (alike_cons b (alike_sym (alike_once (valid-mem R)))) t2

-- AND and OR ask for two arrows, and have them among their roots
pub join-fits : (m : ℕ) (rows : Rows) (j : Join) (a b : ℕ) → Arrow rows a → Arrow rows b → Fits m rows (join_step j a b)
join-fits m rows And a b u v = (u, v)
join-fits m rows Or a b u v = (u, v)

pub took_join : {L : Limits} {W X : View} {stack places : List ℕ} {held : ℕ} {σ : Scene} {q : Count} {o : Result Taken Full} {a b : ℕ}
    {s : Step}
    → Ready L W stack places held σ → (j : Join) → s ≡ join_step j a b
    → Arrow (rows_of W) a → Arrow (rows_of W) b
    → Took L.bits L.rows L.limit W X (operands_of s ++ live W (take held stack)) q o (step_f (2 * L.bits) (rows_of W) s)
    → Took L.bits L.rows L.limit W X (b ∷ a ∷ σ.roots) q o
    (join_f j (den (2 * L.bits) (rows_of W) a) (den (2 * L.bits) (rows_of W) b))
took_join {L} {W} {X} {stack} {places} {held} {σ} {q} {o} {a} {b} R j e u v t =
    go j (subst
    (λ (x : Step). Took L.bits L.rows L.limit W X (operands_of x ++ live W (take held stack)) q o
    (step_f (2 * L.bits) (rows_of W) x)) e t)
  where
    swapped : {F : Fn} → Took L.bits L.rows L.limit W X (a ∷ b ∷ σ.roots) q o F
        → Took L.bits L.rows L.limit W X (b ∷ a ∷ σ.roots) q o F
    swapped p =
        took_alike (λ x h. ⊎_elim (two-arrows (rows_of W) b a v u x) (held-arrow R.lives x) (append_cases (b ∷ a ∷ []) h))
        (alike_swap a b σ.roots) p

    go : (j : Join)
        → Took L.bits L.rows L.limit W X (operands_of (join_step j a b) ++ live W (take held stack)) q o
        (step_f (2 * L.bits) (rows_of W) (join_step j a b))
        → Took L.bits L.rows L.limit W X (b ∷ a ∷ σ.roots) q o
        (join_f j (den (2 * L.bits) (rows_of W) a) (den (2 * L.bits) (rows_of W) b))
    go And t = swapped (took_roots (a ∷ b ∷ []) R (two-arrows (rows_of W) a b u v) t)
    go Or t = swapped (took_roots (a ∷ b ∷ []) R (two-arrows (rows_of W) a b u v) t)

-- ---- a part that is no value

module _ {on_states : Bool} {L : Limits} {W X : View} {stack after : List ℕ}
    {held : ℕ} {count : Count} {σ : Scene} {f : Form} {e : ℕ} {r : Result Value Stopped}
    (A : Answers on_states L W X stack after held count σ f e r)
    (s : Halts r) where
  pub negate_stops : Answers on_states L W X stack after held count σ (neg f) e r
  negate_stops =
      answers-stop A s (neg f) e (λ C p. not_by on_states (model_in L.bits σ) σ.env L.limit σ.fns C p)
      (run-neg on_states (model_in L.bits σ) σ.env L.limit L.rounds σ.fns f count)

  pub first_stops : (j : Join) (g : Form) (e' : ℕ) → Answers on_states L W X stack after held count σ (join_form j f g) e' r
  first_stops j g e' =
      answers-stop A s (join_form j f g) e' _ (run_join on_states (model_in L.bits σ) σ.env L.limit L.rounds σ.fns j f g count)

pub mode_stops : {L : Limits} {W X : View} {stack after : List ℕ} {held : ℕ} {count : Count} {σ : Scene} {f : Form} {e : ℕ}
    {r : Result Value Stopped}
    → Answers true L W X stack after held count σ f e r → Halts r
    → (m : Mode) (t : ℕ) → Answers true L W X stack after held count σ (modal_form m t f) e r
mode_stops {L} {count = count} {σ = σ} {f = f} {e} A s m t =
    answers-stop A s (modal_form m t f) e
    (λ C p. over_steps m L.bits L.limit σ.fns (exist_in L.bits σ) (related (model_in L.bits σ) t) C p)
    (run-modal (model_in L.bits σ) L.limit L.rounds σ.env σ.fns m t f count)

-- ---- a step's result, and over states AND with V

module _ {L : Limits} {W : View} {stack places : List ℕ} {held : ℕ} {σ : Scene} (R : Ready L W stack places held σ)
    {X : View} {q : Count} {o : Result Taken Full} {ys : List ℕ} {F : Fn}
    (w : Within σ.roots ys) (t : Took L.bits L.rows L.limit W X ys q o F) where
  first-ready : Ready L X stack places held σ
  first-ready = ready-next R t.moved (keeps_within w t.post.kept) stack refl refl

  pub confined-asks : {s : Step} → LivePost L W X stack held s q o → ConfinedPre L X stack held o
  confined-asks {s} p = record {
    scene = σ;
    places = places;
    ready = first-ready;
    arrow = λ x p i. (took_at i t).post.result.0.arrow;
    earlier = W;
    last = s;
    before = q;
    told = p;
  }

-- the outcome of a step for the set B after which q is counted, and of what follows it
pub record Confines (on_states : Bool) (L : Limits) (W : View) (σ : Scene) (operands : List Fn) (B : List Bool)
    (q : Count) (Z : View) (v : Result Taken Full) : Type 0 where
  pub moved : Moved L.bits W Z
  pub evals : EvalsBy (value_in on_states L.bits σ) L.bits L.rows (rows_of W) (rows_of Z) σ.roots
      (step_by on_states (model_in L.bits σ) σ.env L.limit σ.fns operands B q) (ended_in v)

confined-to : {on_states : Bool} {L : Limits} {W X Y : View} {σ : Scene} {operands : List Fn} {B : List Bool} {q : Count}
    {u v : Result Taken Full}
    → (Y ≡ X) × (u ≡ v) → Confines on_states L W σ operands B q X v
    → Confines on_states L W σ operands B q Y u
confined-to {on_states} {L} {W} {X} {σ = σ} {operands} {B} {q} {u} i c =
    subst (λ (Z : View). Confines on_states L W σ operands B q Z u) (sym i.0)
    (subst (λ (y : Result Taken Full). Confines on_states L W σ operands B q X y) (sym i.1) c)

module _ {L : Limits} {W : View} {stack places : List ℕ} {held : ℕ} {σ : Scene} (R : Ready L W stack places held σ)
    {X : View} {q : Count} {ys : List ℕ} {F : Fn}
    (w : Within σ.roots ys) {operands : List Fn} (h : Held (2 * L.bits) (rows_of W) ys operands) (B : List Bool) where
  confined_out : (on_states : Bool) → F ≡ value_in on_states L.bits σ B → Took L.bits L.rows L.limit W X ys q ran_out F
      → Confines on_states L W σ operands B q X ran_out
  confined_out on_states e t = record {
    moved = t.moved;
    evals =
        evals_out L.bits L.rows B q (λ r k. keeps_within w k) h e (λ c. confine (over_in on_states L.bits σ) L.limit σ.fns B c)
        t.post;
  }

  module _ {x : ℕ} {p : Count} where
    -- pairs are of all states
    confined-pairs : F ≡ value_in false L.bits σ B → Took L.bits L.rows L.limit W X ys q (taken x p) F
        → Confines false L W σ operands B q X (taken x p)
    confined-pairs e t = record {
      moved = t.moved;
      evals =
          evals-on L.bits L.rows B q (λ r k. keeps_within w k) h e (λ c. value B c) t.post
          (step_need (2 * L.bits) (map (den (2 * L.bits) (rows_of W)) ys) F) refl
          (λ wf kp d. record { wf = wf; kept = kp; result = (d, t.count) });
    }

    -- states are those of V
    confined-states : {Y : View} {u : Result Taken Full} → F ≡ value_in true L.bits σ B
        → Took L.bits L.rows L.limit W X ys q (taken x p) F → LivePost L X Y stack held (step.And x (valid_of X)) p u
        → Confines true L W σ operands B q Y u
    confined-states {Y} {u} e t s =
        let R1 = first-ready R w t in
        let a : Arrow (rows_of X) x = t.post.result.0.arrow in
        let t2 = took {q = p} {o = u} R1.base (live-pre R1 {s = step.And x (valid_of X)} (a, R1.valid.arrow)).asks s.stepped
        s.count in
        let t3 = valid-at t (took_within R1 a R1.valid.arrow refl t2) in
        let j = step_need (2 * L.bits) (map (den (2 * L.bits) (rows_of W)) ys) F in
        record {
          moved = moved_trans t.moved t3.moved;
          evals = took_evals t3 (λ answer post k y.
              subst (λ (c : Count). EvalsBy (fn_of L.bits) L.bits L.rows (rows_of W) (rows_of Y) σ.roots
              (step_by true (model_in L.bits σ) σ.env L.limit σ.fns operands B q) (ended_by answer (needing c k)))
              (sym t.count)
              (evals-on L.bits L.rows B q (λ r k. keeps_within w k) h e
              (λ c. confine (over_in true L.bits σ) L.limit σ.fns B c) t.post j refl
              (λ wf kp d. evals-valid L.bits L.rows R.lives (exist_in L.bits σ) (valid_of W) (valid-mem R) (valid-live R)
              R.valid B (needing q j) kp d answer post k y)));
        }
      where
        -- V's word is the same before and after the first step
        valid-at : Took L.bits L.rows L.limit W X ys q (taken x p) F
            → Took L.bits L.rows L.limit X Y (x ∷ σ.roots) p u
            (and_f (den (2 * L.bits) (rows_of X) x) (den (2 * L.bits) (rows_of X) (valid_of X)))
            → Took L.bits L.rows L.limit X Y (x ∷ σ.roots) p u
            (and_f (den (2 * L.bits) (rows_of X) x) (den (2 * L.bits) (rows_of X) (valid_of W)))
        valid-at t1 t3 =
            let same : X.header VALID
            ≡ W.header VALID = t1.moved.frame.header VALID (omega arith) (omega arith) (omega arith) (omega arith) in
            let same-arrow : valid_of X ≡ valid_of W = omega arith in
            subst (λ (y : ℕ). Took L.bits L.rows L.limit X Y (x ∷ σ.roots) p u
            (and_f (den (2 * L.bits) (rows_of X) x) (den (2 * L.bits) (rows_of X) y))) same-arrow t3

  pub confined-ends : {on_states : Bool} {o : Result Taken Full} → F ≡ value_in on_states L.bits σ B
      → Took L.bits L.rows L.limit W X ys q o F
      → {Y : View} {u : Result Taken Full} → ConfinedPost on_states L X Y stack held o u
      → Confines on_states L W σ operands B q Y u
  confined-ends {on_states} {o} e t {Y} {u} c = go on_states o e t c.to
    where
      go : (on_states : Bool) (o : Result Taken Full) → F ≡ value_in on_states L.bits σ B → Took L.bits L.rows L.limit W X ys q o F
          → ConfinedTo on_states L X Y stack held o u → Confines on_states L W σ operands B q Y u
      go true (Ok o) e t c = confined-states e t c
      go false (Ok o) e t c = confined-to c (confined-pairs e t)
      go true (Err x) e t c = confined-to c (confined_out true e t)
      go false (Err x) e t c = confined-to c (confined_out false e t)

-- ---- after a part's value

module _ {on_states : Bool} {L : Limits} {W X : View} {stack after places : List ℕ}
    {held : ℕ} {count : Count} {σ : Scene} {f : Form} {e : ℕ} {r : Result Value Stopped} (R : Ready L W stack places held σ)
    (A : Answers on_states L W X stack after held count σ f e r) (z : length after ≡ length stack)
    {a k : ℕ} {q : Count} (is : r ≡ evaluated a k q) where
  pub value-evals : EvalsBy (value_in on_states L.bits σ) L.bits L.rows (rows_of W) (rows_of X) σ.roots (run_in on_states L σ f count)
      (ends a q)
  value-evals =
      subst (λ (x : Result Value Stopped). EvalsBy (value_in on_states L.bits σ) L.bits L.rows (rows_of W) (rows_of X) σ.roots
      (run_in on_states L σ f count) (ended_of x)) is A.evals

  pub value-end : k ≡ e
  value-end = subst (EndsAt e) is A.end

  -- the set
  pub value_set : List Bool
  value_set = (evals-value (run_in on_states L σ f count) value-evals).0

  pub value-run : run_in on_states L σ f count ≡ value value_set q
  unfolding value_set
  value-run = (evals-value (run_in on_states L σ f count) value-evals).1

  pub value-is : Denotes (2 * L.bits) (rows_of X) a (value_in on_states L.bits σ value_set)
  unfolding value_set
  value-is = (evals-value (run_in on_states L σ f count) value-evals).2

  pub value-ready : Ready L X after places held σ
  value-ready = ready-next R A.moved A.evals.kept after z A.kept

  -- ---- NOT

  pub negate-asks : LivePre L X after held (step.Not a)
  negate-asks = live-pre value-ready value-is.arrow

  module _ {Y : View} {o : Result Taken Full} (p : LivePost L X Y after held (step.Not a) q o) where
    negate_took : Took L.bits L.rows L.limit X Y (a ∷ σ.roots) q o (not_f (den (2 * L.bits) (rows_of X) a))
    negate_took =
        took_roots (a ∷ []) value-ready (one-arrow (rows_of X) a value-is.arrow)
        (took {q = q} {o = o} value-ready.base negate-asks.asks p.stepped p.count)

    pub negate-confined : ConfinedPre L Y after held o
    negate-confined = confined-asks value-ready (λ x i. there i) negate_took p

    module _ {Z : View} {u : Result Taken Full} (s : ConfinedPost on_states L Y Z after held o u) where
      -- whatever set the value's arrow denotes
      negated : (C : List Bool) → Denotes (2 * L.bits) (rows_of X) a (value_in on_states L.bits σ C)
          → Confines on_states L X σ (value_in on_states L.bits σ C ∷ σ.fns) (compl (size_of (over_in on_states L.bits σ)) C) q Z u
      negated C d =
          confined-ends value-ready (λ x i. there i) (held-push value-ready.lives d) (compl (size_of (over_in on_states L.bits σ)) C)
          (ap not_f (denoted d) ∙ sym (levels-not (over_in on_states L.bits σ) C)) negate_took s

      pub negate-ends : {r' : Result Value Stopped} → r' ≡ from_taken k u → Answers on_states L W Z stack after held count σ (neg f) e r'
      negate-ends is-r = answers-taken (neg f) k u value-end is-r (moved_trans A.moved (negated value_set value-is).moved) A.kept
          (evals-same (sym (run-neg on_states (model_in L.bits σ) σ.env L.limit L.rounds σ.fns f count))
          (evals_then L.bits L.rows (run_in on_states L σ f count)
          (λ C p. not_by on_states (model_in L.bits σ) σ.env L.limit σ.fns C p) value-evals (λ C d.
          evals-from L.bits L.rows A.evals.kept (λ b i. i) (negated C d).evals)))

  -- ---- AND and OR

  -- the second formula stands where the first one ends
  pub both-part : {h : Grammar} {n : ℕ} {bs : List ℕ} {depth : ℕ} {scope : List Bool} {regs rels : ℕ → Bool} {g : Form} {e' : ℕ}
      → Part h n bs e depth scope regs rels g e' → Part h n bs k depth scope regs rels g e'
  both-part {h} {n} {bs} {depth} {scope} {regs} {rels} {g} {e'} p =
      subst (λ (x : ℕ). Part h n bs x depth scope regs rels g e') (sym value-end) p

  module _ (room : held < stack_size) where
    pub both-ready : (C : List Bool) → Denotes (2 * L.bits) (rows_of X) a (value_in on_states L.bits σ C)
        → Ready L X (set after held a) places (held + 1) (pushed σ a (value_in on_states L.bits σ C))
    both-ready C d = ready-push value-ready a (value_in on_states L.bits σ C) d room

    -- what the second part's evaluation gives, whatever set the first one's arrow denotes
    module _ {Y : View} {last : List ℕ} {g : Form} {e' : ℕ} {r' : Result Value Stopped} (z' : length last ≡ length after)
        (B : (C : List Bool) → Denotes (2 * L.bits) (rows_of X) a (value_in on_states L.bits σ C)
        → Answers on_states L X Y (set after held a) last (held + 1) q (pushed σ a (value_in on_states L.bits σ C)) g e' r') where
      B₀ : Answers on_states L X Y (set after held a) last (held + 1) q (pushed σ a (value_in on_states L.bits σ value_set)) g e' r'
      B₀ = B value_set value-is

      below : take held last ≡ take held after
      below = still-below held last after a B₀.kept

      pub both_stops : (j : Join) → Halts r' → Answers on_states L W Y stack last held count σ (join_form j f g) e' r'
      both_stops j s = record {
        moved = moved_trans A.moved B₀.moved;
        kept = below ∙ A.kept;
        evals = evals-same (sym (run_join on_states (model_in L.bits σ) σ.env L.limit L.rounds σ.fns j f g count))
            (evals-two-stop L.bits L.rows R.lives (run_in on_states L σ f count)
            (λ C p. run_in on_states L (pushed σ a (value_in on_states L.bits σ C)) g p)
            (λ C U p. two_by (value_in on_states L.bits σ) L.bits L.limit σ.fns (join_op j (size_of (over_in on_states L.bits σ))) C
            U p) value-evals (λ C d. (B C d).evals) (halts_stops r' s));
        end = halts_end e' r' s;
      }

      module _ {b k' : ℕ} {q' : Count} (is' : r' ≡ evaluated b k' q') where
        second-evals : (C : List Bool) → Denotes (2 * L.bits) (rows_of X) a (value_in on_states L.bits σ C)
            → EvalsBy (value_in on_states L.bits σ) L.bits L.rows (rows_of X) (rows_of Y) (a ∷ σ.roots)
            (run_in on_states L (pushed σ a (value_in on_states L.bits σ C)) g q) (ends b q')
        second-evals C d =
            subst (λ (x : Result Value Stopped). EvalsBy (value_in on_states L.bits σ) L.bits L.rows (rows_of X) (rows_of Y) (a ∷ σ.roots)
            (run_in on_states L (pushed σ a (value_in on_states L.bits σ C)) g q) (ended_of x)) is' (B C d).evals

        first-arrow : Arrow (rows_of Y) a
        first-arrow = (keeps_denotes B₀.evals.kept (here refl) value-is).arrow

        second-arrow : Arrow (rows_of Y) b
        second-arrow = (evals-value _ (second-evals value_set value-is)).2.arrow

        pub both-state : Ready L Y last places held σ
        both-state = ready-next value-ready B₀.moved (keeps_within (λ x i. there i) B₀.evals.kept) last z' below

        pub both-asks : (j : Join) {s : Step} → s ≡ join_step j a b → LivePre L Y last held s
        both-asks j e =
            live-pre both-state
            (subst (Fits (2 * L.bits) (rows_of Y)) (sym e) (join-fits (2 * L.bits) (rows_of Y) j a b first-arrow second-arrow))

        pub both_ends : (j : Join) {s : Step} → s ≡ join_step j a b → {Z : View} {o : Result Taken Full} {r'' : Result Value Stopped}
            → LivePost L Y Z last held s q' o
            → r'' ≡ from_taken k' o → Answers on_states L W Z stack last held count σ (join_form j f g) e' r''
        both_ends j {s} e {Z} {o} p is-r =
            let t = took {q = q'} {o = o} both-state.base (both-asks j e).asks p.stepped p.count in
            answers-taken (join_form j f g) k' o (subst (EndsAt e') is' B₀.end) is-r
            (moved_trans A.moved (moved_trans B₀.moved t.moved)) (below ∙ A.kept)
            (evals-same (sym (run_join on_states (model_in L.bits σ) σ.env L.limit L.rounds σ.fns j f g count))
            (took_evals (took_join both-state j e first-arrow second-arrow t)
            (evals-two L.bits L.rows R.lives (join_op j (size_of (over_in on_states L.bits σ))) (join_f j)
            (join-exact (over_in on_states L.bits σ) j) (run_in on_states L σ f count)
            (λ C p. run_in on_states L (pushed σ a (value_in on_states L.bits σ C)) g p) value-evals second-evals)))

      -- the parts joined
      pub both-joined : (j : Join) {Z : View} {r'' : Result Value Stopped} → JoinedPost L Y Z last held j a r' r''
          → Answers on_states L W Z stack last held count σ (join_form j f g) e' r''
      both-joined j {Z} {r''} J = go r' refl J.joins
        where
          halted : Halts r' → Z ≡ Y → r'' ≡ r' → Answers on_states L W Z stack last held count σ (join_form j f g) e' r''
          halted s u v = subst (λ (U : View). Answers on_states L W U stack last held count σ (join_form j f g) e' r'') (sym u)
              (subst (λ (x : Result Value Stopped). Answers on_states L W Y stack last held count σ (join_form j f g) e' x) (sym v)
              (both_stops j s))

          go : (x : Result Value Stopped) → r' ≡ x → JoinedTo L Y Z last held j a x r''
              → Answers on_states L W Z stack last held count σ (join_form j f g) e' r''
          go (Ok v) is' w = both_ends is' j refl w.1 w.2
          go (Err stopped.Full) is' w = halted (_, is') w.0 (w.1 ∙ sym is')
          go (Err stopped.Spent) is' w = halted (_, is') w.0 (w.1 ∙ sym is')
