-- `within`: AND with V, SHIFT of V and AND with that, one law for each call and return. Assumes nothing.
use Rattle.std.specs.Prelude.{Result}
use mathlib.Core.Path.{◌≡◌, refl, sym, ap, ap₂, ◌∙◌, subst}
use mathlib.Core.Bool.{Bool, true, false, ◌&&◌}
use mathlib.Core.List.Memᴰ.{head as here}
use mathlib.Core.List.Memᴰ.{tail as there}
use mathlib.Core.List.{List, [], ◌∷◌, Memᴰ as Mem}
use Prim.Native.Nat.{ℕ, ◌+◌, ◌*◌}
use native.Mathlib.Omega.{arith}
use lib.Dec.{leb}
use lib.ListN.{set, length-set}
use lib.Seq.{take-set-le}
use Rattle.tokens.specs.declared.Join.TheVariants.{And}
use Rattle.accounts.specs.declared.Count.{Count}
use Rattle.accounts.specs.Count.{needing}
use Rattle.layout.specs.Places.{VALID}
use Rattle.layout.specs.View.{View}
use Rattle.diagram.specs.Level.{Fn}
use Rattle.diagram.specs.Rows.{Arrow, den}
use Rattle.diagram.specs.Even.{ReadsOn, even}
use Rattle.diagram.specs.Count.{Within}
use Rattle.diagram.specs.Need.{step_need}
use Rattle.diagram.specs.Post.{Denotes}
use Rattle.diagram.proofs.Keep.{keeps_within, keeps_denotes}
use Rattle.diagram.specs.Steps.{and_f, shift_f}
use Rattle.rows.specs.Used.{rows_of}
use Rattle.rows.specs.Within.{valid_of}
use Rattle.steps.specs.declared.Step.TheVariants as step
use Rattle.table.specs.declared.Full.{Full}
use Rattle.counting.specs.Taken.{taken, ran_out}
use Rattle.counting.specs.declared.Taken.{Taken}
use Rattle.book.specs.Bridge.{fn_of}
use Rattle.book.proofs.Bridge.{fn_of-clip, fn_of-even}
use Rattle.book.specs.Run.{needing_all}
use Rattle.book.specs.Held.{Held}
use Rattle.book.proofs.Held.{denoted, held-arrow, held-push, held-operand}
use Rattle.modal.specs.declared.Limits.{Limits}
use Rattle.modal.proofs.Chain.{alike_sym, alike_once, denotes-own, Took, took, ran_step, ran_stop, ran_value, ran_then}
use Rattle.modal.specs.Chain.{Ran}
use Rattle.evaluator.specs.Scene.{Scene, Ready, LivePre, LivePost}
use Rattle.evaluator.proofs.Scene.{pushed}
use Rattle.evaluator.specs.Whole.{no_places, within_f, WithinPost}
use Rattle.evaluator.proofs.State.{valid-read, valid-mem, valid-live, live-pre, ready-next, ready-push}
use Rattle.evaluator.proofs.Steps.{took_alike, took_roots, took_within, one-arrow, took_join}

-- ---- chains of steps

-- one step for G, whose operands are among its roots
step_ran : {n N limit : ℕ} {W X : View} {roots ys : List ℕ} {fs : List Fn} {q : Count} {o : Result Taken Full} {F : Fn} (G : Fn)
    → Held (2 * n) (rows_of W) ys fs → Within roots ys → F ≡ G → Took n N limit W X ys q o F
    → Ran n N W X roots (leb (step_need (2 * n) fs G) limit) G (needing q (step_need (2 * n) fs G)) o
step_ran {n} {N} {limit} {W} {X} {ys = ys} {q = q} {o} G h w e t = ran_step h w (subst (λ (F : Fn). Took n N limit W X ys q o F) e t)

-- fewer roots
ran_within : {n N : ℕ} {W X : View} {roots ys : List ℕ} {b : Bool} {F : Fn} {c : Count} {o : Result Taken Full} → Within roots ys
    → Ran n N W X ys b F c o → Ran n N W X roots b F c o
ran_within w r =
    record { moved = r.moved; evals = record { wf = r.evals.wf; kept = keeps_within w r.evals.kept; result = r.evals.result } }

-- three steps fit where each does
fit-last : {n N : ℕ} {W X : View} {roots : List ℕ} {F : Fn} {d : Count} {o : Result Taken Full} (a b c : Bool)
    → Ran n N W X roots (a && (b && c)) F d o
    → Ran n N W X roots (a && (b && (c && true))) F d o
fit-last {n} {N} {W} {X} {roots} {F} {d} {o} a b c r = subst (λ (x : Bool). Ran n N W X roots (a && (b && x)) F d o) (go c) r
  where
    go : (c : Bool) → c ≡ (c && true)
    go true = refl
    go false = refl

-- V as a function
valid_fn : {L : Limits} {W : View} {stack : List ℕ} {held : ℕ} {σ : Scene} → Ready L W stack no_places held σ
    → den (2 * L.bits) (rows_of W) (valid_of W) ≡ fn_of L.bits σ.valid
valid_fn {L} {σ = σ} R = denoted R.valid ∙ fn_of-clip L.bits σ.valid

valid-held : {L : Limits} {W : View} {stack : List ℕ} {held : ℕ} {σ : Scene} → Ready L W stack no_places held σ
    → Mem (fn_of L.bits σ.valid) σ.fns
valid-held {L} {σ = σ} R = subst (λ (F : Fn). Mem F σ.fns) (fn_of-clip L.bits σ.valid) (valid-live R)

-- V reads current bits alone
valid-even : {L : Limits} {W : View} {stack : List ℕ} {held : ℕ} {σ : Scene} → Ready L W stack no_places held σ
    → ReadsOn even (den (2 * L.bits) (rows_of W) (valid_of W))
valid-even {L} {σ = σ} R = subst (ReadsOn even) (sym (valid_fn R)) (fn_of-even L.bits σ.valid)

module _ {L : Limits} {W : View} {stack : List ℕ} {a : ℕ} (v : ℕ) (read : v + 1 ≡ W.header VALID) (u : Arrow (rows_of W) a) where
  pub first-asks : {σ : Scene} → Ready L W stack no_places 0 σ → LivePre L W stack 0 (step.And a v)
  first-asks R = live-pre R (u, subst (Arrow (rows_of W)) (sym (valid-read W v read)) R.valid.arrow)

  module _ {X : View} {q : Count} {o : Result Taken Full} (s : LivePost L W X stack 0 (step.And a v) q o) where
    module _ {σ : Scene} (R : Ready L W stack no_places 0 σ) where
      -- the operand, V and their AND
      abbrev F : Fn
      F = den (2 * L.bits) (rows_of W) a

      abbrev E : Fn
      E = fn_of L.bits σ.valid

      abbrev G : Fn
      G = and_f (den (2 * L.bits) (rows_of W) a) (fn_of L.bits σ.valid)

      one_took : Took L.bits L.rows L.limit W X (a ∷ σ.roots) q o
          (and_f (den (2 * L.bits) (rows_of W) a) (den (2 * L.bits) (rows_of W) (valid_of W)))
      one_took =
          took_within R u (subst (Arrow (rows_of W)) (sym (valid-read W v read)) R.valid.arrow) (valid-read W v read)
          (took {q = q} {o = o} R.base (first-asks R).asks s.stepped s.count)

      one_ran : Ran L.bits L.rows W X σ.roots (leb (step_need (2 * L.bits) (E ∷ F ∷ σ.fns) G) L.limit) G
          (needing q (step_need (2 * L.bits) (E ∷ F ∷ σ.fns) G)) o
      one_ran =
          step_ran G (held-operand (held-push R.lives (denotes-own u)) (there (valid-held R))) (λ x i. there i)
          (ap (and_f F) (valid_fn R)) one_took

    pub within-full : o ≡ ran_out → WithinPost L W X stack a q ran_out
    within-full e = record { answers = λ σ R. ran_stop _ (within_f (E R) (F R)) _ e (one_ran R) }

    module _ {b : ℕ} {q1 : Count} (e : o ≡ taken b q1) where
      module _ {σ : Scene} (R : Ready L W stack no_places 0 σ) where
        b_is : Denotes (2 * L.bits) (rows_of X) b (G R)
        b_is = ran_value e (one_ran R)

        one-ready : Ready L X stack no_places 0 σ
        one-ready = ready-next R (one_ran R).moved (one_ran R).evals.kept stack refl refl

        -- with the AND on the stack
        two_ready : Ready L X (set stack 0 b) no_places 1 (pushed σ b (G R))
        two_ready = ready-push one-ready b (G R) b_is (omega arith)

        same-valid : v ≡ valid_of X
        same-valid =
            let same : X.header VALID
            ≡ W.header VALID = (one_ran R).moved.frame.header VALID (omega arith) (omega arith) (omega arith) (omega arith) in
            let z = valid-read W v read in
            omega arith

      pub shift-asks : {σ : Scene} → Ready L W stack no_places 0 σ → LivePre L X (set stack 0 b) 1 (step.Shift v)
      shift-asks R =
          live-pre (two_ready R)
          (subst (λ (x : ℕ). Arrow (rows_of X) x × ReadsOn even (den (2 * L.bits) (rows_of X) x)) (sym (same-valid R))
          ((two_ready R).valid.arrow, valid-even (two_ready R)))

      module _ {Y : View} {o' : Result Taken Full} (s' : LivePost L X Y (set stack 0 b) 1 (step.Shift v) q1 o') where
        module _ {σ : Scene} (R : Ready L W stack no_places 0 σ) where
          two_took : Took L.bits L.rows L.limit X Y (b ∷ σ.roots) q1 o' (shift_f (E R))
          two_took =
              let t = took {q = q1} {o = o'} (two_ready R).base (shift-asks R).asks s'.stepped s'.count in
              let w = subst (λ (x : ℕ). Arrow (rows_of X) x) (sym (same-valid R)) (two_ready R).valid.arrow in
              let t1 = took_roots (v ∷ []) (two_ready R) (one-arrow (rows_of X) v w) t in
              let t2 =
              subst (λ (x : ℕ). Took L.bits L.rows L.limit X Y (x ∷ b ∷ σ.roots) q1 o'
              (shift_f (den (2 * L.bits) (rows_of X) x))) (same-valid R) t1 in
              let t3 = took_alike (λ x h. held-arrow (two_ready R).lives x h) (alike_sym (alike_once (valid-mem (two_ready R)))) t2 in
              subst (λ (H : Fn). Took L.bits L.rows L.limit X Y (b ∷ σ.roots) q1 o' (shift_f H)) (valid_fn (two_ready R)) t3

          two_ran : Ran L.bits L.rows X Y (b ∷ σ.roots) (leb (step_need (2 * L.bits) (E R ∷ G R ∷ σ.fns) (shift_f (E R))) L.limit)
              (shift_f (E R)) (needing q1 (step_need (2 * L.bits) (E R ∷ G R ∷ σ.fns) (shift_f (E R)))) o'
          two_ran = ran_step (held-operand (two_ready R).lives (there (valid-held R))) (λ x i. i) two_took

        pub shift-full : o' ≡ ran_out → WithinPost L W Y stack a q ran_out
        shift-full f = record {
          answers = λ σ R.
              ran_then e (one_ran R)
              (λ c. needing_all c
              (step_need (2 * L.bits) (E R ∷ G R ∷ σ.fns) (shift_f (E R))
              ∷ step_need (2 * L.bits) (shift_f (E R) ∷ G R ∷ σ.fns) (and_f (G R) (shift_f (E R))) ∷ []))
              (ran_stop _ (within_f (E R) (F R)) _ f (ran_within (λ x i. there i) (two_ran R)));
        }

        module _ {c : ℕ} {q2 : Count} (f : o' ≡ taken c q2) where
          module _ {σ : Scene} (R : Ready L W stack no_places 0 σ) where
            c_is : Denotes (2 * L.bits) (rows_of Y) c (shift_f (E R))
            c_is = ran_value f (two_ran R)

            b_still : Denotes (2 * L.bits) (rows_of Y) b (G R)
            b_still = keeps_denotes (two_ran R).evals.kept (here refl) (b_is R)

            three_ready : Ready L Y (set stack 0 b) no_places 0 σ
            three_ready =
                ready-next (one-ready R) (two_ran R).moved (keeps_within (λ x i. there i) (two_ran R).evals.kept) (set stack 0 b)
                (length-set stack 0 b) (take-set-le 0 stack 0 b (omega arith))

          pub last-asks : {σ : Scene} → Ready L W stack no_places 0 σ → LivePre L Y (set stack 0 b) 0 (step.And b c)
          last-asks R = live-pre (three_ready R) ((b_still R).arrow, (c_is R).arrow)

          pub within-ends : {Z : View} {y : Result Taken Full} → LivePost L Y Z (set stack 0 b) 0 (step.And b c) q2 y
              → WithinPost L W Z stack a q y
          within-ends {Z} {y} w = record {
            answers = λ σ R.
                let t = took {q = q2} {o = y} (three_ready R).base (last-asks R).asks w.stepped w.count in
                let t1 = took_join (three_ready R) And refl (b_still R).arrow (c_is R).arrow t in
                let k3 = step_need (2 * L.bits) (shift_f (E R) ∷ G R ∷ σ.fns) (and_f (G R) (shift_f (E R))) in
                let k2 = step_need (2 * L.bits) (E R ∷ G R ∷ σ.fns) (shift_f (E R)) in
                let l = step_ran (and_f (G R) (shift_f (E R))) (held-push (held-push (three_ready R).lives (b_still R)) (c_is R))
                (λ x i. there (there i)) (ap₂ and_f (denoted (b_still R)) (denoted (c_is R))) t1 in
                fit-last (leb (step_need (2 * L.bits) (E R ∷ F R ∷ σ.fns) (G R)) L.limit) (leb k2 L.limit) (leb k3 L.limit)
                (ran_then e (one_ran R) (λ d. needing (needing d k2) k3)
                (ran_then f (ran_within (λ x i. there i) (two_ran R)) (λ d. needing d k3) l));
          }
