-- A binder's rounds. Assumes nothing.
use Rattle.std.specs.Prelude.{Result, Err}
use mathlib.Core.Path.{◌≡◌, refl, sym, ◌∙◌, subst}
use mathlib.Core.Logic.{◌≢◌}
use mathlib.Core.Bool.{Bool, true}
use mathlib.Core.List.{List, ◌∷◌}
use Prim.Native.Nat.{ℕ, suc, ◌+◌, ◌^◌, ◌≤◌, ◌<◌}
use native.Mathlib.Omega.{arith}
use lib.ListN.{length, set, take}
use Rattle.mucalculus.specs.Form.{Form, put}
use Rattle.mucalculus.specs.Order.{start}
use Rattle.tokens.specs.declared.Fix.{Fix}
use Rattle.formula.specs.Parse.{binder_form}
use Rattle.accounts.specs.declared.Count.{Count}
use Rattle.accounts.specs.Count.{another}
use Rattle.layout.specs.View.{View}
use Rattle.rows.specs.Used.{rows_of}
use Rattle.rows.specs.Within.{valid_of}
use Rattle.book.specs.Bridge.{fn_of}
use Rattle.book.specs.Over.{states}
use Rattle.book.specs.Run.{Outcome, value, loop, run}
use Rattle.book.specs.Follow.{ends, Evals}
use Rattle.book.proofs.Follow.{evals-same}
use Rattle.book.proofs.Turns.{Good, GoodOn, run-good, Turning, turn-start, turn_out, turn-stop, turn_end, turn_on}
use Rattle.book.specs.Turns.{start_arrow}
use Rattle.modal.specs.declared.Limits.{Limits}
use Rattle.modal.specs.Chain.{Moved}
use Rattle.modal.proofs.Chain.{moved_refl, moved_trans, base-wf}
use Rattle.evaluator.specs.Scene.{evaluated}
use Rattle.evaluator.specs.Scene.{stack_size, Scene, model_in, exist_in, Ready, ended_of, EndsAt, Answers, is_least}
use Rattle.evaluator.proofs.Scene.{opened}
use Rattle.evaluator.specs.declared.Stopped.{Stopped}
use Rattle.evaluator.specs.declared.Value.{Value}
use Rattle.evaluator.specs.declared.Stopped.TheVariants as stopped
use Rattle.evaluator.proofs.State.{still-below, ready-next, ready_open}
use Rattle.evaluator.proofs.Outcomes.{Halts, halts_stops, halts_end, evals-value, run_binder}

-- the body's run with the set A as variable P
abbrev pub body : Limits → Scene → ℕ → Form → List Bool → Count → Outcome
body L σ P f A q = run (states (model_in L.bits σ) (put σ.env P A)) L.limit L.rounds (fn_of L.bits A ∷ σ.fns) f q

-- where a binder's loop stands: the current set's arrow and what is counted
pub record Bound (L : Limits) (W X : View) (stack after : List ℕ)
    (held : ℕ) (count : Count) (σ : Scene) (x : Fix) (P : ℕ) (f : Form) (a : ℕ) (counted : Count) : Type 0 where
  pub moved : Moved L.bits W X
  pub kept : take held after ≡ take held stack
  pub turning : Turning L.bits L.rows L.rounds (exist_in L.bits σ) (rows_of W) (rows_of X) σ.roots (body L σ P f)
      (loop L.rounds (body L σ P f) L.rounds (start (is_least x) (2 ^ L.bits) (exist_in L.bits σ)) count) a counted

body-good : (L : Limits) (σ : Scene) (P : ℕ) (f : Form) → GoodOn L.bits (exist_in L.bits σ) (body L σ P f)
body-good L σ P f A q z i = run-good (model_in L.bits σ) L.limit L.rounds (put σ.env P A) (fn_of L.bits A ∷ σ.fns) f q

module _ {L : Limits} {W : View} {stack places : List ℕ} {held : ℕ} {σ : Scene} (R : Ready L W stack places held σ) where
  pub bind-starts : (x : Fix) (P : ℕ) (f : Form) {count : Count} {a : ℕ} → a ≡ start_arrow (is_least x) (valid_of W)
      → Bound L W W stack stack held count σ x P f a count
  bind-starts x P f {count} {a} e = subst (λ (b : ℕ). Bound L W W stack stack held count σ x P f b count) (sym e) (record {
    moved = moved_refl R.base;
    kept = refl;
    turning =
        turn-start L.bits L.rows L.rounds (exist_in L.bits σ) (body L σ P f) (body-good L σ P f) (is_least x) count (valid_of W)
        R.valid (base-wf R.base) R.lives;
  })

  module _ {X : View} {after : List ℕ}
      {count : Count} {x : Fix} {P : ℕ} {f : Form} {a : ℕ} {counted : Count}
      (T : Bound L W X stack after held count σ x P f a counted) where
    -- a round is wanted when R are counted
    pub bind_out : (e : ℕ) → L.rounds ≤ counted.rounds
        → Answers true L W X stack after held count σ (binder_form x P f) e (Err stopped.Spent)
    bind_out e l = record {
      moved = T.moved;
      kept = T.kept;
      evals = evals-same (sym (run_binder (model_in L.bits σ) L.limit L.rounds σ.env σ.fns x P f count))
          (turn_out L.bits L.rows L.rounds (exist_in L.bits σ) (body L σ P f) (body-good L σ P f) T.turning l);
      end = tt;
    }

    module _ (z : length after ≡ length stack) (room : held < stack_size) where
      -- the scene in which the body is evaluated
      pub bind-ready : Ready L X (set after held a) (set places P held) (held + 1) (opened L.bits σ P a T.turning.A)
      bind-ready =
          ready_open (ready-next R T.moved T.turning.kept after z T.kept) a T.turning.A T.turning.denotes
          T.turning.exists room P

      module _ {Y : View} {last : List ℕ}
          {e : ℕ} {r : Result Value Stopped}
          (B : Answers true L X Y (set after held a) last (held + 1) (another counted) (opened L.bits σ P a T.turning.A) f e r)
          (more : counted.rounds < L.rounds) where
        below : take held last ≡ take held stack
        below = still-below held last after a B.kept ∙ T.kept

        whole : {y : Result Value Stopped} → EndsAt e y
            → Evals L.bits L.rows (rows_of W) (rows_of Y) σ.roots
            (loop L.rounds (body L σ P f) L.rounds (start (is_least x) (2 ^ L.bits) (exist_in L.bits σ)) count) (ended_of y)
            → Answers true L W Y stack last held count σ (binder_form x P f) e y
        whole h v = record {
          moved = moved_trans T.moved B.moved;
          kept = below;
          evals = evals-same (sym (run_binder (model_in L.bits σ) L.limit L.rounds σ.env σ.fns x P f count)) v;
          end = h;
        }

        -- the body stopped
        pub bind_stops : Halts r → Answers true L W Y stack last held count σ (binder_form x P f) e r
        bind_stops s =
            whole (halts_end e r s)
            (turn-stop L.bits L.rows L.rounds (exist_in L.bits σ) (body L σ P f) (body-good L σ P f) T.turning more
            (ended_of r) B.evals (halts_stops r s))

        module _ {b k : ℕ} {q : Count} (is : r ≡ evaluated b k q) where
          value-round : Evals L.bits L.rows (rows_of X) (rows_of Y) (a ∷ σ.roots) (body L σ P f T.turning.A (another counted))
              (ends b q)
          value-round =
              subst (λ (y : Result Value Stopped). Evals L.bits L.rows (rows_of X) (rows_of Y) (a ∷ σ.roots)
              (body L σ P f T.turning.A (another counted)) (ended_of y)) is B.evals

          -- the same set: the binder ends with it
          pub bind-ends : b ≡ a → Answers true L W Y stack last held count σ (binder_form x P f) e (evaluated b k q)
          bind-ends same =
              whole {y = evaluated b k q} (subst (EndsAt e) is B.end)
              (turn_end L.bits L.rows L.rounds (exist_in L.bits σ) (body L σ P f) (body-good L σ P f) T.turning more
              value-round same)

          -- otherwise it becomes the current set
          pub bind-turns : b ≢ a → Bound L W Y stack last held count σ x P f b q
          bind-turns differs = record {
            moved = moved_trans T.moved B.moved;
            kept = below;
            turning =
                turn_on L.bits L.rows L.rounds (exist_in L.bits σ) (body L σ P f) (body-good L σ P f) T.turning more
                value-round differs;
          }

          -- a round more is counted
          pub bind-less : counted.rounds < q.rounds
          bind-less =
              let w = evals-value (body L σ P f T.turning.A (another counted)) value-round in
              let g : Good L.bits (exist_in L.bits σ) (suc counted.rounds)
              (value w.0 q) = subst (Good L.bits (exist_in L.bits σ) (suc counted.rounds)) w.1
              (body-good L σ P f T.turning.A (another counted) T.turning.sized T.turning.exists) in
              let l = g.1 in
              omega arith
