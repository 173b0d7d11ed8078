-- The rounds from the words of a table: the scene that they hold after forgetting, and the book's verdict. Assumes nothing.
use mathlib.Core.Path.{◌≡◌, sym, ◌∙◌, subst}
use mathlib.Core.Bool.{Bool, true}
use mathlib.Core.List.{List}
use Prim.Native.Nat.{ℕ, ◌+◌, ◌^◌}
use native.Mathlib.Omega.{arith}
use lib.Dec.{T}
use lib.ListN.{replicate}
use Rattle.std.specs.Prelude.{Result}
use Rattle.accounts.specs.Count.{nothing}
use Rattle.mucalculus.specs.Form.{no_env, steady, inside}
use Rattle.mucalculus.specs.Means.{means}
use Rattle.tokens.specs.declared.Grammar.TheVariants.{Runs}
use Rattle.formula.specs.Parse.{got, parse}
use Rattle.layout.specs.Places.{FIRST_RELATION}
use Rattle.layout.specs.View.{View}
use Rattle.diagram.specs.Level.{Fn}
use Rattle.diagram.specs.Rows.{Rows}
use Rattle.diagram.specs.Keep.{Keeps}
use Rattle.diagram.proofs.Keep.{keeps_within}
use Rattle.rows.specs.Used.{rows_of}
use Rattle.rows.specs.Sound.{Sound}
use Rattle.memory.proofs.Frame.{rows_same}
use Rattle.memory.specs.Forget.{Forgot}
use Rattle.operations.specs.Work.{OpFrame}
use Rattle.operations.proofs.Work.{op_memo, op_trans}
use Rattle.book.specs.Over.{states}
use Rattle.book.specs.Ticks.{ticks, Verdict, counted, full, spent, verdict}
use Rattle.book.specs.Book.{live_of}
use Rattle.book.specs.Table.{roots_of}
use Rattle.book.specs.Run.{Outcome}
use Rattle.book.specs.Follow.{MatchesBy}
use Rattle.book.proofs.Verdicts.{settle, run-ticks}
use Rattle.contract.specs.Seen.{seen_in}
use Rattle.contract.proofs.Roots.{filled_root}
use Rattle.modal.specs.declared.Limits.{Limits}
use Rattle.evaluator.specs.Scene.{stack_size, model_in, value_in, ended_of}
use Rattle.evaluator.specs.Whole.{book_in}
use Rattle.evaluator.specs.declared.Stopped.{Stopped}
use Rattle.evaluator.specs.declared.Value.{Value}
use Rattle.evaluator.proofs.Starts.{scene_in, start-base, start-scene}
use Rattle.games.specs.Call.{body_form, game_form}
use Rattle.games.proofs.Formula.{body-read, body-bound, game_steady}
use Rattle.games.proofs.Call.{filled-all}
use Rattle.game_steps.specs.Iterate.{HoldsGame, IteratePre, IteratePost, AnswerNoted, AnswerOf}
use Rattle.game_steps.specs.Iterate.{is_made as value_made, is-full as value-full, is_spent as value-spent}
use Rattle.game_steps.specs.Whole.{Given, RoundsPre, RoundsPost, RoundsSay, is_made, is-full, is_spent}
use Rattle.game_steps.specs.declared.Asked.{Asked}

-- the run's outcome is the verdict's
says-verdict : {P : ℕ → Type 0} (lv : List Bool → Fn) (n : ℕ) (rows : Rows) (A : List Bool) (v : Verdict)
    {y : Result Value Stopped} {r : Result ℕ Stopped}
    → AnswerOf P y r → MatchesBy lv n rows (settle A v) (ended_of y) → RoundsSay P v r
says-verdict lv n rows A (counted q) (value_made h) m = is_made h
says-verdict lv n rows A full (value_made h) m = absurd m
says-verdict lv n rows A spent (value_made h) m = absurd m
says-verdict lv n rows A (counted q) value-full m = absurd m
says-verdict lv n rows A full value-full m = is-full
says-verdict lv n rows A spent value-full m = absurd m
says-verdict lv n rows A (counted q) value-spent m = absurd m
says-verdict lv n rows A full value-spent m = absurd m
says-verdict lv n rows A spent value-spent m = is_spent

module _ {L : Limits} {W : View} {bs : List ℕ} {a : Asked} (p : RoundsPre L W bs a) {X : View} (f : Forgot W X) where
  pub rounds-begin : Sound X
  rounds-begin = (start-base L p.sound p.bits p.rows p.limit f).sound

  frame : OpFrame W X
  frame = op_memo f.frame

  plays : (goal guest machine : ℕ) → Given L W bs a goal guest machine
      → HoldsGame L X (replicate stack_size 0) bs a (scene_in W) goal guest machine
  plays goal guest machine g = record {
    ready = start-scene L p.sound p.bits p.rows p.limit f;
    part = record {
      stands = record {
        reads = subst (λ (x : List ℕ). parse L.bits Runs 63 x 4 ≡ got (body_form goal guest machine) 12) (sym g.bytes)
            (body-read goal guest machine L.bits g.goal_in g.guest_in g.machine_in);
      };
      named = record { is_bound = body-bound goal guest machine; is_filled = filled-all (book_in W) goal guest machine ∙ g.filled };
    };
    machine_in = g.machine_in;
    machine-is =
        frame.header (FIRST_RELATION + machine) (omega arith) (omega arith) (omega arith) (omega arith) ∙ g.machine-is;
    state = g.state;
    press = g.press;
    open_is = g.open_is;
  }

  pub rounds-ask : IteratePre L X (replicate stack_size 0) bs a
  rounds-ask = record {
    scene = scene_in W;
    goal = p.goal;
    guest = p.guest;
    machine = p.machine;
    plays = plays p.goal p.guest p.machine p.given;
  }

  pub rounds-done : {Y : View} {r : Result ℕ Stopped} → IteratePost L X Y (replicate stack_size 0) bs a r → RoundsPost L W Y bs a r
  rounds-done {Y} {r} E goal guest machine g =
      let w = E (scene_in W) goal guest machine (plays goal guest machine g) in
      let form = game_form goal guest machine in
      let steadily : T (steady form) = subst T (sym (game_steady goal guest machine)) tt in
      let same = run-ticks L.limit L.rounds (model_in L.bits (scene_in W)) no_env (live_of (book_in W)) form nothing steadily in
      let v : RoundsSay (AnswerNoted (2 ^ L.bits) (inside ((book_in W).rel guest)) (inside ((book_in W).rel machine))
      (inside ((book_in W).reg goal))
      a.state a.press)
      (verdict L.limit L.rounds nothing (ticks (states (model_in L.bits (scene_in W)) no_env) (live_of
      (book_in W)) form)) r = says-verdict
      (value_in true L.bits (scene_in W)) L.bits (rows_of Y) (means (model_in L.bits (scene_in W)) no_env form)
      (verdict L.limit L.rounds nothing (ticks (states (model_in L.bits (scene_in W)) no_env) (live_of (book_in W)) form)) w.told
      (subst (λ (o : Outcome). MatchesBy (value_in true L.bits (scene_in W)) L.bits (rows_of Y) o (ended_of w.value)) same
      w.answers.evals.result) in
      record {
        sound = w.answers.moved.sound;
        frame = op_trans frame w.answers.moved.frame;
        kept = keeps_within (filled_root W)
            (subst (λ (t : Rows). Keeps t (rows_of Y) (roots_of (seen_in W))) (rows_same f.frame) w.answers.evals.kept);
        says = subst (λ (n : ℕ). RoundsSay
            (AnswerNoted (2 ^ n) (inside ((book_in W).rel guest)) (inside ((book_in W).rel machine)) (inside ((book_in W).reg goal)) a.state
            a.press)
            (verdict L.limit L.rounds nothing (ticks (states (model_in n (scene_in W)) no_env) (live_of (book_in W)) form)) r)
            p.bits v;
      }
