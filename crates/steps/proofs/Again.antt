-- Laws of what specs/Again.antt defines. Assumes nothing.
use mathlib.Core.Path.{◌≡◌, refl, sym, ap, ◌∙◌, subst}
use mathlib.Core.List.Memᴰ.{cases_cons as mem-cases}
use mathlib.Core.List.Memᴰ.{tail as there}
use mathlib.Core.List.{List, ◌++◌, Memᴰ as Mem}
use mathlib.Core.List.Memᴰ.{append_cases}
use mathlib.Core.Logic.{⊎_elim}
use Prim.Native.Nat.{ℕ, ◌*◌, ◌≤◌}
use native.Mathlib.Omega.{arith}
use Rattle.diagram.specs.Rows.{Arrow}
use Rattle.diagram.proofs.Grow.{arrow_extends}
use Rattle.diagram.specs.Keep.{Keeps}
use Rattle.diagram.proofs.Keep.{keeps_arrow, keeps_within, keeps_trans, extends_keeps}
use Rattle.diagram.specs.Collect.{Collects}
use Rattle.diagram.proofs.Collect.{collects-same, collects_keeps}
use Rattle.diagram.specs.Step.{Settled}
use Rattle.diagram.proofs.Step.{step-first, step_again}
use Rattle.layout.specs.Places.{BITS, USED}
use Rattle.layout.specs.View.{View}
use Rattle.rows.specs.Used.{rows_of}
use Rattle.rows.specs.Sound.{Sound}
use Rattle.rows.proofs.Alike.{alike_sound}
use Rattle.table.specs.Make.{result}
use Rattle.table.proofs.Keep.{sound_extends}
use Rattle.std.specs.Prelude.{Result, Ok, Err}
use Rattle.table.specs.declared.Full.{Full}
use Rattle.table.specs.Full.{rows_out}
use Rattle.memory.proofs.Frame.{memo_alike}
use Rattle.memory.specs.Forget.{Forgot}
use Rattle.memory.proofs.ForgetLaws.{forgot_remembers}
use Rattle.operations.proofs.Work.{op_trans, ready-wf, ready-frame, ready-next}
use Rattle.operations.specs.Work.{Ready, Worked}
use Rattle.operations.proofs.Rows.{even-levels}
use Rattle.steps.specs.Steps.{step_f, operands_of, live_at, StepPre, Stepped}
use Rattle.steps.proofs.Steps.{operand-arrow, fits_keeps, step_f_keeps, step_f_reads, live-arrows, operand-live, root_live, live_same}
use Rattle.steps.specs.Clean.{CleanPre, Cleaned}
use Rattle.steps.specs.Settle.{AnswerArrow, SettlePre, SettlePost}
use Rattle.steps.proofs.SettleLaws.{settle-few}
use Rattle.steps.specs.declared.Step.{Step}
use Rattle.steps.specs.Again.{Retried}

-- a sound table stays sound in a try, and ready for the same step
module _ {m N limit : ℕ} {W : View} {roots : List ℕ} {s : Step} (p : StepPre m N limit W roots s) where
  operands_are : (a : ℕ) → Mem a (operands_of s) → Arrow (rows_of W) a
  operands_are = operand-arrow m (rows_of W) s p.fits

  pub live_are : (a : ℕ) → Mem a (live_at W roots s) → Arrow (rows_of W) a
  live_are = live-arrows (roots ++ operands_of s) p.sound (λ a h. ⊎_elim (p.arrows a) (operands_are a) (append_cases roots h))

  pub clean-pre : CleanPre W roots s 0
  clean-pre = record { sound = p.sound; arrows = p.arrows; operands = operands_are; kept-arrow = tt }

  module _ {X : View} {o : Result ℕ Full} (w : Worked m N limit W X o (step_f m (rows_of W) s)) where
    tried-sound : Sound X
    tried-sound =
        sound_extends p.sound w.good (w.frame.header BITS (omega arith) (omega arith) (omega arith) (omega arith))
        (λ h a l. w.frame.header h (omega arith) (omega arith) (omega arith) (omega arith)) w.post.kept

    tried-arrows : (a : ℕ) → Mem a roots → Arrow (rows_of X) a
    tried-arrows a h = arrow_extends w.post.kept a (p.arrows a h)

    pub again_pre : StepPre m N limit X roots s
    again_pre = record {
      sound = tried-sound;
      ready = ready-next p.ready w;
      arrows = tried-arrows;
      fits = fits_keeps m s (extends_keeps (ready-wf p.ready) operands_are w.post.kept) p.fits;
    }

    pub settle-pre : SettlePre X roots s o
    settle-pre = record {
      sound = tried-sound;
      arrows = tried-arrows;
      operands = λ a h. arrow_extends w.post.kept a (operands_are a h);
      answer-arrow = is o w;
    }
      where
        is : (t : Result ℕ Full) → Worked m N limit W X t (step_f m (rows_of W) s) → AnswerArrow (rows_of X) t
        is (Ok a) v = v.post.result.arrow
        is (Err _) v = tt

    -- it is answered
    pub first-pre : {a : ℕ} → o ≡ Ok a → SettlePre X roots s (Ok a)
    first-pre e = rw e at settle-pre

    -- what a settled try says of the table's N rows and of W's live roots
    pub settled_at : {Y : View} {t r : Result ℕ Full} → SettlePost limit X Y roots s t r
        → Settled N limit (rows_of X) (rows_of Y) (live_at W roots s) (result t) (result r)
    settled_at {Y} {t} {r} z =
        subst (λ (xs : List ℕ). Settled N limit (rows_of X) (rows_of Y) xs (result t) (result r))
        (live_same w.frame (roots ++ operands_of s))
        (subst (λ (n : ℕ). Settled n limit (rows_of X) (rows_of Y) (live_at X roots s) (result t) (result r))
        (w.frame.rows ∙ sym p.ready.rows_is) z.settled)

  -- the first try is answered
  pub stepped-first : {X Y : View} {o r : Result ℕ Full} {a : ℕ} → o ≡ Ok a → Worked m N limit W X o (step_f m (rows_of W) s)
      → SettlePost limit X Y roots s (Ok a) r → Stepped m N limit W Y roots s r
  stepped-first {X} {Y} {o} {r} {a} e w' z =
      let w : Worked m N limit W X (Ok a) (step_f m (rows_of W) s) = rw e at w' in
      record {
        sound = z.sound;
        memory = z.memory m w.memory;
        frame = op_trans w.frame z.frame;
        post = step-first (live_at W roots s) (ready-wf p.ready) live_are w.post (settled_at w z);
      }

  -- and few rows are used
  pub stepped-few : {X : View} {o : Result ℕ Full} {a c : ℕ} → o ≡ Ok a → Worked m N limit W X o (step_f m (rows_of W) s)
      → c ≡ X.header USED → c ≤ limit → Stepped m N limit W X roots s (Ok a)
  stepped-few e w q l = stepped-first e w (settle-few limit (first-pre w e) refl q l)

  -- it ran out, and the second try decides
  pub stepped_again : {X Y : View} {o r : Result ℕ Full} → o ≡ Err rows_out → Worked m N limit W X o (step_f m (rows_of W) s)
      → Retried m N limit X Y roots s r → Stepped m N limit W Y roots s r
  stepped_again {X} {Y} {o} {r} e w' z =
      let w : Worked m N limit W X (Err rows_out) (step_f m (rows_of W) s) = rw e at w' in
      let l = live_same w.frame (roots ++ operands_of s) in
      let c : Collects (rows_of X) z.clean (live_at W roots s) = subst (λ (xs : List ℕ). Collects (rows_of X) z.clean xs) l
      z.collects in
      let d : Settled N limit z.tried (rows_of Y) (live_at W roots s) z.part
      (result r) = subst (λ (xs : List ℕ). Settled N limit z.tried (rows_of Y) xs z.part (result r)) l z.settled in
      let k : Keeps (rows_of W) z.clean (live_at W roots s) = keeps_trans (extends_keeps (ready-wf p.ready) live_are w.post.kept)
      (collects_keeps c) in
      record {
        sound = z.sound;
        memory = z.memory;
        frame = op_trans w.frame z.frame;
        post = step_again (live_at W roots s) (ready-wf p.ready) live_are w.post c
            (step_f_keeps m s (keeps_within (operand-live W roots s) k))
            (step_f_reads s (ready-wf p.ready) (even-levels p.ready) p.fits) z.post d;
      }

  -- after collecting: the second try
  module _ {C : View} (c : Cleaned W C roots s 0) where
    cleans : Collects (rows_of W) (rows_of C) (live_at W roots s)
    cleans = collects-same (λ a i l h. ⊎_elim (λ e. absurd (omega (arith, l, e))) (λ t. t) (mem-cases h)) (λ a i l h. there h) c.collects

    keeps : Keeps (rows_of W) (rows_of C) (live_at W roots s)
    keeps = collects_keeps cleans

    pub cleaned_pre : StepPre m N limit C roots s
    cleaned_pre = record {
      sound = c.sound;
      ready = ready-frame p.ready c.frame c.sound.good (c.memory m);
      arrows = λ a h. keeps_arrow keeps a (root_live W roots s a h);
      fits = fits_keeps m s (keeps_within (operand-live W roots s) keeps) p.fits;
    }

pub retried : {m N limit : ℕ} {W C X Y : View} {roots : List ℕ} {s : Step} {o r : Result ℕ Full} (p : StepPre m N limit W roots s)
    (c : Cleaned W C roots s 0)
    (w : Worked m N limit C X o (step_f m (rows_of C) s)) → SettlePost limit X Y roots s o r → Retried m N limit W Y roots s r
retried {m} {N} {limit} {W} {C} {X} {Y} {roots} {s} {o} {r} p c w z = record {
  sound = z.sound;
  memory = z.memory m w.memory;
  frame = op_trans c.frame (op_trans w.frame z.frame);
  clean = rows_of C;
  tried = rows_of X;
  part = result o;
  collects = cleans p c;
  post = w.post;
  settled =
      subst (λ (xs : List ℕ). Settled N limit (rows_of X) (rows_of Y) xs (result o) (result r)) (live_same c.frame (roots ++ operands_of s))
      (settled_at (cleaned_pre p c) w z);
}

-- where an evaluation starts, all is forgotten: "Remembered results of earlier steps count for nothing at the start of a call."
pub start-ready : {m N limit : ℕ} {W X : View} → Sound W → Forgot W X → m ≡ 2 * W.header BITS → N ≡ W.rows → limit ≤ N
    → Sound X × Ready m N limit X
start-ready {m} z f e n l =
    let y = alike_sound (memo_alike f.frame) z in (
      y,
      record {
        good = y.good;
        memory = forgot_remembers m f;
        levels-is = e ∙ ap (λ (b : ℕ). 2 * b) (sym (f.frame.header BITS (omega arith) (omega arith)));
        rows_is = n ∙ sym f.frame.rows;
        limit-le = l;
      },
    )
