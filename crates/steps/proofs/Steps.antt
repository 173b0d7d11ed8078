-- Laws of what specs/Steps.antt defines. Assumes nothing.
use mathlib.Core.Path.{◌≡◌, refl, sym, ap, ap₂, ◌∙◌, subst}
use mathlib.Core.Bool.{true, false, not, ◌&&◌, ◌||◌}
use mathlib.Core.Logic.{⊎_elim}
use mathlib.Core.List.Memᴰ.{head as here}
use mathlib.Core.List.Memᴰ.{tail as there}
use mathlib.Core.List.{List, [], ◌∷◌, ◌++◌, Memᴰ as Mem}
use mathlib.Core.List.Memᴰ.{append_cases}
use mathlib.Core.List.Memᴰ.{cases_cons as mem-cases}
use mathlib.Core.List.Memᴰ.{not-nil as mem-nil}
use mathlib.Core.List.Memᴰ.{append_left}
use mathlib.Core.List.Memᴰ.{append_right}
use Prim.Native.Nat.{ℕ, zero, suc, ◌+◌, ◌≤◌, ◌<◌}
use native.Mathlib.Omega.{arith}
use Rattle.diagram.specs.Level.{Val, upd}
use Rattle.diagram.proofs.Level.{Reads}
use Rattle.diagram.specs.Rows.{Rows, flip, Arrow, den, WellFormed}
use Rattle.diagram.proofs.Reach.{den_reads_all}
use Rattle.diagram.specs.Even.{even}
use Rattle.diagram.specs.Keep.{Keeps}
use Rattle.diagram.proofs.Keep.{keeps_arrow, keeps_den}
use Rattle.diagram.specs.Steps.{not_f}
use Rattle.diagram.proofs.Steps.{not_reads, two_reads, exists_reads}
use Rattle.diagram.proofs.Recur.{shift_reads_all}
use Rattle.diagram.proofs.Post.{denotes-flip}
use Rattle.layout.specs.Places.{VALID, ROOTS}
use Rattle.layout.specs.View.{View}
use Rattle.rows.specs.Used.{rows_of}
use Rattle.rows.specs.Sound.{Sound}
use Rattle.rows.specs.Filled.{filled, held, push}
use Rattle.rows.proofs.Filled.{filled-arrow}
use Rattle.std.specs.Prelude.{Ok}
use Rattle.collect.specs.Lent.{live}
use Rattle.operations.specs.Work.{OpFrame, Ready, Worked}
use Rattle.operations.proofs.Work.{worked_there}
use Rattle.cubes.proofs.CubeLaws.{cube_f_reads}
use Rattle.steps.specs.declared.Step.{Step}
use Rattle.steps.specs.declared.Step.TheVariants as step
use Rattle.steps.specs.Steps.{step_f, operands_of, Fits, live_at}

-- "NOT needs no new row": it is the arrow with the other mark
pub not_worked : {m N limit : ℕ} {W : View} {r : ℕ} (a : ℕ) → Ready m N limit W → Arrow (rows_of W) a → r ≡ flip a
    → Worked m N limit W W (Ok r) (not_f (den m (rows_of W) a))
not_worked a p u e = rw e (worked_there p (denotes-flip (record { arrow = u; same = λ v. refl })))

-- operands are arrows
pub operand-arrow : (m : ℕ) (rows : Rows) (s : Step) → Fits m rows s → (a : ℕ) → Mem a (operands_of s) → Arrow rows a
operand-arrow m rows s f a h = go s f h
  where
    one : {b : ℕ} → Arrow rows b → Mem a (b ∷ []) → Arrow rows a
    one {b} u h = ⊎_elim (λ e. subst (Arrow rows) (sym e) u) (λ n. absurd (mem-nil n)) (mem-cases h)

    two : {b c : ℕ} → Arrow rows b → Arrow rows c → Mem a (b ∷ c ∷ []) → Arrow rows a
    two {b} {c} u v h = ⊎_elim (λ e. subst (Arrow rows) (sym e) u) (λ t. one v t) (mem-cases h)

    go : (s : Step) → Fits m rows s → Mem a (operands_of s) → Arrow rows a
    go (step.Bit l) f h = absurd (mem-nil h)
    go (step.Cube o z) f h = absurd (mem-nil h)
    go (step.Not b) f h = one f h
    go (step.And b c) f h = two f.0 f.1 h
    go (step.Or b c) f h = two f.0 f.1 h
    go (step.Shift b) f h = one f.0 h
    go (step.Exists x b) f h = one f.0 h

-- where the operands are kept, the step is the same
module _ {before after : Rows} (m : ℕ) where
  pub fits_keeps : (s : Step) → Keeps before after (operands_of s) → Fits m before s → Fits m after s
  fits_keeps (step.Bit l) k f = f
  fits_keeps (step.Cube o z) k f = f
  fits_keeps (step.Not a) k f = keeps_arrow k a (here refl)
  fits_keeps (step.And a b) k f = (keeps_arrow k a (here refl), keeps_arrow k b (there (here refl)))
  fits_keeps (step.Or a b) k f = (keeps_arrow k a (here refl), keeps_arrow k b (there (here refl)))
  fits_keeps (step.Shift a) k f =
      (keeps_arrow k a (here refl), λ v w h. keeps_den k m a (here refl) v ∙ f.1 v w h ∙ sym (keeps_den k m a (here refl) w))
  fits_keeps (step.Exists x a) k f = (keeps_arrow k a (here refl), f.1)

  pub step_f_keeps : (s : Step) → Keeps before after (operands_of s) → (v : Val) → step_f m after s v ≡ step_f m before s v
  step_f_keeps (step.Bit l) k v = refl
  step_f_keeps (step.Cube o z) k v = refl
  step_f_keeps (step.Not a) k v = ap not (keeps_den k m a (here refl) v)
  step_f_keeps (step.And a b) k v = ap₂ ◌&&◌ (keeps_den k m a (here refl) v) (keeps_den k m b (there (here refl)) v)
  step_f_keeps (step.Or a b) k v = ap₂ ◌||◌ (keeps_den k m a (here refl) v) (keeps_den k m b (there (here refl)) v)
  step_f_keeps (step.Shift a) k v = keeps_den k m a (here refl) (λ l. v (suc l))
  step_f_keeps (step.Exists x a) k v = ap₂ ◌||◌ (keeps_den k m a (here refl) (upd v x false)) (keeps_den k m a (here refl) (upd v x true))

-- a step reads levels below m only
pub step_f_reads : {m N : ℕ} {rows : Rows} (s : Step) → WellFormed m N rows → even m ≡ true → Fits m rows s → Reads 0 m (step_f m rows s)
step_f_reads (step.Bit l) wf e f = λ v w h. h l (omega arith) f
step_f_reads {m} (step.Cube o z) wf e f = cube_f_reads m o z
step_f_reads (step.Not a) wf e f = not_reads (den_reads_all wf a f)
step_f_reads (step.And a b) wf e f = two_reads ◌&&◌ (den_reads_all wf a f.0) (den_reads_all wf b f.1)
step_f_reads (step.Or a b) wf e f = two_reads ◌||◌ (den_reads_all wf a f.0) (den_reads_all wf b f.1)
step_f_reads {m} (step.Shift a) wf e f = shift_reads_all m e f.1 (den_reads_all wf a f.0)
step_f_reads (step.Exists x a) wf e f = exists_reads x (den_reads_all wf a f.0)

-- registers, relations and lent arrows are arrows
pub live-arrows : {W : View} (lent : List ℕ) → Sound W → ((a : ℕ) → Mem a lent → Arrow (rows_of W) a) → (a : ℕ) → Mem a (live W lent)
    → Arrow (rows_of W) a
live-arrows {W} lent z u a h = ⊎_elim (filled-arrow z a) (u a) (append_cases (filled W) h)

-- operands and lent roots are live
pub operand-live : (W : View) (roots : List ℕ) (s : Step) (a : ℕ) → Mem a (operands_of s) → Mem a (live_at W roots s)
operand-live W roots s a h = append_right (filled W) (append_right roots h)

pub root_live : (W : View) (roots : List ℕ) (s : Step) (a : ℕ) → Mem a roots → Mem a (live_at W roots s)
root_live W roots s a h = append_right (filled W) (append_left (operands_of s) h)

-- the same roots are live while registers and relations are the same
held_same : (W X : View) (start k : ℕ) → ((h : ℕ) → start ≤ h → h < start + k → X.header h ≡ W.header h) → held X start k ≡ held W start k
unfolding held
held_same W X start zero e = refl
held_same W X start (suc k) e = ap₂ push (e (start + k) (omega arith) (omega arith)) (held_same W X start k (λ h a b. e h a (omega arith)))

pub filled-same : {W X : View} → OpFrame W X → filled X ≡ filled W
filled-same {W} {X} f = held_same W X VALID ROOTS (λ h a b. f.header h (omega arith) (omega arith) (omega arith) (omega arith))

pub live_same : {W X : View} → OpFrame W X → (lent : List ℕ) → live X lent ≡ live W lent
live_same f lent = ap (λ (xs : List ℕ). xs ++ lent) (filled-same f)
