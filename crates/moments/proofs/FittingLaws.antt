-- The step that makes the fitting states, and AND with V, are one chain: as NOT within V is, with a cube in the place of NOT.
-- Assumes nothing.
use Rattle.std.specs.Prelude.{Result}
use mathlib.Core.Path.{◌≡◌, sym, ap₂, subst}
use mathlib.Core.Bool.{Bool, ◌&&◌}
use mathlib.Core.List.Memᴰ.{tail as there}
use mathlib.Core.List.{List, ◌∷◌, map}
use Prim.Native.Nat.{ℕ, ◌*◌}
use lib.Bits.{bit_xor}
use lib.Dec.{leb}
use Rattle.accounts.specs.declared.Count.{Count}
use Rattle.accounts.specs.Count.{needing}
use Rattle.layout.specs.View.{View}
use Rattle.diagram.specs.Level.{Fn}
use Rattle.diagram.specs.Rows.{den}
use Rattle.diagram.specs.Need.{step_need}
use Rattle.diagram.specs.Post.{Denotes}
use Rattle.diagram.specs.Keep.{Keeps}
use Rattle.diagram.proofs.Keep.{keeps_denotes}
use Rattle.diagram.specs.Steps.{and_f}
use Rattle.rows.specs.Used.{rows_of}
use Rattle.collect.specs.Lent.{live}
use Rattle.steps.specs.declared.Step.TheVariants.{Cube, And}
use Rattle.steps.specs.Steps.{StepPre}
use Rattle.steps.proofs.Steps.{live-arrows, live_same}
use Rattle.table.specs.declared.Full.{Full}
use Rattle.counting.specs.Taken.{taken, ran_out}
use Rattle.counting.specs.declared.Taken.{Taken}
use Rattle.book.specs.Held.{Held}
use Rattle.book.proofs.Held.{denoted, held-push, held-operand, held_keeps}
use Rattle.modal.proofs.Chain.{alike_cons, alike_once, held_alike, denotes-own, held-own, base-next}
use Rattle.modal.proofs.Chain.{step-pre, Took, ran_step, ran_stop, ran_kept, ran_value, ran_then}
use Rattle.modal.proofs.Laws.{kept-lent, held-mem}
use Rattle.modal.specs.Chain.{Base, Ran}
use Rattle.layers.proofs.Next.{and-true}
use Rattle.moments.specs.Moment.{entry_f}
use Rattle.moments.specs.Fitting.{FittingPre, FittingPost}

module _ {n N limit : ℕ} {W : View} {lent : List ℕ} {v : ℕ} (mask value : ℕ) (q : Count) (p : FittingPre n N limit W lent v) where
  pub cube-asks : StepPre (2 * n) N limit W lent (Cube value (bit_xor mask value))
  cube-asks = step-pre p.base p.arrows tt

  module _ {X : View} {a : Result Taken Full} (s : Took n N limit W X (live W lent) q a (entry_f (2 * n) mask value)) where
    abbrev C : Fn
    C = entry_f (2 * n) mask value

    -- V as a function
    abbrev E : Fn
    E = den (2 * n) (rows_of W) v

    roots-held : Held (2 * n) (rows_of W) (live W lent) (map (den (2 * n) (rows_of W)) (live W lent))
    roots-held = held-own (live-arrows lent p.base.sound p.arrows)

    cubed : (fs : List Fn) → Held (2 * n) (rows_of W) (live W lent) fs
        → Ran n N W X (live W lent) (leb (step_need (2 * n) fs C) limit) C (needing q (step_need (2 * n) fs C)) a
    cubed fs h = ran_step h (λ b i. i) s

    pub fit-full : a ≡ ran_out → FittingPost n N limit W X lent v mask value q ran_out
    fit-full e fs h = ran_stop _ (and_f C E) _ e (cubed fs h)

    module _ {f : ℕ} {q1 : Count} (e : a ≡ taken f q1) where
      cube-kept : Keeps (rows_of W) (rows_of X) (live W lent)
      cube-kept = ran_kept e (cubed _ roots-held)

      cube-is : Denotes (2 * n) (rows_of X) f C
      cube-is = ran_value e (cubed _ roots-held)

      valid-is : Denotes (2 * n) (rows_of X) v E
      valid-is = keeps_denotes cube-kept p.valid (denotes-own (live-arrows lent p.base.sound p.arrows v p.valid))

      pub and-base : Base n N limit X
      and-base = base-next p.base s.moved

      pub and-asks : StepPre (2 * n) N limit X lent (And f v)
      and-asks = step-pre and-base (kept-lent W lent cube-kept) (cube-is.arrow, valid-is.arrow)

      module _
          {Y : View} {u : Result Taken Full}
          (w : Took n N limit X Y (f ∷ v ∷ live X lent) q1 u (and_f (den (2 * n) (rows_of X) f) (den (2 * n) (rows_of X) v))) where
        w1 : Took n N limit X Y (f ∷ v ∷ live W lent) q1 u (and_f C E)
        w1 =
            subst (λ (H : Fn). Took n N limit X Y (f ∷ v ∷ live W lent) q1 u H) (ap₂ and_f (denoted cube-is) (denoted valid-is))
            (subst (λ (xs : List ℕ). Took n N limit X Y (f ∷ v ∷ xs) q1 u (and_f (den (2 * n) (rows_of X) f) (den (2 * n) (rows_of X) v)))
            (live_same s.moved.frame lent) w)

        abbrev in_need : List Fn → ℕ
        in_need fs = step_need (2 * n) (E ∷ C ∷ fs) (and_f C E)

        pub fit-ends : FittingPost n N limit W Y lent v mask value q u
        fit-ends fs h =
            let g : Held (2 * n) (rows_of X) (f ∷ live W lent) (E ∷ C ∷ fs) = held-operand (held-push (held_keeps h cube-kept) cube-is)
            (there (held-mem h p.valid)) in
            let l = ran_step (held_alike (alike_cons f (alike_once p.valid)) g) (λ b i. there (there i)) w1 in
            subst (λ (x : Bool). Ran n N W Y (live W lent) (leb (step_need (2 * n) fs C) limit && x) (and_f C E)
            (needing (needing q (step_need (2 * n) fs C)) (in_need fs)) u)
            (sym (and-true (leb (in_need fs) limit))) (ran_then e (cubed fs h) (λ c. needing c (in_need fs)) l)
