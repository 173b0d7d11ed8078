-- Laws of what specs/Next.antt defines. Assumes nothing.
use Rattle.std.specs.Prelude.{Result}
use mathlib.Core.Path.{◌≡◌, refl, sym, ap, ap₂, ◌∙◌, subst}
use mathlib.Core.Logic.{⊎_elim}
use mathlib.Core.Bool.{Bool, true, false, ◌&&◌}
use mathlib.Core.List.Memᴰ.{head as here}
use mathlib.Core.List.Memᴰ.{tail as there}
use mathlib.Core.List.{List, [], ◌∷◌, ◌++◌, map, Memᴰ as Mem}
use mathlib.Core.List.Memᴰ.{append_cases}
use mathlib.Core.List.Memᴰ.{cases_cons as mem-cases}
use mathlib.Core.List.Memᴰ.{not-nil as mem-nil}
use mathlib.Core.List.Memᴰ.{append_left}
use mathlib.Core.List.Memᴰ.{append_right}
use mathlib.Core.List.Memᴰ.{cast as mem_cast}
use Prim.Native.Nat.{ℕ, ◌*◌, ◌^◌}
use lib.Dec.{leb}
use Rattle.accounts.specs.declared.Count.{Count}
use Rattle.accounts.specs.Count.{needing}
use Rattle.mucalculus.specs.Form.{Pairs}
use Rattle.mucalculus.specs.Means.{union, sometimes}
use Rattle.layout.specs.View.{View}
use Rattle.diagram.specs.Level.{Fn}
use Rattle.diagram.specs.Rows.{Arrow, den}
use Rattle.diagram.specs.Post.{Denotes}
use Rattle.diagram.specs.Keep.{Keeps}
use Rattle.diagram.proofs.Keep.{keeps_arrow, keeps_denotes}
use Rattle.diagram.specs.Steps.{or_f}
use Rattle.rows.specs.Used.{rows_of}
use Rattle.rows.specs.Filled.{filled}
use Rattle.collect.specs.Lent.{live}
use Rattle.table.specs.declared.Full.{Full}
use Rattle.counting.specs.Taken.{taken, ran_out}
use Rattle.counting.specs.declared.Taken.{Taken}
use Rattle.steps.specs.declared.Step.TheVariants.{Or}
use Rattle.steps.specs.Steps.{StepPre}
use Rattle.steps.proofs.Steps.{live-arrows, live_same}
use Rattle.book.specs.Ticks.{diamond_needs, dia_needs, two_need}
use Rattle.book.specs.Bridge.{fn_of, fn_of_pairs}
use Rattle.book.proofs.Bridge.{fn_of-or}
use Rattle.book.specs.Diamond.{diamond_f}
use Rattle.book.proofs.Diamond.{diamond-exact}
use Rattle.book.specs.Run.{needing_all, fit}
use Rattle.book.proofs.Verdicts.{fit_append, count-append}
use Rattle.book.specs.Held.{Held}
use Rattle.book.proofs.Held.{denoted, held-push, held-operand, held_keeps}
use Rattle.modal.specs.Chain.{Alike, Base, Moved, Ran}
use Rattle.modal.proofs.Chain.{alike_once, held_alike, held-own, base-next, step-pre, Took, ran_step, ran_stop, ran_kept, ran_value}
use Rattle.modal.proofs.Chain.{ran_then}
use Rattle.modal.specs.Modal.{ModalPre, DiamondPost}
use Rattle.modal.proofs.Laws.{kept-lent, held-mem}
use Rattle.paths.specs.Runs.{layer_needs}
use Rattle.layers.specs.Next.{NextPre, uncounted, NextPost}

-- a root at the front or at the end
pub alike_end : {A : Type 0} (xs : List A) (x : A) → Alike (x ∷ xs) (xs ++ (x ∷ []))
alike_end {A} xs x = record {
  to = λ a h. ⊎_elim (λ e. append_right xs (here e)) (λ i. append_left {s = xs} (x ∷ []) i) (mem-cases h);
  from = λ a h. ⊎_elim (λ i. there i) (λ j. ⊎_elim (λ e. here e) (λ n. absurd (mem-nil n)) (mem-cases j)) (append_cases xs h);
}

pub and-true : (b : Bool) → (b && true) ≡ b
and-true true = refl
and-true false = refl

module _ {n N limit : ℕ} {W : View} {t b x : ℕ} (p : NextPre n N limit W t b x) where
  abbrev lent : List ℕ
  lent = x ∷ []

  lent-arrow : (a : ℕ) → Mem a lent → Arrow (rows_of W) a
  lent-arrow a h = ⊎_elim (λ e. subst (Arrow (rows_of W)) (sym e) p.operand) (λ n. absurd (mem-nil n)) (mem-cases h)

  live_t : Mem t (live W lent)
  live_t = append_left {s = filled W} lent p.t_live

  live_b : Mem b (live W lent)
  live_b = append_left {s = filled W} lent p.b_live

  pub dia_asks : ModalPre n N limit W lent t x
  dia_asks = record { base = p.base; arrows = lent-arrow; relation = live_t; operand = p.operand; even = p.even }

  abbrev all : List Fn
  all = map (den (2 * n) (rows_of W)) (live W lent)

  all_held : Held (2 * n) (rows_of W) (live W lent) all
  all_held = held-own (live-arrows lent p.base.sound lent-arrow)

  -- the layer is held too
  held-live : {fs : List Fn} {F : Fn} → Held (2 * n) (rows_of W) (filled W) fs → Denotes (2 * n) (rows_of W) x F
      → Held (2 * n) (rows_of W) (live W lent) (F ∷ fs)
  held-live h d = held_alike (alike_end (filled W) x) (held-push h d)

  module _ {X : View} {o : Result Taken Full} (d : DiamondPost n N limit W X lent t x (uncounted N) o) where
    -- what is counted after the diamond
    abbrev dia_count : List Fn → Pairs → List Bool → Count
    dia_count fs R L = needing_all (uncounted N) (dia_needs n (fn_of n L ∷ fs) R L)

    -- the diamond, of sets
    ran_dia : (fs : List Fn) (R : Pairs) (L : List Bool) → Held (2 * n) (rows_of W) (filled W) fs
        → Denotes (2 * n) (rows_of W) t (fn_of_pairs n R) → Denotes (2 * n) (rows_of W) x (fn_of n L)
        → Ran n N W X (live W lent) (fit limit (dia_needs n (fn_of n L ∷ fs) R L)) (fn_of n (sometimes (2 ^ n) R L)) (dia_count fs R L) o
    ran_dia fs R L h dt dx =
        let r = d (fn_of n L ∷ fs) (held-live h dx) in
        let Q : Fn → Fn → Fn
        → Type 0 = λ T F G. Ran n N W X (live W lent) (fit limit (diamond_needs n (fn_of n L ∷ fs) T F)) G
        (needing_all (uncounted N) (diamond_needs n (fn_of n L ∷ fs) T F)) o in
        let r1 = subst (λ (F : Fn). Q (den (2 * n) (rows_of W) t) F (diamond_f n (den (2 * n) (rows_of W) t) F)) (denoted dx) r in
        let r2 = subst (λ (T : Fn). Q T (fn_of n L) (diamond_f n T (fn_of n L))) (denoted dt) r1 in
        subst (λ (G : Fn). Q (fn_of_pairs n R) (fn_of n L) G) (sym (diamond-exact n R L)) r2

    pub next-full : o ≡ ran_out → NextPost n N limit W X t b x ran_out
    next-full e fs R B L h dt db dx =
        let D = sometimes (2 ^ n) R L in
        let ls = fn_of n L ∷ fs in
        let k = two_need n ls (union (2 ^ n)) B D in
        let G : Fn = fn_of n (union (2 ^ n) B D) in
        let q = needing_all (uncounted N) (layer_needs n fs R B L) in
        subst (λ (c : Bool). Ran n N W X (live W lent) c G q ran_out) (sym (fit_append limit (dia_needs n ls R L) (k ∷ [])))
        (ran_stop (fit limit (k ∷ [])) G q e (ran_dia fs R L h dt dx))

    module _ {c : ℕ} {q : Count} (e : o ≡ taken c q) where
      k1 : Keeps (rows_of W) (rows_of X) (live W lent)
      k1 = ran_kept e (d all all_held)

      moved1 : Moved n W X
      moved1 = (d all all_held).moved

      pub or-base : Base n N limit X
      or-base = base-next p.base moved1

      pub or-asks : StepPre (2 * n) N limit X lent (Or b c)
      or-asks = step-pre or-base (kept-lent W lent k1) (keeps_arrow k1 b live_b, (ran_value e (d all all_held)).arrow)

      pub next-ends : {Y : View} {u : Result Taken Full}
          → Took n N limit X Y (b ∷ c ∷ live X lent) q u (or_f (den (2 * n) (rows_of X) b) (den (2 * n) (rows_of X) c))
          → NextPost n N limit W Y t b x u
      next-ends {Y} {u} v fs R B L h dt db dx =
          let D = sometimes (2 ^ n) R L in
          let ls = fn_of n L ∷ fs in
          let k = two_need n ls (union (2 ^ n)) B D in
          let G : Fn = fn_of n (union (2 ^ n) B D) in
          let r1 = ran_dia fs R L h dt dx in
          let c_is : Denotes (2 * n) (rows_of X) c (fn_of n D) = ran_value e r1 in
          let b_is : Denotes (2 * n) (rows_of X) b (fn_of n B) = keeps_denotes k1 live_b db in
          let v1 = subst (λ (xs : List ℕ). Took n N limit X Y (b ∷ c ∷ xs) q u (or_f (den (2 * n) (rows_of X) b) (den (2 * n) (rows_of X) c)))
          (live_same moved1.frame lent) v in
          let v2 : Took n N limit X Y (b ∷ c ∷ live W lent) q u G = subst (λ (F : Fn). Took n N limit X Y (b ∷ c ∷ live W lent) q u F)
          (ap₂ or_f (denoted b_is) (denoted c_is) ∙ sym (fn_of-or n B D)) v1 in
          let hl = held-live h dx in
          let mb : Mem (fn_of n B) ls = mem_cast (sym (denoted db)) (held-mem hl live_b) in
          let g : Held (2 * n) (rows_of X) (c ∷ live W lent) (fn_of n D ∷ fn_of n B ∷ ls) = held-push (held-operand (held_keeps hl k1) mb)
          c_is in
          let r2 : Ran n N X Y (live W lent) (leb k limit) G (needing q k) u = ran_step (held_alike (alike_once (there live_b)) g)
          (λ a i. there (there i)) v2 in
          let z = ap (λ (z : Bool). fit limit (dia_needs n ls R L) && z) (sym (and-true (leb k limit)))
          ∙ sym (fit_append limit (dia_needs n ls R L) (k ∷ [])) in
          subst (λ (m : Count). Ran n N W Y (live W lent) (fit limit (layer_needs n fs R B L)) G m u)
          (sym (count-append (uncounted N) (dia_needs n ls R L) (k ∷ [])))
          (subst (λ (z : Bool). Ran n N W Y (live W lent) z G (needing (dia_count fs R L) k) u) z (ran_then e r1 (λ m. needing m k) r2))
