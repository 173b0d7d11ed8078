-- Diamond of the later set, the fitting states and AND of both are one chain, with the later set live throughout, and the diamond's from
-- its end on. Assumes nothing.
use Rattle.std.specs.Prelude.{Result}
use mathlib.Core.Path.{◌≡◌, refl, sym, ap, ap₂, ◌∙◌, subst}
use mathlib.Core.Logic.{⊎_elim}
use mathlib.Core.Bool.{Bool, ◌&&◌}
use mathlib.Core.List.Memᴰ.{head as here}
use mathlib.Core.List.Memᴰ.{tail as there}
use mathlib.Core.List.{List, [], ◌∷◌, ◌++◌, map, Memᴰ as Mem}
use mathlib.Core.List.Memᴰ.{append_cases}
use mathlib.Core.List.Memᴰ.{cases_cons as mem-cases}
use mathlib.Core.List.Memᴰ.{not-nil as mem-nil}
use mathlib.Core.List.Memᴰ.{append_left}
use mathlib.Core.List.Memᴰ.{append_right}
use Prim.Native.Nat.{ℕ, ◌*◌, ◌^◌}
use lib.Dec.{leb}
use Rattle.accounts.specs.declared.Count.{Count}
use Rattle.accounts.specs.Count.{needing}
use Rattle.mucalculus.specs.Form.{Pairs}
use Rattle.mucalculus.specs.Means.{inter, sometimes}
use Rattle.layout.specs.View.{View}
use Rattle.diagram.specs.Level.{Fn}
use Rattle.diagram.specs.Rows.{Arrow, den}
use Rattle.diagram.specs.Count.{Within}
use Rattle.diagram.specs.Need.{step_need}
use Rattle.diagram.specs.Post.{Denotes}
use Rattle.diagram.specs.Keep.{Keeps}
use Rattle.diagram.proofs.Keep.{keeps_arrow, keeps_denotes, keeps_within}
use Rattle.diagram.specs.Steps.{and_f}
use Rattle.rows.specs.Used.{rows_of}
use Rattle.rows.specs.Filled.{filled}
use Rattle.collect.specs.Lent.{live}
use Rattle.table.specs.declared.Full.{Full}
use Rattle.counting.specs.Taken.{taken, ran_out}
use Rattle.counting.specs.declared.Taken.{Taken}
use Rattle.steps.specs.declared.Step.TheVariants.{And}
use Rattle.steps.specs.Steps.{StepPre}
use Rattle.steps.proofs.Steps.{live-arrows, live_same}
use Rattle.book.specs.Ticks.{diamond_needs, dia_needs, two_need}
use Rattle.book.specs.Bridge.{fn_of, fn_of_pairs}
use Rattle.book.proofs.Bridge.{fn_of-and}
use Rattle.book.specs.Diamond.{diamond_f}
use Rattle.book.proofs.Diamond.{diamond-exact}
use Rattle.book.specs.Run.{needing_all, fit}
use Rattle.book.proofs.Verdicts.{fit_append, count-append}
use Rattle.book.specs.Held.{Held}
use Rattle.book.proofs.Held.{denoted, held-push, held_keeps}
use Rattle.modal.specs.Chain.{Alike, Base, Moved, Ran}
use Rattle.modal.proofs.Chain.{alike_cons, alike_sym, alike_trans, held_alike, held-own, base-next, step-pre, Took, ran_step, ran_stop}
use Rattle.modal.proofs.Chain.{ran_kept, ran_value, ran_then}
use Rattle.modal.specs.Modal.{ModalPre, DiamondPost}
use Rattle.layers.specs.Next.{NextPre, uncounted}
use Rattle.layers.proofs.Next.{alike_end, and-true}
use Rattle.logs.specs.Runs.{Moment, fitting, existing, fit_needs, before_needs}
use Rattle.moments.specs.Moment.{Joins, entry_f}
use Rattle.moments.specs.Fitting.{FittingPre, FittingPost}
use Rattle.moments.specs.Before.{BeforePost}
use Rattle.moments.proofs.Cubes.{fitting-cube}

-- ---- roots

-- two roots at the end, one of them or both in front
alike_two : {A : Type 0} (xs : List A) (x y : A) → Alike (y ∷ (xs ++ (x ∷ []))) (xs ++ (x ∷ y ∷ []))
alike_two {A} xs x y = record {
  to = λ a h. ⊎_elim (λ e. append_right xs (there (here e)))
      (λ i. ⊎_elim (λ j. append_left {s = xs} (x ∷ y ∷ []) j)
      (λ j. ⊎_elim (λ e. append_right xs (here e)) (λ n. absurd (mem-nil n)) (mem-cases j)) (append_cases xs i))
      (mem-cases h);
  from = λ a h. ⊎_elim (λ i. there (append_left {s = xs} (x ∷ []) i))
      (λ j. ⊎_elim (λ e. there (append_right xs (here e)))
      (λ k. ⊎_elim (λ e. here e) (λ n. absurd (mem-nil n)) (mem-cases k)) (mem-cases j))
      (append_cases xs h);
}

alike_swap : {A : Type 0} (x y : A) (xs : List A) → Alike (x ∷ y ∷ xs) (y ∷ x ∷ xs)
alike_swap {A} x y xs = record { to = λ a h. swap x y a h; from = λ a h. swap y x a h }
  where
    swap : (x y a : A) → Mem a (x ∷ y ∷ xs) → Mem a (y ∷ x ∷ xs)
    swap x y a h =
        ⊎_elim (λ e. there (here e)) (λ i. ⊎_elim (λ e. here e) (λ j. there (there j)) (mem-cases i)) (mem-cases h)

-- a chain keeps each part of its roots
pub ran_fewer : {n N : ℕ} {W X : View} {xs ys : List ℕ} {b : Bool} {F : Fn} {c : Count} {o : Result Taken Full} → Within xs ys
    → Ran n N W X ys b F c o
    → Ran n N W X xs b F c o
ran_fewer w r =
    record { moved = r.moved; evals = record { wf = r.evals.wf; kept = keeps_within w r.evals.kept; result = r.evals.result } }

-- the fitting states, of sets: E is V
pub ran_fitting : (n N limit : ℕ) (W X : View) (lent : List ℕ) (v mask value : ℕ) (q : Count) (o : Result Taken Full)
    → FittingPost n N limit W X lent v mask value q o → (fs : List Fn) (E : List Bool) (m : Moment) → Held (2 * n) (rows_of W) (live W
    lent) fs
    → Denotes (2 * n) (rows_of W) v (fn_of n E) → Joins m mask value
    → Ran n N W X (live W lent) (fit limit (fit_needs n fs E m)) (fn_of n (existing (2 ^ n) E m)) (needing_all q (fit_needs n fs E m)) o
ran_fitting n N limit W X lent v mask value q o p fs E m h dv a =
    let Q : Fn → Fn → Fn
    → Type 0 = λ C G H. Ran n N W X (live W lent) (fit limit (step_need (2 * n) fs C ∷ step_need (2 * n) (G ∷ C ∷ fs) H ∷ [])) H
    (needing_all q (step_need (2 * n) fs C ∷ step_need (2 * n) (G ∷ C ∷ fs) H ∷ [])) o in
    let C : Fn = entry_f (2 * n) mask value in
    let r1 = subst (λ (G : Fn). Q C G (and_f C G)) (denoted dv) (p fs h) in
    let r2 = subst (λ (C : Fn). Q C (fn_of n E) (and_f C (fn_of n E))) (sym (fitting-cube n m a)) r1 in
    subst (λ (H : Fn). Q (fn_of n (fitting (2 ^ n) m)) (fn_of n E) H) (sym (fn_of-and n (fitting (2 ^ n) m) E)) r2

module _ {n N limit : ℕ} {W : View} {t v x : ℕ} (p : NextPre n N limit W t v x) where
  abbrev lent : List ℕ
  lent = x ∷ []

  lent-arrow : (a : ℕ) → Mem a lent → Arrow (rows_of W) a
  lent-arrow a h = ⊎_elim (λ e. subst (Arrow (rows_of W)) (sym e) p.operand) (λ n. absurd (mem-nil n)) (mem-cases h)

  live_t : Mem t (live W lent)
  live_t = append_left {s = filled W} lent p.t_live

  live_v : Mem v (live W lent)
  live_v = append_left {s = filled W} lent p.b_live

  pub dia_asks : ModalPre n N limit W lent t x
  dia_asks = record { base = p.base; arrows = lent-arrow; relation = live_t; operand = p.operand; even = p.even }

  -- the later set is held too
  held-live : {fs : List Fn} {F : Fn} → Held (2 * n) (rows_of W) (filled W) fs → Denotes (2 * n) (rows_of W) x F
      → Held (2 * n) (rows_of W) (live W lent) (F ∷ fs)
  held-live h d = held_alike (alike_end (filled W) x) (held-push h d)

  abbrev all : List Fn
  all = map (den (2 * n) (rows_of W)) (live W lent)

  all_held : Held (2 * n) (rows_of W) (live W lent) all
  all_held = held-own (live-arrows lent p.base.sound lent-arrow)

  module _ {X : View} {o : Result Taken Full} (d : DiamondPost n N limit W X lent t x (uncounted N) o) where
    -- the diamond, of sets
    ran_dia : (fs : List Fn) (R : Pairs) (L : List Bool) → Held (2 * n) (rows_of W) (filled W) fs
        → Denotes (2 * n) (rows_of W) t (fn_of_pairs n R) → Denotes (2 * n) (rows_of W) x (fn_of n L)
        → Ran n N W X (live W lent) (fit limit (dia_needs n (fn_of n L ∷ fs) R L)) (fn_of n (sometimes (2 ^ n) R L))
        (needing_all (uncounted N) (dia_needs n (fn_of n L ∷ fs) R L)) o
    ran_dia fs R L h dt dx =
        let r = d (fn_of n L ∷ fs) (held-live h dx) in
        let Q : Fn → Fn → Fn
        → Type 0 = λ T F G. Ran n N W X (live W lent) (fit limit (diamond_needs n (fn_of n L ∷ fs) T F)) G
        (needing_all (uncounted N) (diamond_needs n (fn_of n L ∷ fs) T F)) o in
        let r1 = subst (λ (F : Fn). Q (den (2 * n) (rows_of W) t) F (diamond_f n (den (2 * n) (rows_of W) t) F)) (denoted dx) r in
        let r2 = subst (λ (T : Fn). Q T (fn_of n L) (diamond_f n T (fn_of n L))) (denoted dt) r1 in
        subst (λ (G : Fn). Q (fn_of_pairs n R) (fn_of n L) G) (sym (diamond-exact n R L)) r2

    pub dia_full : (mask value : ℕ) → o ≡ ran_out → BeforePost n N limit W X t v x mask value ran_out
    dia_full mask value e fs R E L m h dt dv dx a =
        let ls = fn_of n L ∷ fs in
        let D = sometimes (2 ^ n) R L in
        let more = fit_needs n (fn_of n D ∷ ls) E m ++ (two_need n ls (inter (2 ^ n)) D (existing (2 ^ n) E m) ∷ []) in
        let G : Fn = fn_of n (inter (2 ^ n) D (existing (2 ^ n) E m)) in
        let q = needing_all (uncounted N) (before_needs n fs R E m L) in
        subst (λ (z : Bool). Ran n N W X (live W lent) z G q ran_out) (sym (fit_append limit (dia_needs n ls R L) more))
        (ran_stop (fit limit more) G q e (ran_dia fs R L h dt dx))

    module _ {c : ℕ} {q : Count} (e : o ≡ taken c q) where
      k1 : Keeps (rows_of W) (rows_of X) (live W lent)
      k1 = ran_kept e (d all all_held)

      moved1 : Moved n W X
      moved1 = (d all all_held).moved

      c_arrow : Arrow (rows_of X) c
      c_arrow = (ran_value e (d all all_held)).arrow

      -- the later set and its diamond are lent
      abbrev both : List ℕ
      both = x ∷ c ∷ []

      both-live : live X both ≡ live W both
      both-live = live_same moved1.frame both

      both-arrow : (a : ℕ) → Mem a both → Arrow (rows_of X) a
      both-arrow a h =
          ⊎_elim (λ i. subst (Arrow (rows_of X)) (sym i) (keeps_arrow k1 x (append_right (filled W) (here refl))))
          (λ j. ⊎_elim (λ i. subst (Arrow (rows_of X)) (sym i) c_arrow) (λ n. absurd (mem-nil n)) (mem-cases j))
          (mem-cases h)

      pub fit-asks : FittingPre n N limit X both v
      fit-asks = record {
        base = base-next p.base moved1;
        arrows = both-arrow;
        valid = subst (λ (xs : List ℕ). Mem v xs) (sym both-live) (append_left {s = filled W} both p.b_live);
      }

      fewer : Within (live W lent) (live W both)
      fewer a h = (alike_two (filled W) x c).to a (there h)

      -- what is held after the diamond
      held_both : {fs : List Fn} {F G : Fn} → Held (2 * n) (rows_of W) (filled W) fs → Denotes (2 * n) (rows_of W) x F
          → Denotes (2 * n) (rows_of X) c G
          → Held (2 * n) (rows_of X) (live W both) (G ∷ F ∷ fs)
      held_both h dx dc = held_alike (alike_two (filled W) x c) (held-push (held_keeps (held-live h dx) k1) dc)

      module _ (mask value : ℕ) {Y : View} {u : Result Taken Full} (f : FittingPost n N limit X Y both v mask value q u) where
        own : Held (2 * n) (rows_of X) (live X both) (map (den (2 * n) (rows_of X)) (live X both))
        own = held-own (live-arrows both moved1.sound both-arrow)

        -- the fitting states, of sets
        ran_fit : (fs : List Fn) (R : Pairs) (E L : List Bool) (m : Moment) → Held (2 * n) (rows_of W) (filled W) fs
            → Denotes (2 * n) (rows_of W) t (fn_of_pairs n R) → Denotes (2 * n) (rows_of W) v (fn_of n E)
            → Denotes (2 * n) (rows_of W) x (fn_of n L) → Joins m mask value
            → Ran n N X Y (live W both) (fit limit (fit_needs n (fn_of n (sometimes (2 ^ n) R L) ∷ fn_of n L ∷ fs) E m))
            (fn_of n (existing (2 ^ n) E m)) (needing_all q (fit_needs n (fn_of n (sometimes (2 ^ n) R L) ∷ fn_of n L ∷ fs) E m)) u
        ran_fit fs R E L m h dt dv dx a =
            let ls = fn_of n (sometimes (2 ^ n) R L) ∷ fn_of n L ∷ fs in
            let c_is : Denotes (2 * n) (rows_of X) c (fn_of n (sometimes (2 ^ n) R L)) = ran_value e (ran_dia fs R L h dt dx) in
            let g = subst (λ (xs : List ℕ). Held (2 * n) (rows_of X) xs ls) (sym both-live) (held_both h dx c_is) in
            let r = ran_fitting n N limit X Y both v mask value q u f ls E m g (keeps_denotes k1 live_v dv) a in
            subst (λ (xs : List ℕ). Ran n N X Y xs (fit limit (fit_needs n ls E m)) (fn_of n (existing (2 ^ n) E m))
            (needing_all q (fit_needs n ls E m)) u) both-live r

        -- one chain with what comes after it
        join : (fs : List Fn) (R : Pairs) (E L : List Bool) (m : Moment) {Z : View} {w : Result Taken Full}
            → Held (2 * n) (rows_of W) (filled W) fs → Denotes (2 * n) (rows_of W) t (fn_of_pairs n R)
            → Denotes (2 * n) (rows_of W) x (fn_of n L)
            → Ran n N X Z (live W lent) (fit limit (fit_needs n (fn_of n (sometimes (2 ^ n) R L) ∷ fn_of n L ∷ fs) E m)
            && leb (two_need n (fn_of n L ∷ fs) (inter (2 ^ n)) (sometimes (2 ^ n) R L) (existing (2 ^ n) E m)) limit)
            (fn_of n (inter (2 ^ n) (sometimes (2 ^ n) R L) (existing (2 ^ n) E m)))
            (needing (needing_all q (fit_needs n (fn_of n (sometimes (2 ^ n) R L) ∷ fn_of n L ∷ fs) E m))
            (two_need n (fn_of n L ∷ fs) (inter (2 ^ n)) (sometimes (2 ^ n) R L) (existing (2 ^ n) E m))) w
            → Ran n N W Z (live W lent) (fit limit (before_needs n fs R E m L))
            (fn_of n (inter (2 ^ n) (sometimes (2 ^ n) R L) (existing (2 ^ n) E m))) (needing_all (uncounted N) (before_needs n fs R E m L)) w
        join fs R E L m {Z} {w} h dt dx r =
            let ls = fn_of n L ∷ fs in
            let D = sometimes (2 ^ n) R L in
            let k = two_need n ls (inter (2 ^ n)) D (existing (2 ^ n) E m) in
            let A = dia_needs n ls R L in
            let B = fit_needs n (fn_of n D ∷ ls) E m in
            let G : Fn = fn_of n (inter (2 ^ n) D (existing (2 ^ n) E m)) in
            let l = ran_then e (ran_dia fs R L h dt dx) (λ z. needing (needing_all z B) k) r in
            let fits : (fit limit A && (fit limit B && leb k limit)) ≡ fit limit (A ++ (B ++ (k ∷ []))) =
            ap (λ (z : Bool). fit limit A && z) (ap (λ (z : Bool). fit limit B && z) (sym (and-true (leb k limit)))
            ∙ sym (fit_append limit B (k ∷ []))) ∙ sym (fit_append limit A (B ++ (k ∷ []))) in
            let counts : needing (needing_all (needing_all (uncounted N) A) B) k ≡ needing_all (uncounted N) (A ++ (B ++ (k ∷ []))) =
            sym (count-append (uncounted N) A (B ++ (k ∷ [])) ∙ count-append (needing_all (uncounted N) A) B (k ∷ [])) in
            subst (λ (z : Count). Ran n N W Z (live W lent) (fit limit (A ++ (B ++ (k ∷ [])))) G z w) counts
            (subst (λ (z : Bool). Ran n N W Z (live W lent) z G (needing (needing_all (needing_all (uncounted N) A) B) k) w) fits l)

        pub fit-full : u ≡ ran_out → BeforePost n N limit W Y t v x mask value ran_out
        fit-full i fs R E L m h dt dv dx a =
            let ls = fn_of n L ∷ fs in
            let D = sometimes (2 ^ n) R L in
            let k = two_need n ls (inter (2 ^ n)) D (existing (2 ^ n) E m) in
            let B = fit_needs n (fn_of n D ∷ ls) E m in
            let G : Fn = fn_of n (inter (2 ^ n) D (existing (2 ^ n) E m)) in
            join fs R E L m h dt dx
            (ran_stop (leb k limit) G (needing (needing_all q B) k) i (ran_fewer fewer (ran_fit fs R E L m h dt dv dx a)))

        module _ {g : ℕ} {q2 : Count} (i : u ≡ taken g q2) where
          k2 : Keeps (rows_of X) (rows_of Y) (live X both)
          k2 = ran_kept i (f _ own)

          moved2 : Moved n X Y
          moved2 = (f _ own).moved

          c_live : Mem c (live X both)
          c_live = append_right (filled X) (there (here refl))

          x_live : Mem x (live X both)
          x_live = append_right (filled X) (here refl)

          pub last-base : Base n N limit Y
          last-base = base-next (base-next p.base moved1) moved2

          pub last-asks : StepPre (2 * n) N limit Y lent (And c g)
          last-asks =
              step-pre last-base
              (λ a h. ⊎_elim (λ j. subst (Arrow (rows_of Y)) (sym j) (keeps_arrow k2 x x_live)) (λ n. absurd (mem-nil n)) (mem-cases h))
              (keeps_arrow k2 c c_live, (ran_value i (f _ own)).arrow)

          pub before-ends : {Z : View} {w : Result Taken Full}
              → Took n N limit Y Z (c ∷ g ∷ live Y lent) q2 w (and_f (den (2 * n) (rows_of Y) c) (den (2 * n) (rows_of Y) g))
              → BeforePost n N limit W Z t v x mask value w
          before-ends {Z} {w} s fs R E L m h dt dv dx a =
              let ls = fn_of n L ∷ fs in
              let D = sometimes (2 ^ n) R L in
              let F = existing (2 ^ n) E m in
              let k = two_need n ls (inter (2 ^ n)) D F in
              let G : Fn = fn_of n (inter (2 ^ n) D F) in
              let c-was : Denotes (2 * n) (rows_of X) c (fn_of n D) = ran_value e (ran_dia fs R L h dt dx) in
              let c_is : Denotes (2 * n) (rows_of Y) c (fn_of n D) = keeps_denotes k2 c_live c-was in
              let r2 = ran_fit fs R E L m h dt dv dx a in
              let g-is : Denotes (2 * n) (rows_of Y) g (fn_of n F) = ran_value i r2 in
              let s1 = subst (λ (xs : List ℕ). Took n N limit Y Z (c ∷ g ∷ xs) q2 w (and_f (den (2 * n) (rows_of Y) c) (den (2 * n) (rows_of
              Y) g)))
              (live_same moved2.frame lent ∙ live_same moved1.frame lent) s in
              let s2 : Took n N limit Y Z (c ∷ g ∷ live W lent) q2 w G = subst (λ (H : Fn). Took n N limit Y Z (c ∷ g ∷ live W lent) q2 w H)
              (ap₂ and_f (denoted c_is) (denoted g-is) ∙ sym (fn_of-and n D F)) s1 in
              let held = held-push (held_keeps (held_both h dx c-was) (subst (λ (xs : List ℕ). Keeps (rows_of X) (rows_of Y) xs) both-live
              k2)) g-is in
              let ys = held_alike (alike_trans (alike_cons g (alike_sym (alike_two (filled W) x c))) (alike_swap g c (live W lent))) held in
              let r3 : Ran n N Y Z (live W lent) (leb k limit) G (needing q2 k) w = ran_step ys (λ a j. there (there j)) s2 in
              join fs R E L m h dt dx (ran_then i (ran_fewer fewer r2) (λ z. needing z k) r3)
