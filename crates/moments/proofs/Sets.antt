-- The sets from the last moment on: each turn makes the set of the moment before, and what does not fit now fits for no earlier set.
-- Assumes nothing.
use Rattle.std.specs.Prelude.{Result}
use mathlib.Core.Path.{◌≡◌, sym, ap, ◌∙◌, subst}
use mathlib.Core.Bool.{Bool, true, false, ◌&&◌}
use mathlib.Core.List.Memᴰ.{append_left}
use mathlib.Core.List.Memᴰ.{not-nil as mem-nil}
use mathlib.Core.List.{List, [], ◌∷◌, append-nil, Memᴰ as Mem}
use Prim.Native.Nat.{ℕ, zero, suc, ◌+◌, ◌-◌, ◌*◌, ◌^◌, ◌≤◌}
use native.Mathlib.Omega.{arith}
use lib.Dec.{T}
use Rattle.accounts.specs.declared.Count.{Count}
use Rattle.mucalculus.proofs.Sets.{false_of}
use Rattle.layout.specs.View.{View}
use Rattle.diagram.specs.Level.{Fn}
use Rattle.diagram.specs.Post.{Denotes}
use Rattle.diagram.specs.Keep.{Keeps}
use Rattle.diagram.proofs.Keep.{keeps_trans, keeps_within, keeps_denotes}
use Rattle.rows.specs.Used.{rows_of}
use Rattle.rows.specs.Filled.{filled}
use Rattle.table.specs.Make.{result}
use Rattle.std.specs.Prelude.{Ok, Err}
use Rattle.table.specs.Full.{rows_out}
use Rattle.collect.specs.Lent.{live}
use Rattle.table.specs.declared.Full.{Full}
use Rattle.counting.specs.Taken.{taken, ran_out, made_in, count_in}
use Rattle.counting.specs.declared.Taken.{Taken}
use Rattle.book.specs.Bridge.{fn_of}
use Rattle.book.proofs.Bridge.{fn_of-even}
use Rattle.book.specs.Run.{needing_all, fit}
use Rattle.book.proofs.Verdicts.{fit_append}
use Rattle.book.specs.Held.{Held}
use Rattle.book.proofs.Held.{held_keeps}
use Rattle.book.specs.Pairs.{PairMatches}
use Rattle.modal.specs.Chain.{Ran}
use Rattle.modal.proofs.Chain.{moved_trans, base-next}
use Rattle.layers.specs.Next.{NextPre, uncounted}
use Rattle.layers.specs.Scene.{Scene}
use Rattle.layers.specs.Pass.{Steps}
use Rattle.layers.proofs.Scene.{filled-same, matches_at, matches_full}
use Rattle.logs.specs.Runs.{moment_at, existing, fit_needs, before_needs}
use Rattle.logs.specs.Call.{last_moment}
use Rattle.logs.proofs.Exact.{made-less}
use Rattle.moments.specs.Moment.{Joins, Has}
use Rattle.moments.specs.Fitting.{FittingPost}
use Rattle.moments.specs.Before.{BeforePost}
use Rattle.moments.specs.Sets.{Logs, LastPre, LastPost, set_of, needs_of, HasSet, MakePre, is_made, is-full, MakePost}
use Rattle.moments.proofs.BeforeLaws.{ran_fitting}

-- what a chain's answer says
module _ {n N : ℕ} {W X : View} {roots : List ℕ} {b : Bool} {F : Fn} {c : Count} {o : Result Taken Full}
    (r : Ran n N W X roots b F c o) where
  abbrev Says : Result Taken Full → Type 0
  Says z = PairMatches n (rows_of X) b F c (result (made_in z)) (count_in z)

  ran_made : {a : ℕ} {q : Count} → o ≡ taken a q → (b ≡ true) × Denotes (2 * n) (rows_of X) a F
  ran_made {q = q} e = matches_at n (rows_of X) c q b (subst Says e r.evals.result)

  ran_full : o ≡ ran_out → b ≡ false
  ran_full e = matches_full n (rows_of X) F c (count_in ran_out) b (subst Says e r.evals.result)

-- ---- needs

module _ {n : ℕ} {W : View} {t v : ℕ} (limit : ℕ) (S : Scene n W t v) (one two : List ℕ) where
  -- one set more
  fits_next : (j i : ℕ) → fit limit (needs_of S one two (suc j) i)
      ≡ (fit limit (needs_of S one two j (suc i))
      && fit limit (before_needs n S.fs S.R S.B (moment_at one two i) (set_of S one two j (suc i))))
  fits_next j i =
      fit_append limit (needs_of S one two j (suc i))
      (before_needs n S.fs S.R S.B (moment_at one two i) (set_of S one two j (suc i)))

  -- a set that is made on the way to an earlier one fits where that one does
  fits-later : (d j i : ℕ) → T (fit limit (needs_of S one two (d + j) i)) → T (fit limit (needs_of S one two j (d + i)))
  fits-later zero j i f =
      let a : 0 + j ≡ j = omega arith in
      let b : i ≡ 0 + i = omega arith in
      subst (λ (i : ℕ). T (fit limit (needs_of S one two j i))) b (subst (λ (j : ℕ). T (fit limit (needs_of S one two j i))) a f)
  fits-later (suc d) j i f =
      let a : suc d + j ≡ suc (d + j) = omega arith in
      let b : d + suc i ≡ suc d + i = omega arith in
      let g = subst (λ (j : ℕ). T (fit limit (needs_of S one two j i))) a f in
      let h = made-less n limit S.fs S.R S.B (moment_at one two) (d + j) i g in
      subst (λ (i : ℕ). T (fit limit (needs_of S one two j i))) b (fits-later d j (suc i) h)

  -- so what is full stays full for every earlier set
  pub full-before : (j i J p : ℕ) → p ≤ i → p + J ≡ i + j → fit limit (needs_of S one two j i) ≡ false → fit limit (needs_of S one two J p)
      ≡ false
  full-before j i J p l e f = false_of (fit limit (needs_of S one two J p)) (λ g.
      let a : J ≡ (i - p) + j = omega arith in
      let b : (i - p) + p ≡ i = omega arith in
      let h = fits-later (i - p) j p (subst (λ (j : ℕ). T (fit limit (needs_of S one two j p))) a g) in
      subst T f (subst (λ (i : ℕ). T (fit limit (needs_of S one two j i))) b h))

-- ---- the last moment

-- both logs have each entry
pub entry_at : {one two : List ℕ} → Logs one two → {i : ℕ} → i ≤ last_moment one → Has one two i
entry_at g h = let l = g.first in let m = g.second in record { first = omega (arith, l, h); second = omega (arith, m, h) }

-- the states that fit are the last set
pub last-ends : {n N : ℕ} (limit : ℕ) {W X : View} {v : ℕ} (one two : List ℕ) {mask value : ℕ} {o : Result Taken Full}
    → Joins (moment_at one two (last_moment one)) mask value → FittingPost n N limit W X [] v mask value (uncounted N) o
    → LastPost n N limit W X v one two o
last-ends {n} {N} limit {W} {X} {v} one two {mask} {value} {o} m f fs E h d =
    ran_fitting n N limit W X [] v mask value (uncounted N) o f fs E (moment_at one two (last_moment one)) h d m

module _ {n N limit : ℕ} {W : View} {t v : ℕ} {one two : List ℕ} {p : ℕ} (a : MakePre n N limit W t v one two p) where
  -- its step asks for no root
  pub last-asks : LastPre n N limit W v one two
  last-asks = record {
    fitting = record {
      base = a.start.base;
      arrows = λ b h. absurd (mem-nil h);
      valid = append_left {s = filled W} [] a.start.b_live;
    };
    logs = a.logs;
  }

  module _ {X : View} {o : Result Taken Full} (f : LastPost n N limit W X v one two o) where
    abbrev i : ℕ
    i = last_moment one

    ran_last : (S : Scene n W t v) → Ran n N W X (live W []) (fit limit (fit_needs n S.fs S.B (moment_at one two i)))
        (fn_of n (existing (2 ^ n) S.B (moment_at one two i)))
        (needing_all (uncounted N) (fit_needs n S.fs S.B (moment_at one two i))) o
    ran_last S =
        f S.fs S.B (subst (λ (xs : List ℕ). Held (2 * n) (rows_of W) xs S.fs) (sym (append-nil (filled W))) S.held) S.goal

    last-steps : (S : Scene n W t v) → Steps n W X
    last-steps S = record {
      moved = (ran_last S).moved;
      kept = subst (λ (xs : List ℕ). Keeps (rows_of W) (rows_of X) xs) (append-nil (filled W)) (ran_last S).evals.kept;
    }

    pub last_made : {J x : ℕ} {q : Count} → 0 ≡ J → o ≡ taken x q → (S : Scene n W t v) → HasSet n limit W X t v S one two J i x
    last_made {x = x} eJ e S =
        let w = ran_made (ran_last S) e in
        subst (λ (j : ℕ). HasSet n limit W X t v S one two j i x) eJ (record { steps = last-steps S; set_is = w.1; fits = w.0 })

    pub last-full : o ≡ ran_out → MakePost n limit W X t v one two p (Err rows_out)
    last-full e S =
        let s = a.inside in
        is-full (last-steps S)
        (full-before limit S one two 0 i (last_moment one - p) p s (omega (arith, s)) (ran_full (ran_last S) e))

-- ---- the moments before

module _ {n N limit : ℕ} {W : View} {t v : ℕ} {one two : List ℕ} {p : ℕ} (a : MakePre n N limit W t v one two p)
    {X : View} {j i x : ℕ} (h : (S : Scene n W t v) → HasSet n limit W X t v S one two j i x) where
  at-scene : HasSet n limit W X t v a.scene one two j i x
  at-scene = h a.scene

  same-roots : filled X ≡ filled W
  same-roots = filled-same at-scene.steps.moved.frame

  pub before-asks : NextPre n N limit X t v x
  before-asks = record {
    base = base-next a.start.base at-scene.steps.moved;
    t_live = subst (λ (xs : List ℕ). Mem t xs) (sym same-roots) a.start.t_live;
    b_live = subst (λ (xs : List ℕ). Mem v xs) (sym same-roots) a.start.b_live;
    operand = at-scene.set_is.arrow;
    even = λ u w g.
        at-scene.set_is.same u ∙ fn_of-even n (set_of a.scene one two j i) u w g ∙ sym (at-scene.set_is.same w);
  }

  module _ {b : ℕ} (eb : suc b ≡ i) {mask value : ℕ} (m : Joins (moment_at one two b) mask value)
      {Y : View} {o : Result Taken Full} (f : BeforePost n N limit X Y t v x mask value o) where
    set_there : (S : Scene n W t v) → Denotes (2 * n) (rows_of X) x (fn_of n (set_of S one two j (suc b)))
    set_there S = subst (λ (i : ℕ). Denotes (2 * n) (rows_of X) x (fn_of n (set_of S one two j i))) (sym eb) (h S).set_is

    ran_before : (S : Scene n W t v)
        → Ran n N X Y (live X (x ∷ [])) (fit limit (before_needs n S.fs S.R S.B (moment_at one two b) (set_of S one two j (suc b))))
        (fn_of n (set_of S one two (suc j) b))
        (needing_all (uncounted N) (before_needs n S.fs S.R S.B (moment_at one two b) (set_of S one two j (suc b)))) o
    ran_before S = f S.fs S.R S.B (set_of S one two j (suc b)) (moment_at one two b)
        (subst (λ (xs : List ℕ). Held (2 * n) (rows_of X) xs S.fs) (sym same-roots) (held_keeps S.held (h S).steps.kept))
        (keeps_denotes (h S).steps.kept a.start.t_live S.relation)
        (keeps_denotes (h S).steps.kept a.start.b_live S.goal) (set_there S) m

    steps_on : (S : Scene n W t v) → Steps n W Y
    steps_on S = record {
      moved = moved_trans (h S).steps.moved (ran_before S).moved;
      kept =
          keeps_trans (h S).steps.kept
          (keeps_within (λ c g. append_left {s = filled X} (x ∷ []) (subst (λ (xs : List ℕ). Mem c xs) (sym same-roots) g))
          (ran_before S).evals.kept);
    }

    needs-there : (S : Scene n W t v) → fit limit (needs_of S one two j (suc b)) ≡ true
    needs-there S = subst (λ (i : ℕ). fit limit (needs_of S one two j i) ≡ true) (sym eb) (h S).fits

    -- the needs fit so far, so those of the last steps decide
    fit-by : (S : Scene n W t v) → fit limit (needs_of S one two (suc j) b)
        ≡ fit limit (before_needs n S.fs S.R S.B (moment_at one two b) (set_of S one two j (suc b)))
    fit-by S =
        fits_next limit S one two j b
        ∙ ap (λ (z : Bool). z && fit limit (before_needs n S.fs S.R S.B (moment_at one two b) (set_of S one two j (suc b))))
        (needs-there S)

    pub turn-made : {J y : ℕ} {q : Count} → suc j ≡ J → o ≡ taken y q → (S : Scene n W t v) → HasSet n limit W Y t v S one two J b y
    turn-made {y = y} eJ e S =
        let w = ran_made (ran_before S) e in
        subst (λ (j : ℕ). HasSet n limit W Y t v S one two j b y) eJ
        (record { steps = steps_on S; set_is = w.1; fits = fit-by S ∙ w.0 })

    pub turn-full : p ≤ b → i + j ≡ last_moment one → o ≡ ran_out → MakePost n limit W Y t v one two p (Err rows_out)
    turn-full l k e S =
        is-full (steps_on S)
        (full-before limit S one two (suc j) b (last_moment one - p) p l (omega (arith, l, k, eb)) (fit-by S ∙ ran_full (ran_before S) e))

  -- the set is reached
  pub set-ends : i ≤ p → p ≤ i → i + j ≡ last_moment one → MakePost n limit W X t v one two p (Ok x)
  set-ends l m k S =
      let a : i ≡ p = omega (arith, l, m) in
      let b : j ≡ last_moment one - p = omega (arith, k, l, m) in
      is_made (subst (λ (i : ℕ). HasSet n limit W X t v S one two (last_moment one - p) i x) a
      (subst (λ (j : ℕ). HasSet n limit W X t v S one two j i x) b (h S)))
