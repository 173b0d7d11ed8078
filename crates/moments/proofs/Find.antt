-- The whole search: all sets, the least state of the first, then the others. Assumes nothing.
use mathlib.Core.Path.{◌≡◌, refl, sym, ap, ◌∙◌, subst}
use mathlib.Core.Bool.{Bool, true, false, ◌&&◌}
use mathlib.Core.List.{List, ◌∷◌}
use Prim.Native.Nat.{ℕ, suc, ◌-◌, ◌/◌, ◌^◌, ◌≤◌, ◌<◌}
use native.Mathlib.Omega.{arith}
use lib.Dec.{T, ltb→lt, lt→ltb}
use lib.ListN.{length, set}
use Rattle.std.specs.Prelude.{Result, Ok, Err}
use Rattle.mucalculus.specs.Sets.{mem}
use Rattle.mucalculus.proofs.Sets.{true_of, false_of}
use Rattle.layout.specs.View.{View}
use Rattle.layout.specs.declared.Refusal.{Refusal}
use Rattle.layout.specs.declared.Refusal.TheVariants as refusal
use Rattle.table.specs.declared.Full.{Full}
use Rattle.table.specs.Full.{rows_out}
use Rattle.book.specs.Run.{fit}
use Rattle.modal.specs.Chain.{Base}
use Rattle.modal.proofs.Chain.{base-next, base-bits}
use Rattle.paths.specs.Runs.{Outcome, full, none, short, found, first_of, written}
use Rattle.paths.proofs.First.{first-same, first_found}
use Rattle.paths.proofs.Decided.{decided-full, decided-none, decided-short, decided-found}
use Rattle.seek.specs.Walk.{HoldsPre}
use Rattle.seek.specs.Search.{in_both}
use Rattle.layers.specs.Scene.{Scene}
use Rattle.layers.specs.Pass.{Steps}
use Rattle.layers.proofs.Pass.{holds-pre, both-mem}
use Rattle.routes.proofs.Write.{put_written, start-later, scene-later, state-small}
use Rattle.routes.proofs.Find.{steps_then}
use Rattle.logs.specs.Runs.{moment_at, sets_of, least_of, run, inhabited, log_needs, log_outcome}
use Rattle.logs.specs.Call.{last_moment}
use Rattle.logs.proofs.Exact.{first_pass, sets-small}
use Rattle.logs.proofs.Starts.{run-size}
use Rattle.moments.specs.Sets.{set_of, needs_of, HasSet, MakePre, Ends, is-full, MakePost}
use Rattle.moments.specs.Write.{Onward, rest_of, WritePre, WritePost}
use Rattle.moments.specs.Find.{OutcomeTold, FindPre, FindPost}
use Rattle.moments.proofs.Write.{set-made, never-full}

-- ---- the outcome by its three tests

module _ {n : ℕ} {W : View} {t v : ℕ} (limit : ℕ) (S : Scene n W t v) (one two : List ℕ) (j room : ℕ) where
  abbrev out : Outcome
  out = log_outcome n limit S.fs S.R S.B (moment_at one two) j room

  abbrev whole : List ℕ
  whole = run (2 ^ n) S.R (sets_of n S.B (moment_at one two)) j

  abbrev X : List Bool
  X = set_of S one two j 0

  abbrev fits : Bool
  fits = fit limit (log_needs n S.fs S.R S.B (moment_at one two) j)

  pass : fits ≡ fit limit (needs_of S one two j 0)
  pass = first_pass n limit S.fs S.R S.B (moment_at one two) j

  pub outcome-full : fit limit (needs_of S one two j 0) ≡ false → out ≡ full
  outcome-full e = decided-full fits (inhabited (2 ^ n) X) whole room (pass ∙ e)

  pub outcome-none : fit limit (needs_of S one two j 0) ≡ true → inhabited (2 ^ n) X ≡ false → out ≡ none
  outcome-none e m = decided-none fits (inhabited (2 ^ n) X) whole room (pass ∙ e) m

  whole-size : length whole ≡ suc j
  whole-size = run-size (2 ^ n) S.R (sets_of n S.B (moment_at one two)) (sets-small n S.B (moment_at one two)) j

  pub outcome-short : fit limit (needs_of S one two j 0) ≡ true → inhabited (2 ^ n) X ≡ true → room < suc j → out ≡ short
  outcome-short e m l =
      decided-short fits (inhabited (2 ^ n) X) whole room (pass ∙ e) m (subst (λ (k : ℕ). room < k) (sym whole-size) l)

  pub outcome-found : fit limit (needs_of S one two j 0) ≡ true → inhabited (2 ^ n) X ≡ true → suc j ≤ room → out ≡ found whole
  outcome-found e m l =
      decided-found fits (inhabited (2 ^ n) X) whole room (pass ∙ e) m (subst (λ (k : ℕ). k ≤ room) (sym whole-size) l)

told-by : {o o' : Outcome} {r : Result (Unit {0}) Refusal} {old new : List ℕ} → o ≡ o' → OutcomeTold o' r old new → OutcomeTold o r old new
told-by {r = r} {old = old} {new = new} e h = subst (λ (x : Outcome). OutcomeTold x r old new) (sym e) h

-- ---- the search

and_self : (b : Bool) → (b && b) ≡ b
and_self true = refl
and_self false = refl

module _ {n N limit : ℕ} {W : View} {t v : ℕ} {one two : List ℕ} (p : FindPre n N limit W t v one two) where
  pub find-asks : MakePre n N limit W t v one two 0
  find-asks = record { start = p.start; scene = p.scene; logs = p.logs; inside = omega arith }

  -- the last moment
  abbrev j : ℕ
  j = last_moment one

  module _ {X : View} {o : Result ℕ Full} (f : MakePost n limit W X t v one two 0 o) where
    ended : (S : Scene n W t v) → Ends n limit W X t v S one two j 0 o
    ended S = let e : last_moment one - 0 ≡ j = omega arith in subst (λ (j : ℕ). Ends n limit W X t v S one two j 0 o) e (f S)

    pub find-full : {old : List ℕ} → o ≡ Err rows_out → FindPost n limit W X t v one two old old (Err refusal.Full)
    find-full {old} e S =
        let d = ended S in
        record {
          steps = full-steps (subst (λ (o : Result ℕ Full). Ends n limit W X t v S one two j 0 o) e d);
          told = told-by (outcome-full limit S one two j (length old) (never-full d e)) (record { reply = refl; list = refl });
        }
      where
        full-steps : {S : Scene n W t v} → Ends n limit W X t v S one two j 0 (Err rows_out) → Steps n W X
        full-steps (is-full s g) = s

    module _ {x : ℕ} (ex : o ≡ Ok x) where
      set_at : (S : Scene n W t v) → HasSet n limit W X t v S one two j 0 x
      set_at S = set-made (ended S) ex

      own : HasSet n limit W X t v p.scene one two j 0 x
      own = set_at p.scene

      base-after : Base n N limit X
      base-after = base-next p.start.base own.steps.moved

      pub find-walks : HoldsPre X x × HoldsPre X x × (n ≤ 16)
      find-walks = (holds-pre base-after own.set_is.arrow, holds-pre base-after own.set_is.arrow, base-bits p.start.base)

      module _ {s : ℕ} (es : s ≡ first_of (2 ^ n) (in_both X x x)) where
        -- the least state of the first set
        first-is : (S : Scene n W t v) → s ≡ least_of (2 ^ n) (set_of S one two j 0)
        first-is S =
            let A = set_of S one two j 0 in
            es ∙ first-same (2 ^ n) (in_both X x x) (λ s. mem A s && mem A s)
            (both-mem n W X A A base-after.ready.levels-is (set_at S).set_is (set_at S).set_is)
            ∙ first-same (2 ^ n) (λ s. mem A s && mem A s) (λ s. mem A s) (λ s h. and_self (mem A s))

        pub find_none : {old : List ℕ} → 2 ^ n ≤ s → FindPost n limit W X t v one two old old (Err refusal.NoRun)
        find_none {old} h S =
            let A = set_of S one two j 0 in
            let e = first-is S in
            record {
              steps = (set_at S).steps;
              told = told-by (outcome-none limit S one two j (length old) (set_at S).fits
                  (false_of (inhabited (2 ^ n) A) (λ g. let z = ltb→lt (least_of (2 ^ n) A) (2 ^ n) g in absurd (omega (arith, z, e, h)))))
                  (record { reply = refl; list = refl });
            }

        module _ (h : s < 2 ^ n) where
          has : (S : Scene n W t v) → T (inhabited (2 ^ n) (set_of S one two j 0))
          has S =
              let A = set_of S one two j 0 in
              lt→ltb (least_of (2 ^ n) A) (2 ^ n) (subst (λ (s : ℕ). s < 2 ^ n) (first-is S) h)

          pub find-short : {old : List ℕ} → length old < length one / 2 → FindPost n limit W X t v one two old old (Err
              refusal.Short)
          find-short {old} r S = record {
            steps = (set_at S).steps;
            told = told-by (outcome-short limit S one two j (length old) (set_at S).fits (true_of _ (has S)) (let l = p.logs.first in
                omega (arith, r, l)))
                (record { reply = refl; list = refl });
          }

          pub find-small : s < 65_536
          find-small = state-small p.start.base h

          ready_at : (S : Scene n W t v) → Onward limit S one two j 0 s
          ready_at S =
              let A = set_of S one two j 0 in
              ((set_at S).fits, subst (λ (s : ℕ). T (mem A s)) (sym (first-is S)) (first_found (2 ^ n) (λ s. mem A s) (ltb→lt (least_of (2 ^ n) A) (2 ^ n) (has S))))

          -- the scene after the sets are made
          pub write_asks : {list : List ℕ} → length one / 2 ≤ length list → WritePre n N limit X t v one two s list
          write_asks r = record {
            start = start-later p.start own.steps;
            scene = scene-later p.start own.steps p.scene;
            logs = p.logs;
            ready = ready_at p.scene;
            room = let l = p.logs.first in omega (arith, r, l);
          }

          pub find-written : {Y : View} (old : List ℕ) {new : List ℕ} → length one / 2 ≤ length old
              → WritePost n limit X Y t v one two s (set old 0 s) new
              → FindPost n limit W Y t v one two old new (Ok tt)
          find-written {Y} old {new} r w S =
              let T1 = set_at S in
              let q = w (scene-later p.start T1.steps S) (ready_at S) in
              let l = p.logs.first in
              let A = sets_of n S.B (moment_at one two) in
              let R1 = s ∷ rest_of S one two j 0 s in
              let z : R1 ≡ run (2 ^ n) S.R A j =
              ap (λ (s : ℕ). s ∷ rest_of S one two j 0 s) (first-is S) in
              let size : length (run (2 ^ n) S.R A j) ≡ suc j = run-size (2 ^ n) S.R A (sets-small n S.B (moment_at one two)) j in
              let g : length R1 ≤ length old = let e = ap length z in omega (arith, r, l, size, e) in
              let list : new ≡ written (run (2 ^ n) S.R A j) old =
              q.list ∙ put_written R1 old g ∙ ap (λ (m : List ℕ). written m old) z in
              record {
                steps = steps_then T1.steps q.steps;
                told = told-by (outcome-found limit S one two j (length old) T1.fits (true_of _ (has S)) (omega (arith, r, l)))
                    (record { reply = refl; list = list });
              }
