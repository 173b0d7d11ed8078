-- Laws of what specs/Find.antt defines. Assumes nothing.
use mathlib.Core.Path.{◌≡◌, refl, sym, ap, ap₂, ◌∙◌, subst}
use mathlib.Core.Bool.{Bool, true, false}
use mathlib.Core.List.{List, ◌∷◌}
use Prim.Native.Nat.{ℕ, suc, ◌+◌, ◌*◌, ◌^◌, ◌≤◌, ◌<◌}
use native.Mathlib.Omega.{arith}
use lib.Dec.{T}
use lib.ListN.{length, set}
use lib.Pow.{pow_mono}
use Rattle.std.specs.Prelude.{Option, None, Result, Ok, Err}
use Rattle.mucalculus.specs.Sets.{mem}
use Rattle.mucalculus.proofs.Sets.{and_out}
use Rattle.layout.specs.View.{View}
use Rattle.layout.specs.declared.Refusal.{Refusal}
use Rattle.layout.specs.declared.Refusal.TheVariants as refusal
use Rattle.diagram.specs.Post.{Denotes}
use Rattle.diagram.specs.Keep.{Keeps}
use Rattle.diagram.proofs.Keep.{keeps_trans}
use Rattle.rows.specs.Used.{rows_of}
use Rattle.table.specs.declared.Full.{Full}
use Rattle.book.specs.Bridge.{fn_of}
use Rattle.book.specs.Run.{fit}
use Rattle.modal.proofs.Chain.{moved_trans, base-bits}
use Rattle.paths.specs.Runs.{Outcome, full, none, short, found, outcome, runs_into, common, meets, onward, route, path_needs}
use Rattle.paths.proofs.Layers.{run-lt, last-lt}
use Rattle.paths.proofs.Written.{onward-length, route-run}
use Rattle.paths.proofs.Decided.{decided-full, decided-none, decided-short, decided-found}
use Rattle.paths.proofs.Exact.{first_pass}
use Rattle.layers.specs.Scene.{Scene, layer_of, needs_of}
use Rattle.layers.proofs.Scene.{filled-same}
use Rattle.layers.specs.Pass.{PassPre, PassPost, Passed, Steps, last_of}
use Rattle.layers.proofs.Pass.{met}
use Rattle.layers.specs.declared.Meeting.{Meeting}
use Rattle.routes.proofs.Write.{put_written, start-later, scene-later, steps-start, state-small}
use Rattle.routes.specs.Write.{Onward, WritePre, WritePost}
use Rattle.routes.specs.Find.{Told, RunPre, RunTold, is_written, is-short, run_of, RunPost, FindPost}

-- ---- the run from its first state

run-size : {n : ℕ} {W : View} {t b : ℕ} (S : Scene n W t b) (d s : ℕ) → length (run_of S d s) ≡ suc d
run-size {n} S d s = ap suc (onward-length (2 ^ n) S.R S.B d s)

module _ {n N limit : ℕ} {W : View} {t b d s : ℕ} (p : RunPre n N limit W t b d s) where
  pub first_small : s < 65_536
  first_small =
      state-small p.start.base
      (run-lt (2 ^ n) p.scene.R p.scene.B s (onward (2 ^ n) p.scene.R p.scene.B d s) p.ready.1)

  pub run_short : {old : List ℕ} → length old ≤ d → RunPost n limit W W t b d s old old (Err refusal.Short)
  run_short {old} l S r = record { steps = steps-start p.start; told = is-short (let e = run-size S d s in omega arith) }

  pub run-asks : {list : List ℕ} → d < length list → WritePre n N limit W t b d s list
  run-asks l = record { start = p.start; scene = p.scene; ready = p.ready; room = l }

  pub run-written : {X : View} (old : List ℕ) {new : List ℕ} → d < length old → WritePost n limit W X t b d s (set old 0 s) new
      → RunPost n limit W X t b d s old new (Ok (d + 1))
  run-written {X} old {new} l w S r =
      let v = w S r in
      let e = run-size S d s in
      record {
        steps = v.steps;
        told =
            let q : d + 1 ≡ length (run_of S d s) = omega arith in
            let w = v.list ∙ put_written (run_of S d s) old (omega arith) in
            subst (λ (c : ℕ). RunTold (run_of S d s) old new (Ok c)) (sym q)
            (subst (λ (m : List ℕ). RunTold (run_of S d s) old m (Ok (length (run_of S d s)))) (sym w)
            (is_written (omega arith)));
      }

-- ---- the whole search

-- the outcome by its three tests
module _ {n : ℕ} {W : View} {t b : ℕ} (limit : ℕ) (S : Scene n W t b) (A : List Bool) (room : ℕ) where
  abbrev out : Outcome
  out = outcome n limit S.fs S.R A S.B room

  abbrev whole : List ℕ
  whole = route (2 ^ n) S.R A S.B (last_of S A)

  abbrev fits : Bool
  fits = fit limit (path_needs n S.fs S.R A S.B)

  abbrev some : Bool
  some = meets (2 ^ n) A (layer_of S (last_of S A))

  pass : fits ≡ fit limit (needs_of S (last_of S A))
  pass = first_pass n limit S.fs S.R S.B A

  pub outcome-full : fit limit (needs_of S (last_of S A)) ≡ false → out ≡ full
  outcome-full e = decided-full fits some whole room (pass ∙ e)

  pub outcome-none : fit limit (needs_of S (last_of S A)) ≡ true → some ≡ false → out ≡ none
  outcome-none e m = decided-none fits some whole room (pass ∙ e) m

  pub outcome-short : fit limit (needs_of S (last_of S A)) ≡ true → some ≡ true → room < length whole → out ≡ short
  outcome-short e m l = decided-short fits some whole room (pass ∙ e) m l

  pub outcome-found : fit limit (needs_of S (last_of S A)) ≡ true → some ≡ true → length whole ≤ room → out ≡ found whole
  outcome-found e m l = decided-found fits some whole room (pass ∙ e) m l

pub told-by : {o o' : Outcome} {r : Result ℕ Refusal} {old new : List ℕ} → o ≡ o' → Told o' r old new → Told o r old new
told-by {r = r} {old = old} {new = new} e h = subst (λ (x : Outcome). Told x r old new) (sym e) h

-- steps after steps
pub steps_then : {n : ℕ} {W X Y : View} → Steps n W X → Steps n X Y → Steps n W Y
steps_then {W = W} {X = X} {Y = Y} p q = record {
  moved = moved_trans p.moved q.moved;
  kept = keeps_trans p.kept (subst (λ (xs : List ℕ). Keeps (rows_of X) (rows_of Y) xs) (filled-same p.moved.frame) q.kept);
}

module _ {n N limit : ℕ} {W : View} {t a b : ℕ} (p : PassPre n N limit W t a b)
    {X : View} {r : Result (Option Meeting) Full} (q : PassPost n limit W X t a b r) where
  ended : {u : Result (Option Meeting) Full} → r ≡ u → (S : Scene n W t b) (A : List Bool) → Denotes (2 * n) (rows_of W) a (fn_of n A)
      → Passed n limit W X t b S A u
  ended e S A from = subst (λ (u : Result (Option Meeting) Full). Passed n limit W X t b S A u) e (q S A from)

  pub find-full : {old : List ℕ} → r ≡ Err (record {}) → FindPost n limit W X t a b old old (Err refusal.Full)
  find-full {old} e S A from =
      let h = ended e S A from in
      record { steps = h.steps; told = told-by (outcome-full limit S A (length old) h.ends) (record { reply = refl; list = refl }) }

  pub find_none : {old : List ℕ} → r ≡ Ok None → FindPost n limit W X t a b old old (Err refusal.NoRun)
  find_none {old} e S A from =
      let h = ended e S A from in
      record {
        steps =
            h.steps;
        told = told-by (outcome-none limit S A (length old) h.ends.1 h.ends.0) (record { reply = refl; list = refl });
      }

  module _ {d s : ℕ} (e : r ≡ met d s) where
    -- the first state and what follows it
    whole_is : (S : Scene n W t b) (A : List Bool) → Denotes (2 * n) (rows_of W) a (fn_of n A)
        → run_of S d s ≡ route (2 ^ n) S.R A S.B (last_of S A)
    whole_is S A from =
        let h = (ended e S A from).ends in
        let k = 2 ^ n in
        ap₂ (λ (i u : ℕ). u ∷ onward k S.R S.B i u) h.0 h.3

    onward-is : (S : Scene n W t b) (A : List Bool) → Denotes (2 * n) (rows_of W) a (fn_of n A) → Onward limit S d s
    onward-is S A from =
        let h = (ended e S A from).ends in
        let k = 2 ^ n in
        let m = route-run k S.R A S.B S.sized (subst T (sym h.1) tt) in
        let c = common k A (layer_of S (last_of S A)) in
        let g = (and_out (mem A c) _ m).1 in
        let g1 = subst (λ (i : ℕ). T (runs_into k S.R S.B c (onward k S.R S.B i c))) (sym h.0) g in (
          ap (λ (i : ℕ). fit limit (needs_of S i)) h.0 ∙ h.2,
          subst (λ (u : ℕ). T (runs_into k S.R S.B u (onward k S.R S.B d u))) (sym h.3) g1,
        )

    own : Passed n limit W X t b p.scene p.A (met d s)
    own = ended e p.scene p.A p.from

    pub find-asks : RunPre n N limit X t b d s
    find-asks = record {
      start = start-later p.start own.steps;
      scene = scene-later p.start own.steps p.scene;
      ready = onward-is p.scene p.A p.from;
      few =
          let l = last-lt (2 ^ n) p.scene.R p.A p.scene.B p.scene.sized in
          let m : 2 ^ n ≤ 65_536 = pow_mono (base-bits p.start.base) in
          omega (arith, own.ends.0);
    }

    run-told : {o : Outcome} (S : Scene n W t b) (A : List Bool) (old : List ℕ) {new : List ℕ} {y : Result ℕ Refusal}
        → fit limit (needs_of S (last_of S A)) ≡ true → meets (2 ^ n) A (layer_of S (last_of S A)) ≡ true
        → RunTold (route (2 ^ n) S.R A S.B (last_of S A)) old new y → outcome n limit S.fs S.R A S.B (length old) ≡ o
        → Told o y old new
    run-told S A old f m (is_written h) z =
        told-by (sym z ∙ outcome-found limit S A (length old) f m h) (record { reply = refl; list = refl })
    run-told S A old f m (is-short h) z =
        told-by (sym z ∙ outcome-short limit S A (length old) f m h) (record { reply = refl; list = refl })

    pub find_run_lem : {Y : View} (old : List ℕ) {new : List ℕ} {y : Result ℕ Refusal} → RunPost n limit X Y t b d s old new y
        → FindPost n limit W Y t a b old new y
    find_run_lem {Y} old {new} {y} v S A from =
        let h = ended e S A from in
        let w = v (scene-later p.start h.steps S) (onward-is S A from) in
        let l = subst (λ (x : List ℕ). RunTold x old new y) (whole_is S A from) w.told in
        record { steps = steps_then h.steps w.steps; told = run-told S A old h.ends.2 h.ends.1 l refl }
