-- Laws of what specs/Pass.antt defines. Assumes nothing.
use Rattle.std.specs.Prelude.{Option, Some, None, Result, Ok, Err}
use mathlib.Core.Path.{◌≡◌, refl, sym, ap, ap₂, ◌∙◌, subst}
use mathlib.Core.Logic.{◌≢◌}
use mathlib.Core.Bool.{Bool, true, false, ◌&&◌, ◌||◌, true≢false}
use mathlib.Core.List.Memᴰ.{append_right}
use mathlib.Core.List.Memᴰ.{head as here}
use mathlib.Core.List.{List}
use Prim.Native.Nat.{ℕ, suc, ◌+◌, ◌*◌, ◌^◌, ◌≤◌, ◌<◌}
use native.Mathlib.Nat.{lt_of_not-le}
use native.Mathlib.Omega.{arith}
use lib.Pow.{pow_mono}
use lib.Dec.{T, lt→ltb, ltb→lt}
use Rattle.mucalculus.specs.Sets.{mem}
use Rattle.mucalculus.proofs.Sets.{true_of, false_of, same-eq, or_right}
use Rattle.layout.specs.Places.{BITS}
use Rattle.accounts.specs.declared.Count.{Count}
use Rattle.layout.specs.View.{View}
use Rattle.diagram.specs.Rows.{Arrow, den}
use Rattle.diagram.specs.Post.{Denotes}
use Rattle.diagram.proofs.Keep.{keeps_denotes}
use Rattle.rows.specs.Used.{rows_of}
use Rattle.rows.specs.Filled.{filled}
use Rattle.table.specs.declared.Full.{Full}
use Rattle.counting.specs.Taken.{taken, ran_out}
use Rattle.counting.specs.declared.Taken.{Taken}
use Rattle.collect.proofs.Answers.{sound-base}
use Rattle.book.specs.States.{pair_val}
use Rattle.book.proofs.States.{now_of-pair_val}
use Rattle.book.specs.Bridge.{fn_of}
use Rattle.book.proofs.Turns.{arrow-same, arrow-apart}
use Rattle.book.specs.Run.{fit}
use Rattle.modal.specs.Chain.{Base}
use Rattle.modal.proofs.Chain.{base-bits}
use Rattle.paths.specs.Runs.{first_of, common, meets, still}
use Rattle.paths.proofs.First.{first_found, first-is, first-same}
use Rattle.paths.proofs.Layers.{last-lt}
use Rattle.seek.specs.Walk.{HoldsPre, holds_at}
use Rattle.seek.specs.Search.{in_both}
use Rattle.seek.proofs.Search.{NoneBelow, none-next}
use Rattle.layers.specs.declared.Meeting.{Meeting}
use Rattle.layers.specs.Next.{NextPost}
use Rattle.layers.specs.Scene.{Scene, Layered, layer_of, needs_of}
use Rattle.layers.proofs.Scene.{layer-sized, layered_start, layered_base, layered_next, layered_full, moved_on, all-kept, last-kept}
use Rattle.layers.proofs.Scene.{after-wf, fits_next, full-after}
use Rattle.layers.specs.Pass.{PassPre, last_of, Steps, Passed}

-- the answer that has the last layer's number d and the state s
abbrev pub met : ℕ → ℕ → Result (Option Meeting) Full
met d s = Ok (Some (record { layer = d; state = s }))

-- the pass ends at layer j
abbrev pub stops_at : {n : ℕ} {W : View} {t b : ℕ} → Scene n W t b → List Bool → ℕ → Bool
stops_at {n} S A j = meets (2 ^ n) A (layer_of S j) || still (2 ^ n) S.R S.B j

-- where the pass stands
pub record Passing (n limit : ℕ) (W X : View) (t b : ℕ) (S : Scene n W t b) (A : List Bool) (d x : ℕ) : Type 0 where
  pub layered : Layered n W X t b S d x
  pub fits : fit limit (needs_of S d) ≡ true
  pub before : NoneBelow (stops_at S A) d
  pub grew : still (2 ^ n) S.R S.B d ≡ false

-- ---- the least common state, of sets

-- whether a state is in an arrow's set
pub set_holds : (n : ℕ) (X : View) {x : ℕ} (A : List Bool) → 2 * n ≡ 2 * X.header BITS → Denotes (2 * n) (rows_of X) x (fn_of n A)
    → (s : ℕ) → s < 2 ^ n → holds_at X x s 0 ≡ mem A s
set_holds n X {x} A e d s l =
    subst (λ (m : ℕ). den m (rows_of X) x (pair_val s 0) ≡ mem A s) e (d.same (pair_val s 0) ∙ ap (mem A) (now_of-pair_val n s 0 l))

pub both-mem : (n : ℕ) (W X : View) {a x : ℕ} (A L : List Bool) → 2 * n ≡ 2 * X.header BITS → Denotes (2 * n) (rows_of X) a (fn_of n A)
    → Denotes (2 * n) (rows_of X) x (fn_of n L)
    → (s : ℕ) → s < 2 ^ n → in_both X a x s ≡ (mem A s && mem L s)
both-mem n W X A L e da dx s l = ap₂ ◌&&◌ (set_holds n X A e da s l) (set_holds n X L e dx s l)

-- what a walk asks
pub holds-pre : {n N limit : ℕ} {X : View} {a : ℕ} → Base n N limit X → Arrow (rows_of X) a → HoldsPre X a
holds-pre p u = record { mark = record { base = sound-base p.sound; arrow = u }; bits = p.sound.good.sizes.n_max }

module _ {n N limit : ℕ} {W : View} {t a b : ℕ} (p : PassPre n N limit W t a b) where
  -- nothing before the last layer ends the pass, so what passed is before it
  before_last : (S : Scene n W t b) (A : List Bool) (i : ℕ) → NoneBelow (stops_at S A) i → i ≤ last_of S A
  before_last S A i h =
      let l = last-lt (2 ^ n) S.R A S.B S.sized in
      let g : i
      < suc (last_of S A) =
      lt_of_not-le (λ s. true≢false (sym (true_of _ (first_found (suc (suc (2 ^ n))) (stops_at S A) l)) ∙ h (last_of S A) s)) in
      omega arith

  pub pass_starts : (S : Scene n W t b) (A : List Bool) → Passing n limit W W t b S A 0 b
  pass_starts S A = record { layered = layered_start p.start S; fits = refl; before = λ j l. absurd (omega arith); grew = refl }

  module _
      {X : View} {d x : ℕ}
      (q : (S : Scene n W t b) (A : List Bool) → Denotes (2 * n) (rows_of W) a (fn_of n A) → Passing n limit W X t b S A d x) where
    here-is : Passing n limit W X t b p.scene p.A d x
    here-is = q p.scene p.A p.from

    pub pass_base : Base n N limit X
    pass_base = layered_base p.start here-is.layered

    pub pass_walks : HoldsPre X a × HoldsPre X x × (n ≤ 16)
    pass_walks =
        let e = pass_base.ready.levels-is in
        let m = pass_base.sound.good.sizes.n_max in (
          holds-pre pass_base (keeps_denotes here-is.layered.kept p.a_live p.from).arrow,
          holds-pre pass_base here-is.layered.layer-is.arrow,
          omega arith,
        )

    module _ {s : ℕ} (es : s ≡ first_of (2 ^ n) (in_both X a x)) (S : Scene n W t b) (A : List Bool)
        (from : Denotes (2 * n) (rows_of W) a (fn_of n A)) where
      abbrev now : Passing n limit W X t b S A d x
      now = q S A from

      least-is : s ≡ common (2 ^ n) A (layer_of S d)
      least-is = es ∙ first-same (2 ^ n) (in_both X a x) (λ u. mem A u && mem (layer_of S d) u)
          (both-mem n W X A (layer_of S d) pass_base.ready.levels-is (keeps_denotes now.layered.kept p.a_live from)
          now.layered.layer-is)

      -- the layer shares a state with A
      pub pass_meets : s < 2 ^ n → Passed n limit W X t b S A (met d s)
      pass_meets l =
          let m : meets (2 ^ n) A (layer_of S d)
          ≡ true = true_of _ (lt→ltb (common (2 ^ n) A (layer_of S d)) (2 ^ n) (subst (λ (c : ℕ). c < 2 ^ n) least-is l)) in
          let lt : d < suc (suc (2 ^ n)) = let h = before_last S A d now.before in
          let k = last-lt (2 ^ n) S.R A S.B S.sized in omega arith in
          let z : last_of S A
          ≡ d = first-is (suc (suc (2 ^ n))) (stops_at S A) d lt
          (subst (λ (c : Bool). T (c || still (2 ^ n) S.R S.B d)) (sym m) tt) now.before in
          record {
            steps = record { moved = now.layered.moved; kept = now.layered.kept };
            ends = (
              sym z,
              ap (λ (i : ℕ). meets (2 ^ n) A (layer_of S i)) z ∙ m,
              ap (λ (i : ℕ). fit limit (needs_of S i)) z ∙ now.fits,
              least-is ∙ ap (λ (i : ℕ). common (2 ^ n) A (layer_of S i)) (sym z),
            );
          }

      module _ (l : 2 ^ n ≤ s) where
        apart : meets (2 ^ n) A (layer_of S d) ≡ false
        apart = false_of _ (λ h. let g = ltb→lt (common (2 ^ n) A (layer_of S d)) (2 ^ n) h in let e = least-is in omega arith)

        passed : NoneBelow (stops_at S A) (d + 1)
        passed = none-next (stops_at S A) d now.before (ap₂ ◌||◌ apart now.grew)

        module _ {Y : View} {o : Result Taken Full} (v : NextPost n N limit X Y t b x o) where
          after : Steps n W Y
          after = record { moved = moved_on p.start now.layered v; kept = all-kept p.start now.layered v }

          -- the next layer is full
          pub pass_full : o ≡ ran_out → Passed n limit W Y t b S A (Err (record {}))
          pass_full e =
              let h = before_last S A (d + 1) passed in
              record { steps = after; ends = full-after limit S d (last_of S A) (omega arith) (layered_full p.start now.layered v e) }

          module _ {y : ℕ} {c : Count} (e : o ≡ taken y c) where
            next : Layered n W Y t b S (suc d) y
            next = (layered_next p.start now.layered v e).0

            next_fits : fit limit (needs_of S (suc d)) ≡ true
            next_fits = fits_next limit S d ∙ ap₂ ◌&&◌ now.fits (layered_next p.start now.layered v e).1

            old : Denotes (2 * n) (rows_of Y) x (fn_of n (layer_of S d))
            old = keeps_denotes (last-kept p.start now.layered v) (append_right (filled X) (here refl)) now.layered.layer-is

            -- it is the one before
            pub pass_still : y ≡ x → Passed n limit W Y t b S A (Ok None)
            pass_still z =
                let t = arrow-same n N (after-wf p.start now.layered v) (layer_of S d) (layer_of S (suc d)) old next.layer-is
                (layer-sized S d) (layer-sized S (suc d)) z in
                let g : layer_of S (suc d) ≡ layer_of S d = same-eq _ _ t in
                let h = before_last S A (d + 1) passed in
                let k = last-lt (2 ^ n) S.R A S.B S.sized in
                let i : last_of S A
                ≡ suc d = first-is (suc (suc (2 ^ n))) (stops_at S A) (suc d) (omega arith)
                (or_right (meets (2 ^ n) A (layer_of S (suc d))) _ t) (λ j l. passed j (omega arith)) in
                record {
                  steps =
                      after;
                  ends = (
                    ap (λ (j : ℕ). meets (2 ^ n) A (layer_of S j)) i ∙ ap (meets (2 ^ n) A) g ∙ apart,
                    ap (λ (j : ℕ). fit limit (needs_of S j)) i ∙ next_fits,
                  );
                }

            -- or it grew
            pub pass_turns : y ≢ x → Passing n limit W Y t b S A (d + 1) y
            pass_turns ne =
                let f = arrow-apart n N (after-wf p.start now.layered v) (layer_of S d) (layer_of S (suc d)) old next.layer-is ne in
                let z : suc d ≡ d + 1 = omega arith in
                record {
                  layered = subst (λ (i : ℕ). Layered n W Y t b S i y) z next;
                  fits = subst (λ (i : ℕ). fit limit (needs_of S i) ≡ true) z next_fits;
                  before = passed;
                  grew = subst (λ (i : ℕ). still (2 ^ n) S.R S.B i ≡ false) z f;
                }

  -- the layers that passed are fewer than 2^n + 2
  pub pass_bound : {X : View} {d x : ℕ}
      → ((S : Scene n W t b) (A : List Bool) → Denotes (2 * n) (rows_of W) a (fn_of n A) → Passing n limit W X t b S A d x)
      → d < suc (suc (2 ^ n))
  pass_bound {d = d} q =
      let h = before_last p.scene p.A d (q p.scene p.A p.from).before in
      let k = last-lt (2 ^ n) p.scene.R p.A p.scene.B p.scene.sized in
      omega arith

  -- and there are at most 65,536 states
  pub pass_count : 2 ^ n ≤ 65_536
  pass_count = pow_mono (base-bits p.start.base)
