-- Laws of what specs/Scene.antt defines. Assumes nothing.
use Rattle.std.specs.Prelude.{Result}
use mathlib.Core.Path.{◌≡◌, refl, sym, ◌∙◌, subst}
use mathlib.Core.Bool.{Bool, true, false, ◌&&◌}
use mathlib.Core.List.Memᴰ.{append_left}
use mathlib.Core.List.{List, [], ◌∷◌, ◌++◌, append-nil, Memᴰ as Mem}
use Prim.Native.Nat.{ℕ, zero, suc, ◌*◌, ◌≤◌, ◌<◌}
use native.Mathlib.Nat.{lt_of_not-le}
use native.Mathlib.Decide.{dec_le}
use native.Mathlib.Omega.{arith}
use lib.Dec.{T}
use Rattle.accounts.specs.declared.Count.{Count}
use Rattle.mucalculus.proofs.Sets.{length-table, and_out, false_of}
use Rattle.layout.specs.View.{View}
use Rattle.diagram.specs.Level.{Fn}
use Rattle.diagram.specs.Rows.{Rows, WellFormed}
use Rattle.diagram.specs.Post.{Denotes, at, full as no_rows}
use Rattle.diagram.specs.Keep.{Keeps}
use Rattle.diagram.proofs.Keep.{keeps_refl, keeps_trans, keeps_within, keeps_denotes}
use Rattle.rows.specs.Used.{rows_of}
use Rattle.rows.specs.Filled.{filled}
use Rattle.rows.proofs.Filled.{filled-arrow}
use Rattle.table.specs.Make.{result}
use Rattle.table.specs.declared.Full.{Full}
use Rattle.counting.specs.Taken.{taken, ran_out, made_in, count_in}
use Rattle.counting.specs.declared.Taken.{Taken}
use Rattle.operations.specs.Work.{OpFrame}
use Rattle.steps.proofs.Steps.{live_same}
use Rattle.book.specs.Bridge.{fn_of, Sized}
use Rattle.book.proofs.Bridge.{fn_of-even}
use Rattle.book.specs.Run.{needing_all, fit}
use Rattle.book.proofs.Verdicts.{fit_append}
use Rattle.book.specs.Held.{Held}
use Rattle.book.proofs.Held.{held_keeps}
use Rattle.book.specs.Pairs.{PairMatches}
use Rattle.modal.specs.Chain.{Base, Moved, Ran}
use Rattle.modal.proofs.Chain.{moved_refl, moved_trans, base-next, base-wf}
use Rattle.paths.specs.Runs.{layer_needs}
use Rattle.paths.proofs.Exact.{made-less}
use Rattle.layers.specs.Next.{NextPre, uncounted, NextPost}
use Rattle.layers.specs.Scene.{Scene, layer_of, needs_of, Start, Layered}

-- registers and relations are the same
pub filled-same : {W X : View} → OpFrame W X → filled X ≡ filled W
filled-same {W} {X} f = sym (append-nil (filled X)) ∙ live_same f [] ∙ append-nil (filled W)

pub layer-sized : {n : ℕ} {W : View} {t b : ℕ} (S : Scene n W t b) (i : ℕ) → Sized n (layer_of S i)
layer-sized S zero = S.sized
layer-sized S (suc i) = length-table _ _

pub matches_at : (n : ℕ) (rows : Rows) {F : Fn} {a : ℕ} (c q : Count) (b : Bool) → PairMatches n rows b F c (at a) q
    → (b ≡ true) × Denotes (2 * n) rows a F
matches_at n rows c q true m = (refl, m.0)
matches_at n rows c q false m = absurd m

pub matches_full : (n : ℕ) (rows : Rows) (F : Fn) (c q : Count) (b : Bool) → PairMatches n rows b F c no_rows q → b ≡ false
matches_full n rows F c q true m = absurd m
matches_full n rows F c q false m = refl

module _ {n N limit : ℕ} {W : View} {t b : ℕ} (p : Start n N limit W t b) where
  pub layered_start : (S : Scene n W t b) → Layered n W W t b S 0 b
  layered_start S =
      record { moved = moved_refl p.base; kept = keeps_refl (base-wf p.base) (filled-arrow p.base.sound); layer-is = S.goal }

  module _ {X : View} {i x : ℕ} {S : Scene n W t b} (q : Layered n W X t b S i x) where
    same-roots : filled X ≡ filled W
    same-roots = filled-same q.moved.frame

    pub layered_base : Base n N limit X
    layered_base = base-next p.base q.moved

    pub next-asks : NextPre n N limit X t b x
    next-asks = record {
      base = layered_base;
      t_live = subst (λ (xs : List ℕ). Mem t xs) (sym same-roots) p.t_live;
      b_live = subst (λ (xs : List ℕ). Mem b xs) (sym same-roots) p.b_live;
      operand = q.layer-is.arrow;
      even = λ v w h. q.layer-is.same v ∙ fn_of-even n (layer_of S i) v w h ∙ sym (q.layer-is.same w);
    }

    module _ {Y : View} {o : Result Taken Full} (s : NextPost n N limit X Y t b x o) where
      abbrev layer_needs_lem : List ℕ
      layer_needs_lem = layer_needs n S.fs S.R S.B (layer_of S i)

      abbrev Matches : Result Taken Full → Type 0
      Matches z =
          PairMatches n (rows_of Y) (fit limit layer_needs_lem) (fn_of n (layer_of S (suc i))) (needing_all (uncounted N) layer_needs_lem)
          (result (made_in z)) (count_in z)

      ran : Ran n N X Y (filled X ++ (x ∷ [])) (fit limit layer_needs_lem) (fn_of n (layer_of S (suc i))) (needing_all (uncounted N) layer_needs_lem) o
      ran = s S.fs S.R S.B (layer_of S i)
          (subst (λ (xs : List ℕ). Held (2 * n) (rows_of X) xs S.fs) (sym same-roots) (held_keeps S.held q.kept))
          (keeps_denotes q.kept p.t_live S.relation) (keeps_denotes q.kept p.b_live S.goal) q.layer-is

      kept_on : Keeps (rows_of W) (rows_of Y) (filled W)
      kept_on =
          keeps_trans q.kept
          (keeps_within (λ a h. append_left {s = filled X} (x ∷ []) (subst (λ (xs : List ℕ). Mem a xs) (sym same-roots) h))
          ran.evals.kept)

      pub moved_on : Moved n W Y
      moved_on = moved_trans q.moved ran.moved

      pub all-kept : Keeps (rows_of W) (rows_of Y) (filled W)
      all-kept = kept_on

      pub last-kept : Keeps (rows_of X) (rows_of Y) (filled X ++ (x ∷ []))
      last-kept = ran.evals.kept

      pub after-wf : WellFormed (2 * n) N (rows_of Y)
      after-wf = ran.evals.wf

      -- the next layer
      pub layered_next : {y : ℕ} {q : Count} → o ≡ taken y q
          → Layered n W Y t b S (suc i) y × (fit limit (layer_needs n S.fs S.R S.B (layer_of S i)) ≡ true)
      layered_next {q = q} e =
          let m = matches_at n (rows_of Y) (needing_all (uncounted N) layer_needs_lem) q (fit limit layer_needs_lem)
          (subst Matches e ran.evals.result) in
          (record { moved = moved_on; kept = kept_on; layer-is = m.1 }, m.0)

      -- it is full
      pub layered_full : o ≡ ran_out → fit limit (layer_needs n S.fs S.R S.B (layer_of S i)) ≡ false
      layered_full e =
          matches_full n (rows_of Y) (fn_of n (layer_of S (suc i))) (needing_all (uncounted N) layer_needs_lem) (count_in ran_out)
          (fit limit layer_needs_lem) (subst Matches e ran.evals.result)

-- ---- needs

module _ {n : ℕ} {W : View} {t b : ℕ} (limit : ℕ) (S : Scene n W t b) where
  -- one layer more
  pub fits_next : (i : ℕ)
      → fit limit (needs_of S (suc i)) ≡ (fit limit (needs_of S i) && fit limit (layer_needs n S.fs S.R S.B (layer_of S i)))
  fits_next i = fit_append limit (needs_of S i) (layer_needs n S.fs S.R S.B (layer_of S i))

  -- layers before one that fits, fit
  pub fits-before : (i j : ℕ) → i ≤ j → T (fit limit (needs_of S j)) → T (fit limit (needs_of S i))
  fits-before i zero h f = let z : 0 ≡ i = omega arith in subst (λ (k : ℕ). T (fit limit (needs_of S k))) z f
  fits-before i (suc j) h f = go (dec_le (suc j) i) (λ l. fits-before i j l (made-less n limit S.fs S.R S.B j f))
    where
      go : Dec (suc j ≤ i) → (i ≤ j → T (fit limit (needs_of S i))) → T (fit limit (needs_of S i))
      go (yes l) below = let z : suc j ≡ i = omega arith in subst (λ (k : ℕ). T (fit limit (needs_of S k))) z f
      go (no l) below = let g : i < suc j = lt_of_not-le l in below (omega arith)

  -- a layer that is full is full again for all after it
  pub full-after : (i j : ℕ) → i < j → fit limit (layer_needs n S.fs S.R S.B (layer_of S i)) ≡ false
      → fit limit (needs_of S j) ≡ false
  full-after i j l e = false_of (fit limit (needs_of S j)) (λ f.
      let g = subst T (fits_next i) (fits-before (suc i) j (omega arith) f) in
      subst T e (and_out (fit limit (needs_of S i)) _ g).1)
