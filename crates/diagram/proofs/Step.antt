-- Laws of what specs/Step.antt defines. Assumes nothing.
use mathlib.Core.Path.{◌≡◌, refl, sym, ap, ap₂, ◌∙◌, subst, fun_ext}
use mathlib.Core.Logic.{⊎_elim}
use mathlib.Core.List.Memᴰ.{cases_cons as mem-cases}
use mathlib.Core.List.Memᴰ.{head as here}
use mathlib.Core.List.{List, ◌∷◌, map, Memᴰ as Mem}
use mathlib.Core.List.Memᴰ.{of_map as mem-of-map}
use Prim.Native.Nat.{ℕ, ◌≤◌, ◌<◌}
use native.Mathlib.Omega.{arith}
use Rattle.diagram.specs.Level.{Val, Fn}
use Rattle.diagram.proofs.Level.{Reads}
use Rattle.diagram.specs.Rows.{Rows, Arrow, den, WellFormed}
use Rattle.diagram.proofs.Grow.{same_well_formed}
use Rattle.diagram.specs.Used.{used_count}
use Rattle.diagram.specs.Need.{need, step_need}
use Rattle.diagram.proofs.Reach.{den_reads_all}
use Rattle.diagram.specs.Keep.{Keeps}
use Rattle.diagram.proofs.Keep.{keeps_arrow, keeps_denotes, keeps_map, keeps_trans, keeps_on, extends_keeps}
use Rattle.diagram.specs.Post.{Result, at, full, Denotes, OpPost}
use Rattle.diagram.proofs.Post.{denotes_extends, post_cong}
use Rattle.diagram.proofs.Fits.{need-le, try_full}
use Rattle.diagram.specs.Collect.{Collects}
use Rattle.diagram.proofs.Collect.{collects_keeps, collects_well_formed, collects-parts, collects-count}
use Rattle.diagram.specs.Step.{StepPost, Leaves, counted, freed, Settled, ran_out, few-used, few_reached, many_reached}

-- What the last try's answer means: an arrow for F, or too few rows.
abbrev TryResult : ℕ → ℕ → Rows → Rows → List ℕ → Result → Fn → Type 0
TryResult m limit before tried roots (at a) F = Denotes m tried a F
TryResult m limit before tried roots full F = limit < step_need m (map (den m before) roots) F

-- What the last try leaves.
record Tried (m N limit : ℕ) (before tried : Rows) (roots : List ℕ) (answer : Result) (F : Fn) : Type 0 where
  wf : WellFormed m N tried
  kept : Keeps before tried roots
  result : TryResult m limit before tried roots answer F

-- The result and the roots, in the table that is left, need what F and the roots needed before.
pub same-need : {m : ℕ} {before after : Rows} {a : ℕ} {F : Fn} (roots : List ℕ) → Keeps before after roots → Denotes m after a F
    → need m (map (den m after) (a ∷ roots)) ≡ step_need m (map (den m before) roots) F
same-need {m} {before} {after} {a} {F} roots k d =
    let e : den m after a ≡ F = fun_ext d.same in
    ap₂ (λ (f : Fn) (fs : List Fn). need m (f ∷ fs)) e (keeps_map k m)

-- The rows that the result and the roots reach are as many as F and the roots needed before.
count-need : {m N : ℕ} {before tried clean : Rows} {a : ℕ} {F : Fn} (roots : List ℕ) → WellFormed m N tried → Keeps before tried roots
    → Denotes m tried a F
    → Collects tried clean (a ∷ roots) → used_count clean N ≡ step_need m (map (den m before) roots) F
count-need roots wf k d c =
    let l = collects_keeps c in
    collects-count wf c ∙ same-need roots (keeps_on k l) (keeps_denotes l (here refl) d)

module _ {m N limit : ℕ} {before tried : Rows} {F : Fn} (roots : List ℕ) where
  module _ {a : ℕ} (t : Tried m N limit before tried roots (at a) F) where
    arrows-tried : (b : ℕ) → Mem b (a ∷ roots) → Arrow tried b
    arrows-tried b h = ⊎_elim (λ e. subst (Arrow tried) (sym e) t.result.arrow) (keeps_arrow t.kept b) (mem-cases h)

    -- Where few rows are used, few are needed.
    need-used : step_need m (map (den m before) roots) F ≤ used_count tried N
    need-used =
        subst (λ n. n ≤ used_count tried N) (same-need roots t.kept t.result)
        (need-le t.wf (map (den m tried) (a ∷ roots)) (λ f h.
        let (b, mb, e) = mem-of-map (den m tried) (a ∷ roots) h in
        (b, record { arrow = arrows-tried b mb; same = λ v. ap (λ (g : Fn). g v) e })))

    -- The rows that are counted are as many as are needed.
    module _ {clean : Rows} (c : Collects tried clean (a ∷ roots)) where
      need_reached : used_count clean N ≡ step_need m (map (den m before) roots) F
      need_reached = count-need roots t.wf t.kept t.result c

      left-wf : {after : Rows} → Leaves tried clean after → WellFormed m N after
      left-wf (counted s) = same_well_formed s t.wf
      left-wf (freed s) = same_well_formed s (collects_well_formed t.wf c)

      left-kept : {after : Rows} → Leaves tried clean after → Keeps tried after (a ∷ roots)
      left-kept (counted s) = extends_keeps t.wf arrows-tried s.forth
      left-kept (freed s) =
          let k = collects_keeps c in
          keeps_trans k (extends_keeps (collects_well_formed t.wf c) (keeps_arrow k) s.forth)

  -- A settled try is a step.
  settle : {after : Rows} {part answer : Result} → Tried m N limit before tried roots part F → Settled N limit tried after roots part answer
      → StepPost m N limit before after roots answer F
  settle t (ran_out s) = record {
    wf = same_well_formed s t.wf;
    kept = keeps_trans t.kept (extends_keeps t.wf (keeps_arrow t.kept) s.forth);
    result = t.result;
  }
  settle t (few-used h s) = record {
    wf = same_well_formed s t.wf;
    kept = keeps_trans t.kept (extends_keeps t.wf (keeps_arrow t.kept) s.forth);
    result = (denotes_extends t.wf s.forth t.result, let n = need-used t in omega (arith, h, n));
  }
  settle t (few_reached c h s) =
      let k = left-kept t c s in
      record {
        wf = left-wf t c s;
        kept = keeps_on t.kept k;
        result = (keeps_denotes k (here refl) t.result, subst (λ n. n ≤ limit) (need_reached t c) h);
      }
  settle t (many_reached c h s) = record {
    wf = left-wf t c s;
    kept = keeps_on t.kept (left-kept t c s);
    result = subst (λ n. limit < n) (need_reached t c) h;
  }

module _ {m N limit : ℕ} {before : Rows} {F : Fn} (roots : List ℕ) (wf : WellFormed m N before)
    (arrows : (a : ℕ) → Mem a roots → Arrow before a) where
  -- The first try answers.
  pub step-first : {tried after : Rows} {a : ℕ} {answer : Result} → OpPost m N limit before tried (at a) F
      → Settled N limit tried after roots (at a) answer → StepPost m N limit before after roots answer F
  step-first p s = settle roots (record { wf = p.wf; kept = extends_keeps wf arrows p.kept; result = p.result }) s

  -- It ran out; the table is collected, and the step tried again, as G, what F is there.
  module _ {mid clean : Rows} (p : OpPost m N limit before mid full F) (c : Collects mid clean roots) where
    clean-wf : WellFormed m N clean
    clean-wf = collects_well_formed p.wf c

    clean_keeps : Keeps before clean roots
    clean_keeps = keeps_trans (extends_keeps wf arrows p.kept) (collects_keeps c)

    again_result : {tried : Rows} (answer : Result) → Reads 0 m F → OpPost m N limit clean tried answer F
        → TryResult m limit before tried roots answer F
    again_result (at a) r q = q.result
    again_result full r q =
        subst (λ fs. limit < need m (F ∷ fs)) (keeps_map clean_keeps m)
        (try_full clean-wf (map (den m clean) roots)
        (λ f h. ⊎_elim (λ e. subst (λ g. Reads 0 m g) (sym e) r)
        (λ g.
        let (a, ma, e) = mem-of-map (den m clean) roots g in
        subst (λ k. Reads 0 m k) e (den_reads_all clean-wf a (keeps_arrow clean_keeps a ma)))
        (mem-cases h))
        (collects-parts p.wf c) q)

    pub step_again : {tried after : Rows} {part answer : Result} {G : Fn} → ((v : Val) → G v ≡ F v) → Reads 0 m F
        → OpPost m N limit clean tried part G → Settled N limit tried after roots part answer
        → StepPost m N limit before after roots answer F
    step_again {part = part} e r q' s =
        let q = post_cong e q' in
        settle roots (record {
          wf = q.wf;
          kept = keeps_trans clean_keeps (extends_keeps clean-wf (keeps_arrow clean_keeps) q.kept);
          result = again_result part r q;
        }) s
