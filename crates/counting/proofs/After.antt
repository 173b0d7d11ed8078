-- AND with the constant 1 right after a step: its answer is that step's, in the same table, and it needs no more. Assumes nothing.
use Rattle.std.specs.Prelude.{Result}
use mathlib.Core.Path.{◌≡◌, refl, sym, ap, ap₂, ◌∙◌, subst, fun_ext}
use mathlib.Core.Logic.{⊎_elim}
use mathlib.Core.Bool.{Bool, true, false, ◌&&◌}
use mathlib.Core.List.Memᴰ.{head as here}
use mathlib.Core.List.Memᴰ.{tail as there}
use mathlib.Core.List.{List, [], ◌∷◌, ◌++◌, map, Memᴰ as Mem}
use mathlib.Core.List.Memᴰ.{append_cases}
use mathlib.Core.List.Memᴰ.{cases_cons as mem-cases}
use mathlib.Core.List.Memᴰ.{not-nil as mem-nil}
use mathlib.Core.List.Memᴰ.{append_left}
use mathlib.Core.List.Memᴰ.{append_right}
use mathlib.Core.List.Memᴰ.{cast as mem_cast}
use mathlib.Core.List.Memᴰ.{map as mem-map}
use mathlib.Core.List.Memᴰ.{of_map as mem-of-map}
use Prim.Native.Nat.{ℕ, ◌≤◌, max}
use native.Mathlib.Omega.{arith}
use Rattle.accounts.specs.declared.Count.{Count}
use Rattle.accounts.specs.Count.{needing}
use Rattle.diagram.specs.Level.{Fn}
use Rattle.diagram.specs.Rows.{Rows, target, Arrow, den, WellFormed}
use Rattle.diagram.proofs.Den.{den-one}
use Rattle.diagram.specs.Count.{Within}
use Rattle.diagram.specs.Need.{need, step_need}
use Rattle.diagram.proofs.Needed.{need_mono}
use Rattle.diagram.specs.Keep.{Keeps}
use Rattle.diagram.proofs.Keep.{keeps_map, keeps_within, keeps_refl}
use Rattle.diagram.proofs.Sizes.{need-outside}
use Rattle.diagram.specs.Steps.{and_f}
use Rattle.layout.specs.View.{View}
use Rattle.rows.specs.Used.{rows_of}
use Rattle.rows.specs.Filled.{filled}
use Rattle.collect.specs.Lent.{live}
use Rattle.operations.proofs.Work.{op_refl, ready-wf}
use Rattle.steps.specs.Steps.{operands_of, live_at, step_f, StepPre}
use Rattle.steps.proofs.Steps.{live-arrows, live_same}
use Rattle.steps.specs.declared.Step.{Step}
use Rattle.steps.specs.declared.Step.TheVariants.{And}
use Rattle.table.specs.declared.Full.{Full}
use Rattle.counting.proofs.Sizes.{outside-none}
use Rattle.counting.specs.Taken.{taken}
use Rattle.counting.specs.Peak.{TakenPost}
use Rattle.counting.specs.declared.Taken.{Taken}

-- fewer arrows need no more
fewer : (m : ℕ) (rows : Rows) (xs ys : List ℕ) → Within xs ys → need m (map (den m rows) xs) ≤ need m (map (den m rows) ys)
fewer m rows xs ys w =
    need_mono m (map (den m rows) xs) (map (den m rows) ys)
    (λ g h. let (a, ma, e) = mem-of-map (den m rows) xs h in mem_cast (sym e) (mem-map (den m rows) (w a ma)))

-- what is counted already raises nothing
counted_already : (q : Count) (k : ℕ) → k ≤ q.peak → q ≡ needing q k
counted_already q k l = let m : q.peak ≡ max q.peak k = omega (arith, l) in ap (λ (p : ℕ). record { rounds = q.rounds; peak = p }) m

module _ {m N limit : ℕ} {W X : View} {roots c : List ℕ}
    {s : Step} {q1 : Count} {b v : ℕ} (q : Count) (p : TakenPost m N limit W X roots c s q (taken b q1))
    (n : StepPre m N limit X roots (And b v)) (e : v ≡ 1) where
  abbrev rows : Rows
  rows = rows_of X

  abbrev F : Fn
  F = step_f m (rows_of W) s

  wf : WellFormed m N rows
  wf = ready-wf n.ready

  arrows : (a : ℕ) → Mem a (live X roots) → Arrow rows a
  arrows = live-arrows roots n.sound n.arrows

  before-arrows : (a : ℕ) → Mem a (b ∷ live X roots) → Arrow rows a
  before-arrows a h = ⊎_elim (λ i. subst (Arrow rows) (sym i) n.fits.0) (arrows a) (mem-cases h)

  kept : Keeps (rows_of W) rows (live W roots)
  kept = keeps_within
      (λ a h. ⊎_elim (λ i. append_left (roots ++ operands_of s) i) (λ i. append_right (filled W) (append_left (operands_of s) i))
      (append_cases (filled W) h)) p.0.post.kept

  same : map (den m rows) (b ∷ live X roots) ≡ F ∷ map (den m (rows_of W)) (live W roots)
  same = ap₂ ◌∷◌ (fun_ext p.0.post.result.0.same) (ap (map (den m rows)) (live_same p.0.frame roots) ∙ keeps_map kept m)

  need-before : need m (map (den m rows) (b ∷ live X roots)) ≤ step_need m (map (den m (rows_of W)) (live_at W roots s)) F
  need-before =
      let l = need_mono m (F ∷ map (den m (rows_of W)) (live W roots)) (F ∷ map (den m (rows_of W)) (live_at W roots s))
      (λ g h. ⊎_elim (λ i. here i)
      (λ i. let (a, ma, z) = mem-of-map (den m (rows_of W)) (live W roots) i in there (mem_cast (sym z) (mem-map (den m (rows_of W))
      (⊎_elim (λ u. append_left (roots ++ operands_of s) u) (λ u. append_right (filled W) (append_left (operands_of s) u))
      (append_cases (filled W) ma)))))
      (mem-cases h))
      in
      let z = ap (need m) same in
      omega (arith, l, z)

  result-is : and_f (den m rows b) (den m rows v) ≡ den m rows b
  result-is =
      fun_ext
      (λ w. ap (λ (x : Bool). den m rows b w && x) (ap (λ (a : ℕ). den m rows a w) e ∙ den-one m rows w) ∙ and-true (den m rows b w))
    where
      and-true : (x : Bool) → (x && true) ≡ x
      and-true true = refl
      and-true false = refl

  need-now : step_need m (map (den m rows) (live_at X roots (And b v))) (and_f (den m rows b) (den m rows v))
      ≤ step_need m (map (den m (rows_of W)) (live_at W roots s)) F
  need-now =
      let f = fewer m rows (b ∷ live_at X roots (And b v)) (v ∷ b ∷ live X roots) (λ a h. ⊎_elim (λ i. there (here i))
      (λ i. ⊎_elim (λ u. there (there (append_left roots u)))
      (λ u. ⊎_elim (λ z. there (there (append_right (filled X) z)))
      (λ z. ⊎_elim (λ y. there (here y)) (λ y. ⊎_elim (λ x. here x) (λ x. absurd (mem-nil x)) (mem-cases y)) (mem-cases z))
      (append_cases roots u))
      (append_cases (filled X) i))
      (mem-cases h))
      in
      let o = need-outside {base = []} wf (b ∷ live X roots) before-arrows (λ a h. absurd (mem-nil h)) v 0 n.fits.1
      (outside-none (ap target e)) in
      let z = ap (λ (g : Fn). step_need m (map (den m rows) (live_at X roots (And b v))) g) result-is in
      let l = need-before in
      omega (arith, f, o, z, l)

  all : TakenPost m N limit X X roots c (And b v) q1 (taken b q1)
  all = (
    record {
      sound = n.sound;
      memory = n.ready.memory;
      frame = op_refl X;
      post = record {
        wf = wf;
        kept = keeps_refl wf (live-arrows (roots ++ b ∷ v ∷ []) n.sound (λ a h. ⊎_elim (n.arrows a) operands (append_cases roots h)));
        result = (
          record { arrow = n.fits.0; same = λ w. ap (λ (g : Fn). g w) (sym result-is) },
          let l = need-now in
              let h = p.0.post.result.1 in omega (arith, l, h),
        );
      };
    },
    p.1,
    counted_already q1 _ (let l = need-now in let h = ap (λ (x : Count). x.peak) p.2 in omega (arith, l, h)),
  )
    where
      operands : {a : ℕ} → Mem a (b ∷ v ∷ []) → Arrow rows a
      operands h =
          ⊎_elim (λ i. subst (Arrow rows) (sym i) n.fits.0)
          (λ t. ⊎_elim (λ i. subst (Arrow rows) (sym i) n.fits.1) (λ z. absurd (mem-nil z)) (mem-cases t)) (mem-cases h)

-- the same after the step's answer as it is told
pub and-all : {m N limit : ℕ} {W X : View} {roots c : List ℕ} {s : Step} {q1 : Count} {b v : ℕ} (q : Count) (o : Result Taken Full)
    → o ≡ taken b q1
    → TakenPost m N limit W X roots c s q o
    → StepPre m N limit X roots (And b v) → v ≡ 1 → TakenPost m N limit X X roots c (And b v) q1 (taken b q1)
and-all {m} {N} {limit} {W} {X} {roots} {c} {s} q o i p n e = all q
    (subst (λ (t : Result Taken Full). TakenPost m N limit W X roots c s q t) i p) n e
