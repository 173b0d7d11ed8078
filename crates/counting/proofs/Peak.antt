-- Laws of what specs/Peak.antt defines. Assumes nothing.
use mathlib.Core.Path.{◌≡◌, sym, ap, ◌∙◌, subst}
use mathlib.Core.Logic.{⊎_elim}
use mathlib.Core.Bool.{Bool, true}
use mathlib.Core.List.Memᴰ.{cases_cons as mem-cases}
use mathlib.Core.List.{List, [], ◌∷◌, ◌++◌, map, Memᴰ as Mem}
use mathlib.Core.List.Memᴰ.{append_cases}
use mathlib.Core.List.Memᴰ.{append_left}
use mathlib.Core.List.Memᴰ.{of_map as mem-of-map}
use Prim.Native.Nat.{ℕ, ◌+◌, ◌*◌, ◌≤◌, max}
use native.Mathlib.Nat.{max-eq_left}
use native.Mathlib.Omega.{arith}
use Rattle.accounts.specs.declared.Count.{Count}
use Rattle.diagram.specs.Level.{Fn}
use Rattle.diagram.specs.Rows.{Arrow, den}
use Rattle.diagram.specs.Need.{need}
use Rattle.diagram.proofs.Fits.{need-le}
use Rattle.diagram.proofs.Keep.{keeps_arrow, keeps_within}
use Rattle.diagram.specs.Sizes.{Reaches}
use Rattle.diagram.proofs.Sizes.{reaches_need, reaches_same}
use Rattle.diagram.proofs.Step.{same-need}
use Rattle.layout.specs.Places.{MAX_ROWS, BITS, USED}
use Rattle.layout.specs.View.{View}
use Rattle.rows.specs.Used.{rows_of}
use Rattle.rows.specs.Filled.{filled}
use Rattle.table.proofs.Count.{count-used}
use Rattle.std.specs.Prelude.{Result, Ok, Err}
use Rattle.table.specs.declared.Full.{Full}
use Rattle.table.specs.Full.{rows_out}
use Rattle.collect.specs.Lent.{live}
use Rattle.collect.specs.Answers.{FreePre}
use Rattle.operations.specs.Work.{Worked}
use Rattle.steps.specs.Steps.{operands_of, first_operand, second_operand, live_at, StepPre, Stepped, step_f}
use Rattle.steps.proofs.Steps.{operand-live, root_live, live-arrows, live_same}
use Rattle.steps.specs.Clean.{CleanPre}
use Rattle.steps.proofs.CleanLaws.{lent, to-live, to-lent}
use Rattle.steps.proofs.Again.{stepped-few}
use Rattle.steps.specs.declared.Step.{Step}
use Rattle.counting.specs.Taken.{taken, ran_out}
use Rattle.counting.specs.News.{ListNew}
use Rattle.counting.proofs.News.{list-more}
use Rattle.counting.specs.Counts.{COUNT_WORDS, CountsOf, Emptied}
use Rattle.counting.proofs.CountsLaws.{BaseMarked, reaches_le, base_keeps, counts_extends, emptied-counts, live-marked}
use Rattle.counting.specs.Bound.{WithinPost}
use Rattle.counting.proofs.Bound.{need-fewer}
use Rattle.counting.specs.Peak.{TakenPost, NotePost, StepCounted}

-- the count of what is live, as `count_live` makes it
pub live-counted : {W : View} {m₀ m₁ m₂ : List ℕ} {b j k : ℕ} (xs ys : List ℕ) → BaseMarked W m₀ → Reaches (rows_of W) (filled W) b
    → ListNew (rows_of W) m₀ m₁ xs j → ListNew (rows_of W) m₁ m₂ ys k → Reaches (rows_of W) (live W (xs ++ ys)) (b + j + k)
live-counted {W} {b = b} {j} {k} xs ys p c f g =
    let q : b + (j + k) ≡ b + j + k = omega arith in
    subst (λ (n : ℕ). Reaches (rows_of W) (live W (xs ++ ys)) n) q (live-marked p c (list-more xs ys f g)).number

pub live-le : {W : View} {xs : List ℕ} {n : ℕ} → FreePre W xs → Reaches (rows_of W) (live W xs) n → n ≤ MAX_ROWS
live-le {W} {xs} p r = reaches_le p.sound (live-arrows xs p.sound p.arrows) r

-- its steps: all that is used is at most the peak, or sizes are, or what is live is counted
module _ {W : View} {roots : List ℕ} {s : Step} {a : ℕ} (p : CleanPre W roots s a) where
  live_are : (b : ℕ) → Mem b (a ∷ live_at W roots s) → Arrow (rows_of W) b
  live_are b h = ⊎_elim
      (λ e. subst (Arrow (rows_of W)) (sym e) p.kept-arrow)
      (live-arrows (roots ++ operands_of s) p.sound (λ c g. ⊎_elim (p.arrows c) (p.operands c) (append_cases roots g)) b)
      (mem-cases h)

  pub note-used : {c : List ℕ} {peak u : ℕ} → CountsOf W c → u ≡ W.header USED → u ≤ peak → NotePost W c roots s a peak peak
  note-used k e l =
      let m = 2 * W.header BITS in
      let n = need-le p.sound.good.rows (map (den m (rows_of W)) (a ∷ live_at W roots s)) (λ f h.
      let (b, mb, q) = mem-of-map (den m (rows_of W)) (a ∷ live_at W roots s) h in
      (b, record { arrow = live_are b mb; same = λ v. ap (λ (g : Fn). g v) q }))
      in
      let c = count-used W p.sound.good.ranked in
      record { counts = k; raised = sym (max-eq_left (omega (arith, n, c, e, l))) }

  module _ {x y : ℕ} (ex : x ≡ first_operand s) (ey : y ≡ second_operand s) where
    pub note-within : {c : List ℕ} {peak : ℕ} {r : Bool} → WithinPost W c roots (x ∷ y ∷ a ∷ []) peak r → r ≡ true
        → NotePost W c roots s a peak peak
    note-within {c} {peak} {r} w t =
        let w' : WithinPost W c roots (lent s a) peak r = rw (ex, ey) at w in
        let n = need-fewer W (a ∷ live_at W roots s) (live W (roots ++ lent s a)) (to-lent ex ey p) in
        let f = w'.fits t in
        record { counts = w.counts; raised = sym (max-eq_left (omega (arith, n, f))) }

    pub note-counted : {c : List ℕ} (peak : ℕ) {n r : ℕ} → CountsOf W c → Reaches (rows_of W) (live W (roots ++ (x ∷ y ∷ a ∷ []))) n
        → r ≡ max peak n
        → NotePost W c roots s a peak r
    note-counted peak k t e =
        let t' = rw (ex, ey) at t in
        let same = reaches_same (to-live ex ey p) (λ b i l. to-lent ex ey p b) t' in
        record { counts = k; raised = e ∙ ap (max peak) (reaches_need p.sound.good.rows live_are same) }

module _ {m N limit : ℕ} {W X : View} {roots c : List ℕ} {s : Step} (p : StepPre m N limit W roots s) (k : CountsOf W c) where
  -- rows were only added
  pub counted-few : {o : Result ℕ Full} {a u : ℕ} → o ≡ Ok a → Worked m N limit W X o (step_f m (rows_of W) s) → u ≡ X.header USED
      → u ≤ limit → StepCounted m N limit W X roots c s (Ok a)
  counted-few e w q l = record { step = stepped-few p e w q l; counts = counts_extends p.sound w.frame w.post.kept k }

  -- rows were freed, and the sizes forgotten
  pub counted-freed : {d : List ℕ} {o : Result ℕ Full} → Emptied c d COUNT_WORDS → Stepped m N limit W X roots s o
      → StepCounted m N limit W X roots d s o
  counted-freed z t =
      let kept = keeps_within (λ a h. append_left (roots ++ operands_of s) h) t.post.kept in
      record { step = t; counts = emptied-counts z (base_keeps t.frame kept k.base) }

-- the steps of `take`
module _ {m N limit : ℕ} {W X : View} {roots c : List ℕ} {s : Step} {o : Result ℕ Full} (t : StepCounted m N limit W X roots c s o) where
  pub taken-full : (q : Count) → o ≡ Err rows_out → TakenPost m N limit W X roots c s q ran_out
  taken-full q e = (rw e at t.step, t.counts, tt)

  module _ {a : ℕ} (e : o ≡ Ok a) where
    answered : Stepped m N limit W X roots s (Ok a)
    answered = rw e at t.step

    pub note-pre : CleanPre X roots s a
    note-pre = record {
      sound = answered.sound;
      arrows = λ b h. keeps_arrow answered.post.kept b (root_live W roots s b h);
      operands = λ b h. keeps_arrow answered.post.kept b (operand-live W roots s b h);
      kept-arrow = answered.post.result.0.arrow;
    }

    pub taken_at : {d : List ℕ} (q : Count) {r : ℕ} → StepPre m N limit W roots s → NotePost X d roots s a q.peak r
        → TakenPost m N limit W X roots d s q (taken a (record { rounds = q.rounds; peak = r }))
    taken_at q {r} p n =
        let f = answered.frame in
        let em : m
        ≡ 2 * X.header BITS = p.ready.levels-is
        ∙ ap (λ (b : ℕ). 2 * b) (sym (f.header BITS (omega arith) (omega arith) (omega arith) (omega arith))) in
        let h : r ≡ max q.peak (need (2 * X.header BITS) (map (den (2 * X.header BITS) (rows_of X)) (a ∷ live_at W roots s))) =
        rw (← live_same f (roots ++ operands_of s)) n.raised in
        let l : r ≡ max q.peak (need m (map (den m (rows_of X)) (a ∷ live_at W roots s))) =
        subst (λ (b : ℕ). r ≡ max q.peak (need b (map (den b (rows_of X)) (a ∷ live_at W roots s)))) (sym em) h in
        let k = l ∙ ap (max q.peak) (same-need (live_at W roots s) answered.post.kept answered.post.result.0) in
        (answered, n.counts, ap (λ (x : ℕ). record { rounds = q.rounds; peak = x }) k)
