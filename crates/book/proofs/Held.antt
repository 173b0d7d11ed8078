-- Laws of what specs/Held.antt defines. Assumes nothing.
use mathlib.Core.Path.{◌≡◌, refl, sym, ap, ◌∙◌, subst, fun_ext}
use mathlib.Core.Logic.{⊎_elim}
use mathlib.Core.Bool.{Bool, true, false, cond}
use mathlib.Core.List.Memᴰ.{cases_cons as mem-cases}
use mathlib.Core.List.Memᴰ.{head as here}
use mathlib.Core.List.Memᴰ.{tail as there}
use mathlib.Core.List.{List, ◌∷◌, map, Memᴰ as Mem}
use mathlib.Core.List.Memᴰ.{cast as mem_cast}
use mathlib.Core.List.Memᴰ.{map as mem-map}
use mathlib.Core.List.Memᴰ.{of_map as mem-of-map}
use Prim.Native.Nat.{ℕ, ◌*◌, ◌≤◌, ◌<◌}
use native.Mathlib.Omega.{arith}
use lib.Dec.{leb, le→leb, leb→le}
use Rattle.mucalculus.proofs.Sets.{true_of, false_of}
use Rattle.diagram.specs.Level.{Fn}
use Rattle.diagram.specs.Rows.{Rows, Arrow, den}
use Rattle.diagram.specs.Need.{need, step_need}
use Rattle.diagram.proofs.Needed.{need-same}
use Rattle.diagram.specs.Post.{Result, at, full as no_rows, Denotes}
use Rattle.diagram.specs.Keep.{Keeps}
use Rattle.diagram.proofs.Keep.{keeps_denotes}
use Rattle.diagram.specs.Step.{StepPost}
use Rattle.accounts.specs.declared.Count.{Count}
use Rattle.accounts.specs.Count.{needing}
use Rattle.book.specs.Run.{Outcome, full, step}
use Rattle.book.specs.Held.{Held}

-- what denotes f, denotes each function with the same values
pub denotes-same : {m : ℕ} {rows : Rows} {a : ℕ} {F G : Fn} → F ≡ G → Denotes m rows a F → Denotes m rows a G
denotes-same {m} {rows} {a} e d = subst (λ (H : Fn). Denotes m rows a H) e d

-- a function that is denoted is the one that the arrow denotes
pub denoted : {m : ℕ} {rows : Rows} {a : ℕ} {F : Fn} → Denotes m rows a F → den m rows a ≡ F
denoted d = fun_ext d.same

module _ {m : ℕ} {rows : Rows} {roots : List ℕ} {live : List Fn} (h : Held m rows roots live) where
  pub held-arrow : (a : ℕ) → Mem a roots → Arrow rows a
  held-arrow a i = let (f, j, d) = h.only a i in d.arrow

  -- one value more on both sides
  pub held-push : {a : ℕ} {F : Fn} → Denotes m rows a F → Held m rows (a ∷ roots) (F ∷ live)
  held-push {a} {F} d = record {
    each = λ f i. ⊎_elim (λ e. (a, here refl, denotes-same (sym e) d)) (λ j. let (b, k, c) = h.each f j in (b, there k, c)) (mem-cases i);
    only = λ b i. ⊎_elim (λ e. (F, here refl, subst (λ (x : ℕ). Denotes m rows x F) (sym e) d))
        (λ j. let (f, k, c) = h.only b j in (f, there k, c)) (mem-cases i);
  }

  -- an operand that is live already, as a relation is
  pub held-operand : {F : Fn} → Mem F live → Held m rows roots (F ∷ live)
  held-operand {F} k = record {
    each = λ f i. ⊎_elim (λ e. h.each f (mem_cast e k)) (λ j. h.each f j) (mem-cases i);
    only = λ b i. let (f, j, c) = h.only b i in (f, there j, c);
  }

  -- kept roots hold the same functions
  pub held_keeps : {after : Rows} → Keeps rows after roots → Held m after roots live
  held_keeps k = record {
    each = λ f i. let (a, j, d) = h.each f i in (a, j, keeps_denotes k j d);
    only = λ a i. let (f, j, d) = h.only a i in (f, j, keeps_denotes k i d);
  }

  -- the live functions are those that the roots denote
  live_of : (f : Fn) → Mem f (map (den m rows) roots) → Mem f live
  live_of f j =
      let (a, k, e) = mem-of-map (den m rows) roots j in
      let (g, l, d) = h.only a k in
      mem_cast (sym e ∙ denoted d) l

  root_of : (f : Fn) → Mem f live → Mem f (map (den m rows) roots)
  root_of f j =
      let (a, k, d) = h.each f j in
      mem_cast (sym (denoted d)) (mem-map (den m rows) k)

  -- so both need the same rows
  pub held_rows : need m (map (den m rows) roots) ≡ need m live
  held_rows = need-same m (map (den m rows) roots) live live_of root_of

  -- and a step needs the same over either
  pub held-need : (F : Fn) → step_need m (map (den m rows) roots) F ≡ step_need m live F
  held-need F = need-same m (F ∷ map (den m rows) roots) (F ∷ live)
      (λ f i. ⊎_elim (λ e. here e) (λ j. there (live_of f j)) (mem-cases i))
      (λ f i. ⊎_elim (λ e. here e) (λ j. there (root_of f j)) (mem-cases i))

-- the step was answered
abbrev pub answered : Result → Bool
answered (at a) = true
answered no_rows = false

-- go on where the step is answered
abbrev pub goes_on : Result → Outcome → Outcome
goes_on (at a) o = o
goes_on no_rows o = full

-- k is what an answered step needed: the rows of its result and of what is live
abbrev pub Needed : ℕ → Rows → List ℕ → Fn → Result → ℕ → Type 0
Needed m before roots F (at a) k = k ≡ step_need m (map (den m before) roots) F
Needed m before roots F no_rows k = Unit {0}

module _ (n N : ℕ) {limit : ℕ} {before after : Rows} {roots : List ℕ} {live : List Fn} {F : Fn} (h : Held (2 * n) before roots live) where
  -- a step is answered in the table exactly where its need in the book is at most `limit`
  pub step_fits : (answer : Result) → StepPost (2 * n) N limit before after roots answer F
      → leb (step_need (2 * n) live F) limit ≡ answered answer
  step_fits (at a) p =
      let k : step_need (2 * n) live F ≤ limit = subst (λ (x : ℕ). x ≤ limit) (held-need h F) p.result.1 in
      true_of (leb (step_need (2 * n) live F) limit) (le→leb (step_need (2 * n) live F) limit k)
  step_fits no_rows p =
      let k : limit < step_need (2 * n) live F = subst (λ (x : ℕ). limit < x) (held-need h F) p.result in
      false_of (leb (step_need (2 * n) live F) limit) (λ t. let l = leb→le (step_need (2 * n) live F) limit t in omega arith)

  -- what a step answers in the table is what it comes to in the book, its need counted
  pub step-taken : (answer : Result) → StepPost (2 * n) N limit before after roots answer F → (k : ℕ)
      → Needed (2 * n) before roots F answer k → (q : Count) (go : Count → Outcome)
      → step n limit live F q go ≡ goes_on answer (go (needing q k))
  step-taken answer p k e q go =
      ap (λ (b : Bool). cond b (go (needing q (step_need (2 * n) live F))) full) (step_fits answer p) ∙ pick answer e
    where
      pick : (answer : Result) → Needed (2 * n) before roots F answer k
          → cond (answered answer) (go (needing q (step_need (2 * n) live F))) full ≡ goes_on answer (go (needing q k))
      pick (at a) i = ap (λ (x : ℕ). go (needing q x)) (sym (i ∙ held-need h F))
      pick no_rows i = refl
