-- A diamond's loop of EXISTS over arrows, from level 2n − 1 down to 1, follows the book's. Assumes nothing.
use mathlib.Core.Path.{◌≡◌, refl, sym, ap, ◌∙◌, subst}
use mathlib.Core.List.{List, ◌∷◌}
use Prim.Native.Nat.{ℕ, suc, ◌*◌}
use Rattle.diagram.specs.Level.{Fn}
use Rattle.diagram.specs.Rows.{Rows, den, WellFormed}
use Rattle.diagram.specs.Post.{Result, at, full as no_rows, Denotes}
use Rattle.diagram.specs.Keep.{Keeps}
use Rattle.diagram.proofs.Keep.{keeps_on}
use Rattle.diagram.specs.Step.{StepPost}
use Rattle.diagram.specs.Steps.{exists_f}
use Rattle.accounts.specs.declared.Count.{Count}
use Rattle.accounts.specs.Count.{needing}
use Rattle.book.specs.Diamond.{exists_next}
use Rattle.book.specs.Run.{Outcome, full, exists_steps}
use Rattle.book.specs.Held.{Held}
use Rattle.book.proofs.Held.{denotes-same, denoted, held-push, held_keeps, Needed, step-taken}

-- a step's promise for F is one for each function with the same values
step_same : {m N limit : ℕ} {before after : Rows} {roots : List ℕ} {answer : Result} {F G : Fn} → F ≡ G
    → StepPost m N limit before after roots answer F
    → StepPost m N limit before after roots answer G
step_same {m} {N} {limit} {before} {after} {roots} {answer} e p = subst (λ (H : Fn). StepPost m N limit before after roots answer H) e p

-- so is what it needed
needed-same : (m : ℕ) (before : Rows) (roots : List ℕ) (answer : Result) (k : ℕ) {F G : Fn} → F ≡ G → Needed m before roots F answer k
    → Needed m before roots G answer k
needed-same m before roots answer k e x = subst (λ (H : Fn). Needed m before roots H answer k) e x

-- where the loop of EXISTS stands, j levels being left, c the arrow so far and q counted so far, p before the loop: the loop's invariant
pub record Quantifies (n N limit : ℕ) (before rows : Rows) (roots : List ℕ) (live : List Fn)
    (C : Fn) (p : Count) (j c : ℕ) (q : Count) : Type 0 where
  pub F : Fn
  pub wf : WellFormed (2 * n) N rows
  pub kept : Keeps before rows roots
  pub denotes : Denotes (2 * n) rows c F
  pub rest : exists_next n C ≡ exists_next j F
  pub steps : (go : Count → Outcome) → exists_steps n limit live n C p go ≡ exists_steps n limit live j F q go

module _ (n N limit : ℕ) {before : Rows} {roots : List ℕ} {live : List Fn} (h : Held (2 * n) before roots live) where
  pub quantify-start : {rows : Rows} {c : ℕ} {C : Fn} (p : Count) → WellFormed (2 * n) N rows → Keeps before rows roots
      → Denotes (2 * n) rows c C
      → Quantifies n N limit before rows roots live C p n c p
  quantify-start {C = C} p wf k d = record { F = C; wf = wf; kept = k; denotes = d; rest = refl; steps = λ go. refl }

  -- one level less
  pub quantify-on : {rows after : Rows} {C : Fn} {p q : Count} (j c d : ℕ) → Quantifies n N limit before rows roots live C p (suc j) c q
      → StepPost (2 * n) N limit rows after (c ∷ roots) (at d) (exists_f (suc (2 * j)) (den (2 * n) rows c))
      → (k : ℕ) → Needed (2 * n) rows (c ∷ roots) (exists_f (suc (2 * j)) (den (2 * n) rows c)) (at d) k
      → Quantifies n N limit before after roots live C p j d (needing q k)
  unfolding exists_next
  quantify-on {rows} {q = q} j c d i p' k x' =
      let same = ap (exists_f (suc (2 * j))) (denoted i.denotes) in
      let p = step_same same p' in
      let x = needed-same (2 * n) rows (c ∷ roots) (at d) k same x' in
      let g = held-push (held_keeps h i.kept) i.denotes in
      record {
        F = exists_f (suc (2 * j)) i.F;
        wf = p.wf;
        kept = keeps_on i.kept p.kept;
        denotes = p.result.0;
        rest = i.rest;
        steps = λ go. i.steps go ∙ step-taken n N g (at d) p k x q (λ y. exists_steps n limit live j (exists_f (suc (2 * j)) i.F) y go);
      }

  -- the rows ran out
  pub quantify_out : {rows after : Rows} {C : Fn} {p q : Count} (j c : ℕ) → Quantifies n N limit before rows roots live C p (suc j) c q
      → StepPost (2 * n) N limit rows after (c ∷ roots) no_rows (exists_f (suc (2 * j)) (den (2 * n) rows c)) → (go : Count → Outcome)
      → exists_steps n limit live n C p go ≡ full
  quantify_out {q = q} j c i p' go =
      let p = step_same (ap (exists_f (suc (2 * j))) (denoted i.denotes)) p' in
      let g = held-push (held_keeps h i.kept) i.denotes in
      i.steps go ∙ step-taken n N g no_rows p 0 tt q (λ y. exists_steps n limit live j (exists_f (suc (2 * j)) i.F) y go)

  -- no level is left
  pub quantify-end : {rows : Rows} {C : Fn} {p q : Count} {c : ℕ} → Quantifies n N limit before rows roots live C p 0 c q
      → Denotes (2 * n) rows c (exists_next n C)
  unfolding exists_next
  quantify-end i = denotes-same (sym i.rest) i.denotes
