-- A binder whose body is its own variable, over the rows of any table and any V: the first set after one round, and no step.
-- Assumes nothing.
use mathlib.Core.Path.{◌≡◌, refl, subst}
use mathlib.Core.Bool.{Bool, true, false}
use mathlib.Core.List.{List, ◌∷◌}
use Prim.Native.Nat.{ℕ, ◌*◌, ◌^◌, ◌<◌}
use native.Mathlib.Omega.{arith}
use borrow.Author.Tests.{eq-eqb}
use Rattle.mucalculus.specs.Order.{Below, start}
use Rattle.mucalculus.specs.Form.{Model, Env, var, put}
use Rattle.mucalculus.proofs.Form.{bind}
use Rattle.mucalculus.specs.Means.{exist}
use Rattle.diagram.specs.Level.{Fn}
use Rattle.diagram.specs.Rows.{Rows, WellFormed}
use Rattle.diagram.specs.Post.{Denotes}
use Rattle.accounts.specs.declared.Count.{Count}
use Rattle.accounts.specs.Count.{nothing, another}
use Rattle.book.specs.Bridge.{fn_of}
use Rattle.book.specs.Over.{states}
use Rattle.book.specs.Run.{Outcome, loop, run}
use Rattle.book.specs.Held.{Held}
use Rattle.book.proofs.Held.{held-push}
use Rattle.book.specs.Follow.{ends, nine, Evals}
use Rattle.book.proofs.Follow.{evals-leaf, denotes_in}
use Rattle.book.proofs.Turns.{GoodOn, Turning, run-good, turn-start, turn_end, turn_out}
use Rattle.book.specs.Turns.{start_arrow}

-- w is V's arrow
module _ (m : Model) (N R : ℕ) (e : Env) (live : List Fn) (P : ℕ) {rows : Rows} {roots : List ℕ} (wf : WellFormed (2 * m.n) N rows)
    (h : Held (2 * m.n) rows roots live)
    (w : ℕ) (v : Denotes (2 * m.n) rows w (fn_of m.n (exist m))) where
  -- a round
  abbrev round : List Bool → Count → Outcome
  round A q = run (states m (put e P A)) N R (fn_of m.n A ∷ live) (var P) q

  good : GoodOn m.n (exist m) round
  good A q z a = run-good m N R (put e P A) (fn_of m.n A ∷ live) (var P) q

  -- below its binder P is the current set
  current : (A : List Bool) → A ≡ put e P A P
  current A = rw (eq-eqb P P refl)

  begun : (b : Bool)
      → Turning m.n N R (exist m) rows rows roots round (loop R round R (start b (2 ^ m.n) (exist m)) nothing) (start_arrow b w) nothing
  begun b = turn-start m.n N R (exist m) round good b nothing w v wf h

  -- one round is allowed
  ended : (b : Bool) → 0 < R
      → Evals m.n N rows rows roots (loop R round R (start b (2 ^ m.n) (exist m)) nothing) (ends (start_arrow b w) (another nothing))
  ended b l =
      let t = begun b in
      let d = subst (λ (A : List Bool). Denotes (2 * m.n) rows (start_arrow b w) (fn_of m.n A)) (current t.A) t.denotes in
      let i = subst (λ (A : List Bool). Below A (exist m)) (current t.A) t.exists in
      turn_end m.n N R (exist m) round good t l
      (evals-leaf m.n N (another nothing) wf (held-push h t.denotes) (denotes_in m.n N (put e P t.A P) (exist m) i d)) refl

  -- none is
  spent : (b : Bool) → R ≡ 0 → Evals m.n N rows rows roots (loop R round R (start b (2 ^ m.n) (exist m)) nothing) nine
  spent b z = turn_out m.n N R (exist m) round good (begun b) (omega arith)

  -- mu P. P has no state, nu P. P has those of V
  pub self-ends : (b : Bool) → 0 < R
      → Evals m.n N rows rows roots (run (states m e) N R live (bind b P (var P)) nothing) (ends (start_arrow b w) (another nothing))
  self-ends true = ended true
  self-ends false = ended false

  pub self-spent : (b : Bool) → R ≡ 0 → Evals m.n N rows rows roots (run (states m e) N R live (bind b P (var P)) nothing) nine
  self-spent true = spent true
  self-spent false = spent false
