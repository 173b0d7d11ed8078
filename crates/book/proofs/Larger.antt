-- Bigger limits keep a verdict, the peak of a list of ticks tells a full one, and a larger bound on a binder's rounds keeps its ticks.
-- Assumes nothing.
use mathlib.Core.Path.{◌≡◌, refl, sym, ap, ◌∙◌, subst}
use mathlib.Core.Logic.{◌↔◌}
use mathlib.Core.Bool.{Bool, true, false, cond, ◌&&◌}
use mathlib.Core.List.Memᴰ.{head as here}
use mathlib.Core.List.{List, [], ◌∷◌, ◌++◌}
use Prim.Native.Nat.{ℕ, zero, suc, ◌*◌, ◌≤◌, ◌<◌, max}
use native.Mathlib.Omega.{arith}
use native.Mathlib.Nat.{lt_of_not-le}
use lib.Dec.{T, leb, leb→le, le→leb, ltb, ltb→lt, lt→ltb}
use Rattle.mucalculus.specs.Sets.{same}
use Rattle.mucalculus.proofs.Sets.{true_of, false_of}
use Rattle.mucalculus.specs.Order.{start}
use Rattle.mucalculus.proofs.Fixpoint.{iter}
use Rattle.mucalculus.specs.Form.{Form, Model, Env, reads, steady}
use Rattle.mucalculus.specs.Means.{size, exist}
use Rattle.mucalculus.specs.Binder.{body}
use Rattle.mucalculus.proofs.Binder.{round-ends}
use Rattle.mucalculus.proofs.Rounds.{iter_on, same_set}
use Rattle.accounts.specs.declared.Count.{Count}
use Rattle.accounts.specs.Count.{needing, another}
use Rattle.diagram.specs.Level.{Fn}
use Rattle.diagram.specs.Need.{need}
use Rattle.diagram.proofs.Needed.{need-not}
use Rattle.book.specs.Bridge.{fn_of}
use Rattle.book.proofs.Bridge.{fn_of-not}
use Rattle.book.specs.Ticks.{Tick, step, round, not_need, round_ticks, counted, full, spent, verdict, within_rounds, peak}
use Rattle.book.specs.Run.{fit}
use Rattle.book.proofs.Verdicts.{verdict-full, not_full, not-spent}

-- what is answered with some N and R is answered alike with more
pub verdict-more : (N M R S : ℕ) → N ≤ M → R ≤ S → (r : Count) (l : List Tick) (q : Count) → verdict N R r l ≡ counted q
    → verdict M S r l ≡ counted q
verdict-more N M R S i j r [] q e = e
verdict-more N M R S i j r (step k ∷ l) q e = go (leb k N) refl (verdict-more N M R S i j (needing r k) l q) e
  where
    go : (t : Bool) → leb k N ≡ t → (verdict N R (needing r k) l ≡ counted q → verdict M S (needing r k) l ≡ counted q)
        → cond t (verdict N R (needing r k) l) full ≡ counted q
        → cond (leb k M) (verdict M S (needing r k) l) full ≡ counted q
    go true u below h =
        let k≤N = leb→le k N (subst T (sym u) tt) in
        ap (λ (t : Bool). cond t (verdict M S (needing r k) l) full) (true_of (leb k M) (le→leb k M (omega arith))) ∙ below h
    go false u below h = absurd (not_full N R q h)
verdict-more N M R S i j r (round ∷ l) q e = go (ltb r.rounds R) refl (verdict-more N M R S i j (another r) l q) e
  where
    go : (t : Bool) → ltb r.rounds R ≡ t → (verdict N R (another r) l ≡ counted q → verdict M S (another r) l ≡ counted q)
        → cond t (verdict N R (another r) l) spent ≡ counted q
        → cond (ltb r.rounds S) (verdict M S (another r) l) spent ≡ counted q
    go true u below h =
        let r<R = ltb→lt r.rounds R (subst T (sym u) tt) in
        ap (λ (t : Bool). cond t (verdict M S (another r) l) spent) (true_of (ltb r.rounds S) (lt→ltb r.rounds S (omega arith)))
        ∙ below h
    go false u below h = absurd (not-spent N R q h)

-- every need is at most N exactly where the peak is
pub fit-peak : (N : ℕ) (ks : List ℕ) → fit N ks ≡ leb (peak ks) N
fit-peak N [] = sym (true_of (leb 0 N) (le→leb 0 N (omega arith)))
fit-peak N (k ∷ ks) = ap (λ (b : Bool). leb k N && b) (fit-peak N ks) ∙ go (leb k N) (leb (peak ks) N) refl refl
  where
    p : ℕ
    p = peak ks

    go : (s t : Bool) → leb k N ≡ s → leb p N ≡ t → (s && t) ≡ leb (max k p) N
    go true true u v =
        let x = leb→le k N (subst T (sym u) tt) in
        let y = leb→le p N (subst T (sym v) tt) in sym (true_of (leb (max k p) N) (le→leb (max k p) N (omega arith)))
    go true false u v =
        sym (false_of (leb (max k p) N) (λ t. let z = leb→le (max k p) N t in let y : T false = subst T v (le→leb p N (omega arith)) in y))
    go false t u v =
        sym (false_of (leb (max k p) N) (λ t. let z = leb→le (max k p) N t in let y : T false = subst T u (le→leb k N (omega arith)) in y))

-- "A call is full exactly when its peak, over the steps reached within its rounds, would pass N"
pub full-peak : (N R : ℕ) (r : Count) (l : List Tick) → (verdict N R r l ≡ full) ↔ (N < peak (within_rounds R r.rounds l))
full-peak N R r l =
    let w = verdict-full N R r l in
    let p = peak (within_rounds R r.rounds l) in (
      (λ e. lt_of_not-le (λ h. subst T (sym (fit-peak N (within_rounds R r.rounds l)) ∙ w.0 e) (le→leb p N h))),
      (λ h. w.1 (fit-peak N (within_rounds R r.rounds l) ∙ false_of (leb p N) (λ t. let z = leb→le p N t in absurd (omega arith)))),
    )

-- where j rounds leave a set that the next one keeps, a larger bound than j + 1 gives the same ticks
ticks-more : (h : List Bool → List Tick) (F : List Bool → List Bool) (j k : ℕ) → j ≤ k → (A : List Bool) → F (iter F j A) ≡ iter F j A
    → round_ticks h F (suc k) A ≡ round_ticks h F (suc j) A
ticks-more h F zero k l A e = ends (round_ticks h F k (F A)) ∙ sym (ends [])
  where
    ends : (more : List Tick) → round ∷ (h A ++ cond (same (F A) A) [] more) ≡ round ∷ (h A ++ [])
    ends more = ap (λ (t : Bool). round ∷ (h A ++ cond t [] more)) (same_set e)
ticks-more h F (suc j) zero l A e = absurd (omega arith)
ticks-more h F (suc j) (suc k) l A e =
    ap (λ (more : List Tick). round ∷ (h A ++ cond (same (F A) A) [] more))
    (ticks-more h F j k (omega arith) (F A) (subst (λ (B : List Bool). F B ≡ B) (sym (iter_on F j A)) e))

-- after check 6 any bound from 2^n + 1 on gives the same ticks
pub ticks_cap : (m : Model) (e : Env) (P : ℕ) (f : Form) → T (steady f) → T (reads true P f)
    → (b : Bool) (h : List Bool → List Tick) (k : ℕ) → size m ≤ k
    → round_ticks h (body m e P f) (suc k) (start b (size m) (exist m))
    ≡ round_ticks h (body m e P f) (suc (size m)) (start b (size m) (exist m))
ticks_cap m e P f s t b h k l = ticks-more h (body m e P f) (size m) k l (start b (size m) (exist m)) (round-ends m e P f s t b)

-- "NOT needs no new row": the step's need is that of what is live, its operand included
pub not_need_lem : (n : ℕ) (live : List Fn) (A : List Bool) → not_need n live A ≡ need (2 * n) (fn_of n A ∷ live)
not_need_lem n live A =
    ap (λ (F : Fn). need (2 * n) (F ∷ fn_of n A ∷ live)) (fn_of-not n A) ∙ need-not (2 * n) (fn_of n A) (fn_of n A ∷ live) (here refl)
