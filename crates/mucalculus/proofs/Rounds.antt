-- Laws of what specs/Rounds.antt defines. Assumes nothing.
use mathlib.Core.Path.{◌≡◌, refl, sym, ap, ◌∙◌, subst}
use mathlib.Core.Logic.{◌⊎◌, inl, inr}
use mathlib.Core.Bool.{Bool, true, false, cond}
use mathlib.Core.List.{List}
use Prim.Native.Nat.{ℕ, zero, suc, ◌+◌, ◌≤◌, zero-le}
use native.Mathlib.Omega.{arith}
use native.Mathlib.Nat.{suc-ne-zero}
use lib.Dec.{T}
use Rattle.mucalculus.specs.Sets.{same}
use Rattle.mucalculus.proofs.Sets.{same_refl, true_of}
use Rattle.mucalculus.specs.Order.{start}
use Rattle.mucalculus.proofs.Fixpoint.{iter}
use Rattle.mucalculus.specs.Form.{Form, bot, top, neg, conj, disj, now, next, var, reg, box, dia, mu, nu, until, Model, Env, put}
use Rattle.mucalculus.specs.Form.{reads, steady}
use Rattle.mucalculus.specs.Means.{size, exist, related, means}
use Rattle.mucalculus.specs.Until.{onward}
use Rattle.mucalculus.specs.Binder.{body}
use Rattle.mucalculus.proofs.Binder.{round-ends}
use Rattle.mucalculus.specs.Rounds.{runs, rounds}

-- how many binders the formula has; until is one
abbrev pub binders : Form → ℕ
binders bot = zero
binders top = zero
binders (neg f) = binders f
binders (conj f g) = binders f + binders g
binders (disj f g) = binders f + binders g
binders (now p) = zero
binders (next p) = zero
binders (var P) = zero
binders (reg r) = zero
binders (box t f) = binders f
binders (dia t f) = binders f
binders (mu P f) = suc (binders f)
binders (nu P f) = suc (binders f)
binders (until b t f g) = suc (binders g + binders f)

rounds-none : (m : Model) (e : Env) (f : Form) → binders f ≡ zero → rounds m e f ≡ zero
rounds-none m e bot h = refl
rounds-none m e top h = refl
rounds-none m e (neg f) h = rounds-none m e f h
rounds-none m e (conj f g) h = omega (arith, rounds-none m e f (omega arith), rounds-none m e g (omega arith))
rounds-none m e (disj f g) h = omega (arith, rounds-none m e f (omega arith), rounds-none m e g (omega arith))
rounds-none m e (now p) h = refl
rounds-none m e (next p) h = refl
rounds-none m e (var P) h = refl
rounds-none m e (reg r) h = refl
rounds-none m e (box t f) h = rounds-none m e f h
rounds-none m e (dia t f) h = rounds-none m e f h
rounds-none m e (mu P f) h = absurd (suc-ne-zero (binders f) h)
rounds-none m e (nu P f) h = absurd (suc-ne-zero (binders f) h)
rounds-none m e (until b t f g) h = absurd (suc-ne-zero (binders g + binders f) h)

runs-bound : (F : List Bool → List Bool) (c : List Bool → ℕ) → ((A : List Bool) → c A ≡ zero) → (j : ℕ) (A : List Bool) → runs F c j A ≤ j
runs-bound F c h zero A = zero-le
runs-bound F c h (suc j) A = go (same (F A) A) (h A) (runs-bound F c h j (F A))
  where
    go : (t : Bool) → c A ≡ zero → runs F c j (F A) ≤ j → suc (c A) + cond t zero (runs F c j (F A)) ≤ suc j
    go true i l = omega arith
    go false i l = omega arith

one_of : (a b : ℕ) → a + b ≤ 1 → (a ≡ zero) ⊎ (b ≡ zero)
one_of zero b h = inl refl
one_of (suc a) b h = inr (omega arith)

two-bound : (m : Model) (e : Env) (f g : Form) → (binders f ≤ 1 → rounds m e f ≤ suc (size m))
    → (binders g ≤ 1 → rounds m e g ≤ suc (size m))
    → binders f + binders g ≤ 1 → rounds m e f + rounds m e g ≤ suc (size m)
two-bound m e f g i j h = go (one_of (binders f) (binders g) h)
  where
    go : (binders f ≡ zero) ⊎ (binders g ≡ zero) → rounds m e f + rounds m e g ≤ suc (size m)
    go (inl z) = omega (arith, rounds-none m e f z, j (omega arith))
    go (inr z) = omega (arith, rounds-none m e g z, i (omega arith))

-- "With one binder in the formula the rounds are at most 2^n + 1"
pub rounds-bound : (m : Model) (e : Env) (f : Form) → binders f ≤ 1 → rounds m e f ≤ suc (size m)
rounds-bound m e bot h = zero-le
rounds-bound m e top h = zero-le
rounds-bound m e (neg f) h = rounds-bound m e f h
rounds-bound m e (conj f g) h = two-bound m e f g (rounds-bound m e f) (rounds-bound m e g) h
rounds-bound m e (disj f g) h = two-bound m e f g (rounds-bound m e f) (rounds-bound m e g) h
rounds-bound m e (now p) h = zero-le
rounds-bound m e (next p) h = zero-le
rounds-bound m e (var P) h = zero-le
rounds-bound m e (reg r) h = zero-le
rounds-bound m e (box t f) h = rounds-bound m e f h
rounds-bound m e (dia t f) h = rounds-bound m e f h
rounds-bound m e (mu P f) h =
    runs-bound (body m e P f) (λ A. rounds m (put e P A) f) (λ A. rounds-none m (put e P A) f (omega arith)) (suc (size m))
    (start true (size m) (exist m))
rounds-bound m e (nu P f) h =
    runs-bound (body m e P f) (λ A. rounds m (put e P A) f) (λ A. rounds-none m (put e P A) f (omega arith)) (suc (size m))
    (start false (size m) (exist m))
rounds-bound m e (until b t f g) h =
    runs-bound (onward b (size m) (related m t) (means m e f) (means m e g)) (λ A. rounds m e g + rounds m e f)
    (λ A. omega (arith, rounds-none m e g (omega arith), rounds-none m e f (omega arith))) (suc (size m)) (start true (size m) (exist m))

-- ---- the bound on a binder's own rounds

-- from F A on, the iteration is one ahead
pub iter_on : (F : List Bool → List Bool) (j : ℕ) (A : List Bool) → iter F j (F A) ≡ iter F (suc j) A
iter_on F zero A = refl
iter_on F (suc j) A = ap F (iter_on F j A)

pub same_set : {A B : List Bool} → B ≡ A → same B A ≡ true
same_set {A} e = true_of _ (subst (λ (C : List Bool). T (same C A)) (sym e) (same_refl A))

-- where j rounds leave a set that the next one keeps, a larger bound than j + 1 gives the same
runs-more : (F : List Bool → List Bool) (c : List Bool → ℕ) (j k : ℕ) → j ≤ k → (A : List Bool) → F (iter F j A) ≡ iter F j A
    → runs F c (suc k) A ≡ runs F c (suc j) A
runs-more F c zero k l A e = ends (runs F c k (F A)) ∙ sym (ends zero)
  where
    ends : (more : ℕ) → suc (c A) + cond (same (F A) A) zero more ≡ suc (c A) + zero
    ends more = ap (λ (t : Bool). suc (c A) + cond t zero more) (same_set e)
runs-more F c (suc j) zero l A e = absurd (omega arith)
runs-more F c (suc j) (suc k) l A e =
    ap (λ (more : ℕ). suc (c A) + cond (same (F A) A) zero more)
    (runs-more F c j k (omega arith) (F A) (subst (λ (B : List Bool). F B ≡ B) (sym (iter_on F j A)) e))

-- after check 6 any bound from 2^n + 1 on gives the same rounds
pub rounds_cap : (m : Model) (e : Env) (P : ℕ) (f : Form) → T (steady f) → T (reads true P f) → (b : Bool) (c : List Bool → ℕ) (k : ℕ)
    → size m ≤ k
    → runs (body m e P f) c (suc k) (start b (size m) (exist m)) ≡ runs (body m e P f) c (suc (size m)) (start b (size m) (exist m))
rounds_cap m e P f s t b c k l = runs-more (body m e P f) c (size m) k l (start b (size m) (exist m)) (round-ends m e P f s t b)
