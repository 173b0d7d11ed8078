-- Laws of what specs/Binder.antt defines. Assumes nothing.
use mathlib.Core.Path.{◌≡◌, refl, subst}
use mathlib.Core.Bool.{Bool, true, false}
use mathlib.Core.List.{List}
use Prim.Native.Nat.{ℕ, suc}
use lib.Dec.{T}
use lib.ListN.{length}
use Rattle.mucalculus.proofs.Sets.{and_out}
use Rattle.mucalculus.proofs.Order.{Dir}
use Rattle.mucalculus.specs.Order.{start}
use Rattle.mucalculus.specs.Fixpoint.{Into}
use Rattle.mucalculus.proofs.Fixpoint.{fix, iter, Mono, fix_bound, fix_fixed, stable}
use Rattle.mucalculus.specs.Form.{Form, mu, nu, Model, Env, put, reads, steady}
use Rattle.mucalculus.proofs.Form.{bind}
use Rattle.mucalculus.specs.Means.{size, exist, means}
use Rattle.mucalculus.proofs.Means.{length-means}
use Rattle.mucalculus.proofs.Exist.{means_in}
use Rattle.mucalculus.proofs.Polarity.{means-turns}
use Rattle.mucalculus.specs.Binder.{body, Least, Greatest}

pub body-length : (m : Model) (e : Env) (P : ℕ) (f : Form) (A : List Bool) → length (body m e P f A) ≡ size m
body-length m e P f A = length-means m (put e P A) f

pub body_in : (m : Model) (e : Env) (P : ℕ) (f : Form) → Into (exist m) (body m e P f)
body_in m e P f A = means_in m (put e P A) f

pub means-bind : (m : Model) (e : Env) (P : ℕ) (f : Form) (b : Bool) → fix b (size m) (exist m) (body m e P f) ≡ means m e (bind b P f)
means-bind m e P f true = refl
means-bind m e P f false = refl

-- the least set is below each set A with f(A) = A, the greatest above
pub binder_bound : (m : Model) (e : Env) (P : ℕ) (f : Form) (b : Bool) (A : List Bool) → means m (put e P A) f ≡ A
    → Dir b (means m e (bind b P f)) A
binder_bound m e P f b A h =
    subst (λ (X : List Bool). Dir b X A) (means-bind m e P f b)
    (fix_bound (size m) (exist m) (body m e P f) (body-length m e P f) (body_in m e P f) b A h)

module _ (m : Model) (e : Env) (P : ℕ) (f : Form) (s : T (steady f)) (t : T (reads true P f)) (b : Bool) where
  pub body_mono : Mono (body m e P f)
  body_mono = means-turns m f s P true t e

  -- it is a set A with f(A) = A
  pub binder_fixed : means m (put e P (means m e (bind b P f))) f ≡ means m e (bind b P f)
  binder_fixed =
      subst (λ (X : List Bool). body m e P f X ≡ X) (means-bind m e P f b)
      (fix_fixed (size m) (exist m) (body m e P f) (body-length m e P f) (body_in m e P f) body_mono b)

  -- the j-th set of the iteration: from no state for mu, from V for nu, each the body's value at the one before
  abbrev pub round : ℕ → List Bool
  round j = iter (body m e P f) j (start b (size m) (exist m))

  -- that comes to pass in round 2^n + 1 at the latest
  pub round-ends : round (suc (size m)) ≡ round (size m)
  round-ends = stable (size m) (exist m) (body m e P f) (body-length m e P f) (body_in m e P f) body_mono b

-- ---- the same in plain words

module _ (m : Model) (e : Env) (P : ℕ) (f : Form) where
  -- "mu P: least set A with f(A) = A", for a formula that passes check 6
  pub mu_least : T (steady (mu P f)) → Least (body m e P f) (means m e (mu P f))
  unfolding steady
  mu_least s =
      let u = and_out (reads true P f) (steady f) s in
      record { fixed = binder_fixed m e P f u.1 u.0 true; least = λ B h. binder_bound m e P f true B h }

  -- "nu P: greatest such set"
  pub nu_greatest : T (steady (nu P f)) → Greatest (body m e P f) (means m e (nu P f))
  unfolding steady
  nu_greatest s =
      let u = and_out (reads true P f) (steady f) s in
      record { fixed = binder_fixed m e P f u.1 u.0 false; greatest = λ B h. binder_bound m e P f false B h }
