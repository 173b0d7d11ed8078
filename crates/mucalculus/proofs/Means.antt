-- Laws of what specs/Means.antt defines. Assumes nothing.
use mathlib.Core.Path.{◌≡◌, sym, ap, ◌∙◌}
use mathlib.Core.Bool.{true, false}
use Prim.Native.Nat.{ℕ, suc, ◌^◌, ◌/◌, ◌%◌}
use native.Mathlib.Nat.{pow-succ', div-div-eq-div-mul}
use lib.Dec.{eqb}
use lib.ListN.{length}
use Rattle.mucalculus.proofs.Sets.{length-table}
use Rattle.mucalculus.proofs.Fixpoint.{length_fix}
use Rattle.mucalculus.specs.Form.{Form, bot, top, neg, conj, disj, now, next, var, reg, box, dia, mu, nu, until, Model, Env, put}
use Rattle.mucalculus.specs.Means.{bit, size, exist, means}

-- ---- operations on sets of k states

-- bit p + 1 of a number is bit p of its half
pub bit-half : (p s : ℕ) → bit (suc p) s ≡ bit p (s / 2)
bit-half p s = ap (λ (q : ℕ). eqb (q % 2) 1) (ap (λ (d : ℕ). s / d) (pow-succ' 2 p) ∙ sym (div-div-eq-div-mul s 2 (2 ^ p)))

-- ---- the meaning

-- a meaning has a place for each state
pub length-means : (m : Model) (e : Env) (f : Form) → length (means m e f) ≡ size m
length-means m e bot = length-table (size m) (λ s. false)
length-means m e top = length-table (size m) _
length-means m e (neg f) = length-table (size m) _
length-means m e (conj f g) = length-table (size m) _
length-means m e (disj f g) = length-table (size m) _
length-means m e (now p) = length-table (size m) _
length-means m e (next p) = length-table (size m) (λ s. false)
length-means m e (var P) = length-table (size m) _
length-means m e (reg r) = length-table (size m) _
length-means m e (box t f) = length-table (size m) _
length-means m e (dia t f) = length-table (size m) _
length-means m e (mu P f) = length_fix true (size m) (exist m) (λ A. means m (put e P A) f)
length-means m e (nu P f) = length_fix false (size m) (exist m) (λ A. means m (put e P A) f)
length-means m e (until b t f g) = length-table (size m) _
