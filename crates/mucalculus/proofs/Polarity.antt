-- A formula that is read even in P grows with P's set, and one that is read odd shrinks; inner binders are read even (check 6).
-- Assumes nothing.
use mathlib.Core.Path.{◌≡◌, refl, sym, ◌∙◌, subst, fun_ext}
use mathlib.Core.Logic.{by_cases}
use mathlib.Core.Bool.{Bool, true, false, not, ◌||◌, cond}
use mathlib.Core.List.{List}
use Prim.Native.Nat.{ℕ}
use native.Mathlib.Decide.{ℕ_discrete}
use lib.Dec.{T, eqb, eqb→eq}
use Rattle.mucalculus.proofs.Sets.{and_out}
use Rattle.mucalculus.specs.Order.{Below}
use Rattle.mucalculus.proofs.Order.{Dir, dir_flip}
use Rattle.mucalculus.proofs.Fixpoint.{fix, fix_mono}
use Rattle.mucalculus.specs.Form.{Form, bot, top, neg, conj, disj, now, next, var, reg, box, dia, mu, nu, until, Model, Env, put}
use Rattle.mucalculus.specs.Form.{reads, steady}
use Rattle.mucalculus.proofs.Growth.{compl_anti, inter_mono, union_mono, sometimes_mono, always_mono}
use Rattle.mucalculus.proofs.Until.{until_mono}
use Rattle.mucalculus.specs.Means.{compl, always, size, exist, related, means}
use Rattle.mucalculus.proofs.Means.{length-means}
use Rattle.mucalculus.proofs.Exist.{means_in}

-- ---- two variables

module _ {X : Type 0} (e : ℕ → X) (P : ℕ) (x : X) (Q : ℕ) (y : X) where
  -- two variables are put in either order
  pub put-swap : (P ≡ Q → ⊥) → put (put e P x) Q y ≡ put (put e Q y) P x
  put-swap ne = fun_ext (λ U. go U (eqb U Q) refl (eqb U P) refl)
    where
      go : (U : ℕ) (s : Bool) → eqb U Q ≡ s → (t : Bool) → eqb U P ≡ t → cond s y (cond t x (e U)) ≡ cond t x (cond s y (e U))
      go U true i true j = absurd (ne (sym (eqb→eq U P (subst T (sym j) tt)) ∙ eqb→eq U Q (subst T (sym i) tt)))
      go U true i false j = refl
      go U false i t j = refl

-- the later of two sets of one variable counts
put-over : {X : Type 0} (e : ℕ → X) (P : ℕ) (x y : X) → put (put e P x) P y ≡ put e P y
put-over e P x y = fun_ext (λ U. go U (eqb U P))
  where
    go : (U : ℕ) (t : Bool) → cond t y (cond t x (e U)) ≡ cond t y (e U)
    go U true = refl
    go U false = refl

-- ---- the meaning

-- the meaning of f turns with P's set in the direction b
abbrev Turns : Model → Form → ℕ → Bool → Type 0
Turns m f P b = (e : Env) (A B : List Bool) → Dir b A B → Below (means m (put e P A) f) (means m (put e P B) f)

-- a binder of Q over f turns with P as f does
module _ (m : Model) (f : Form) (P Q : ℕ) (b : Bool) (in_q : Turns m f Q true) (in_p : Turns m f P b) where
  body-turns : (e : Env) (A B : List Bool) → Dir b A B → (Y : List Bool)
      → Below (means m (put (put e P A) Q Y) f) (means m (put (put e P B) Q Y) f)
  body-turns e A B h Y = by_cases (ℕ_discrete P Q)
      (λ i. subst (λ (U : ℕ). Below (means m (put (put e P A) U Y) f) (means m (put (put e P B) U Y) f)) i
      (subst (λ (d : Env). Below (means m (put (put e P A) P Y) f) (means m d f)) (put-over e P A Y ∙ sym (put-over e P B Y)) (λ s p. p)))
      (λ ne. subst (λ (d : Env). Below (means m d f) (means m (put (put e P B) Q Y) f)) (sym (put-swap e P A Q Y ne))
      (subst (λ (d : Env). Below (means m (put (put e Q Y) P A) f) (means m d f)) (sym (put-swap e P B Q Y ne)) (in_p (put e Q Y) A B h)))

  binder_turns : (c : Bool) (e : Env) (A B : List Bool) → Dir b A B
      → Below (fix c (size m) (exist m) (λ X. means m (put (put e P A) Q X) f))
      (fix c (size m) (exist m) (λ X. means m (put (put e P B) Q X) f))
  binder_turns c e A B h =
      fix_mono (size m) (exist m) (λ X. means m (put (put e P A) Q X) f) (λ X. means m (put (put e P B) Q X) f)
      (λ X. length-means m (put (put e P A) Q X) f) (λ X. length-means m (put (put e P B) Q X) f)
      (λ X. means_in m (put (put e P A) Q X) f) (λ X. means_in m (put (put e P B) Q X) f)
      (in_q (put e P A)) (in_q (put e P B))
      (λ X Y i s p. body-turns e A B h Y s (in_q (put e P A) X Y i s p)) c

var_turns : (t b : Bool) (A B C : List Bool) → T (b || not t) → Dir b A B → Below (cond t A C) (cond t B C)
var_turns true true A B C r h = h
var_turns true false A B C r h = absurd r
var_turns false b A B C r h = λ s p. p

-- where P is read even the meaning grows with P's set, and where odd it shrinks
pub means-turns : (m : Model) (f : Form) → T (steady f) → (P : ℕ) (b : Bool) → T (reads b P f) → Turns m f P b
unfolding reads steady
means-turns m bot s P b r e A B h = λ s p. p
means-turns m top s P b r e A B h = λ s p. p
means-turns m (neg f) s P b r e A B h =
    inter_mono (size m) (compl (size m) (means m (put e P A) f)) (compl (size m) (means m (put e P B) f))
    (compl_anti (size m) (means m (put e P B) f) (means m (put e P A) f) (means-turns m f s P (not b) r e B A (dir_flip b A B h))) (exist m)
    (exist m) (λ s p. p)
means-turns m (conj f g) s P b r e A B h =
    let u = and_out (steady f) (steady g) s in
    let w = and_out (reads b P f) (reads b P g) r in
    inter_mono (size m) (means m (put e P A) f) (means m (put e P B) f) (means-turns m f u.0 P b w.0 e A B h)
    (means m (put e P A) g) (means m (put e P B) g) (means-turns m g u.1 P b w.1 e A B h)
means-turns m (disj f g) s P b r e A B h =
    let u = and_out (steady f) (steady g) s in
    let w = and_out (reads b P f) (reads b P g) r in
    union_mono (size m) (means m (put e P A) f) (means m (put e P B) f) (means-turns m f u.0 P b w.0 e A B h)
    (means m (put e P A) g) (means m (put e P B) g) (means-turns m g u.1 P b w.1 e A B h)
means-turns m (now p) s P b r e A B h = λ s p. p
means-turns m (next p) s P b r e A B h = λ s p. p
means-turns m (var Q) s P b r e A B h =
    inter_mono (size m) (put e P A Q) (put e P B Q) (var_turns (eqb Q P) b A B (e Q) r h) (exist m) (exist m) (λ s p. p)
means-turns m (reg x) s P b r e A B h = λ s p. p
means-turns m (box t f) s P b r e A B h =
    inter_mono (size m) (always (size m) (related m t) (means m (put e P A) f)) (always (size m) (related m t) (means m (put e P B) f))
    (always_mono (size m) (related m t) (means m (put e P A) f) (means m (put e P B) f) (means-turns m f s P b r e A B h)) (exist m)
    (exist m) (λ s p. p)
means-turns m (dia t f) s P b r e A B h =
    sometimes_mono (size m) (related m t) (means m (put e P A) f) (means m (put e P B) f) (means-turns m f s P b r e A B h)
means-turns m (mu Q f) s P b r e A B h =
    let u = and_out (reads true Q f) (steady f) s in
    binder_turns m f P Q b (means-turns m f u.1 Q true u.0) (means-turns m f u.1 P b r) true e A B h
means-turns m (nu Q f) s P b r e A B h =
    let u = and_out (reads true Q f) (steady f) s in
    binder_turns m f P Q b (means-turns m f u.1 Q true u.0) (means-turns m f u.1 P b r) false e A B h
means-turns m (until q t f g) s P b r e A B h =
    let u = and_out (steady f) (steady g) s in
    let w = and_out (reads b P f) (reads b P g) r in
    until_mono (size m) (related m t) q (means m (put e P A) f) (means m (put e P B) f) (means-turns m f u.0 P b w.0 e A B h)
    (means m (put e P A) g) (means m (put e P B) g) (means-turns m g u.1 P b w.1 e A B h)
