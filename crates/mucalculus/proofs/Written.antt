-- Laws of what specs/Written.antt defines. Assumes nothing.
use mathlib.Core.Path.{◌≡◌, refl, sym, ap, ap₂, ◌∙◌, subst, fun_ext}
use mathlib.Core.Bool.{Bool, true, false, not, ◌&&◌, cond}
use mathlib.Core.List.{List}
use Prim.Native.Nat.{ℕ, zero, suc, ◌+◌}
use native.Mathlib.Nat.{add-zero}
use lib.Dec.{T, T_not, eqb, eqb_refl}
use Rattle.mucalculus.proofs.Sets.{and_out, true_of}
use Rattle.mucalculus.specs.Order.{start}
use Rattle.mucalculus.specs.Fixpoint.{least, greatest}
use Rattle.mucalculus.specs.Form.{Form, bot, top, neg, conj, disj, now, next, var, reg, box, dia, mu, nu, until, Pairs, Model, Env}
use Rattle.mucalculus.specs.Form.{put, lacks, mentioned}
use Rattle.mucalculus.specs.Runs.{until_set}
use Rattle.mucalculus.specs.Means.{compl, inter, union, always, sometimes, size, exist, related, means}
use Rattle.mucalculus.proofs.Exist.{means_in, related-inside, inter-agrees, sometimes-same, always-same, further_in, onward-into}
use Rattle.mucalculus.specs.Until.{further, onward}
use Rattle.mucalculus.proofs.Until.{until-least}
use Rattle.mucalculus.proofs.Polarity.{put-swap}
use Rattle.mucalculus.specs.Rounds.{runs, rounds}
use Rattle.mucalculus.specs.Written.{absent, goes, written}

-- ---- a variable that stands nowhere

pub apart : (P X : ℕ) → T (not (eqb P X)) → X ≡ P → ⊥
apart P X h e = T_not (eqb P X) h (subst (λ (Y : ℕ). T (eqb P Y)) (sym e) (eqb_refl P))

pub var_apart : {Y : Type 0} (c : Bool) (x y : Y) → T (not c) → cond c x y ≡ y
var_apart true x y h = absurd h
var_apart false x y h = refl

pub runs_same : (F G : List Bool → List Bool) (c d : List Bool → ℕ) (j : ℕ) (A : List Bool) → ((B : List Bool) → F B ≡ G B)
    → ((B : List Bool) → c B ≡ d B) → runs F c j A ≡ runs G d j A
runs_same F G c d j A h i = ap₂ (λ (K : List Bool → List Bool) (k : List Bool → ℕ). runs K k j A) (fun_ext h) (fun_ext i)

module _ (m : Model) (X : ℕ) (A : List Bool) where
  pub means-absent : (f : Form) → T (absent X f) → (e : Env) → means m (put e X A) f ≡ means m e f
  means-absent bot h e = refl
  means-absent top h e = refl
  means-absent (neg f) h e = ap (λ (B : List Bool). inter (size m) (compl (size m) B) (exist m)) (means-absent f h e)
  means-absent (conj f g) h e =
      let w = and_out (absent X f) (absent X g) h in ap₂ (inter (size m)) (means-absent f w.0 e) (means-absent g w.1 e)
  means-absent (disj f g) h e =
      let w = and_out (absent X f) (absent X g) h in ap₂ (union (size m)) (means-absent f w.0 e) (means-absent g w.1 e)
  means-absent (now p) h e = refl
  means-absent (next p) h e = refl
  means-absent (var P) h e = ap (λ (B : List Bool). inter (size m) B (exist m)) (var_apart (eqb P X) A (e P) h)
  means-absent (reg r) h e = refl
  means-absent (box t f) h e = ap (λ (B : List Bool). inter (size m) (always (size m) (related m t) B) (exist m)) (means-absent f h e)
  means-absent (dia t f) h e = ap (sometimes (size m) (related m t)) (means-absent f h e)
  means-absent (mu P f) h e = let w = and_out (not (eqb P X)) (absent X f) h in ap (least (size m) (exist m)) (fun_ext (λ B.
      ap (λ (d : Env). means m d f) (put-swap e X A P B (apart P X w.0)) ∙ means-absent f w.1 (put e P B)))
  means-absent (nu P f) h e = let w = and_out (not (eqb P X)) (absent X f) h in ap (greatest (size m) (exist m)) (fun_ext (λ B.
      ap (λ (d : Env). means m d f) (put-swap e X A P B (apart P X w.0)) ∙ means-absent f w.1 (put e P B)))
  means-absent (until b t f g) h e =
      let w = and_out (absent X f) (absent X g) h in
      ap₂ (λ (F G : List Bool). until_set b (size m) (related m t) F G) (means-absent f w.0 e) (means-absent g w.1 e)

  pub rounds-absent : (f : Form) → T (absent X f) → (e : Env) → rounds m (put e X A) f ≡ rounds m e f
  rounds-absent bot h e = refl
  rounds-absent top h e = refl
  rounds-absent (neg f) h e = rounds-absent f h e
  rounds-absent (conj f g) h e =
      let w = and_out (absent X f) (absent X g) h in ap₂ ◌+◌ (rounds-absent f w.0 e) (rounds-absent g w.1 e)
  rounds-absent (disj f g) h e =
      let w = and_out (absent X f) (absent X g) h in ap₂ ◌+◌ (rounds-absent f w.0 e) (rounds-absent g w.1 e)
  rounds-absent (now p) h e = refl
  rounds-absent (next p) h e = refl
  rounds-absent (var P) h e = refl
  rounds-absent (reg r) h e = refl
  rounds-absent (box t f) h e = rounds-absent f h e
  rounds-absent (dia t f) h e = rounds-absent f h e
  rounds-absent (mu P f) h e =
      let w = and_out (not (eqb P X)) (absent X f) h in
      runs_same _ _ _ _ (suc (size m)) (start true (size m) (exist m))
      (λ B. ap (λ (d : Env). means m d f) (put-swap e X A P B (apart P X w.0)) ∙ means-absent f w.1 (put e P B))
      (λ B. ap (λ (d : Env). rounds m d f) (put-swap e X A P B (apart P X w.0)) ∙ rounds-absent f w.1 (put e P B))
  rounds-absent (nu P f) h e =
      let w = and_out (not (eqb P X)) (absent X f) h in
      runs_same _ _ _ _ (suc (size m)) (start false (size m) (exist m))
      (λ B. ap (λ (d : Env). means m d f) (put-swap e X A P B (apart P X w.0)) ∙ means-absent f w.1 (put e P B))
      (λ B. ap (λ (d : Env). rounds m d f) (put-swap e X A P B (apart P X w.0)) ∙ rounds-absent f w.1 (put e P B))
  rounds-absent (until b t f g) h e =
      let w = and_out (absent X f) (absent X g) h in
      runs_same _ _ _ _ (suc (size m)) (start true (size m) (exist m))
      (λ B. ap₂ (λ (F G : List Bool). onward b (size m) (related m t) F G B) (means-absent f w.0 e) (means-absent g w.1 e))
      (λ B. ap₂ ◌+◌ (rounds-absent g w.1 e) (rounds-absent f w.0 e))

-- ---- the translation

pub put-here : {Y : Type 0} (e : ℕ → Y) (X : ℕ) (x : Y) → put e X x X ≡ x
put-here e X x = ap (λ (c : Bool). cond c x (e X)) (true_of (eqb X X) (eqb_refl X))

module _ (m : Model) (e : Env) (b : Bool) (t X : ℕ) where
  pub goes-means : (A : List Bool) → means m (put e X A) (goes b t X) ≡ further b (size m) (related m t) A
  goes-means A = go b
    where
      k : ℕ
      k = size m

      Q : Pairs
      Q = related m t

      -- X is read as A's existing states
      read : means m (put e X A) (var X) ≡ inter k A (exist m)
      read = ap (λ (B : List Bool). inter k B (exist m)) (put-here e X A)

      go : (b : Bool) → means m (put e X A) (goes b t X) ≡ further b (size m) (related m t) A
      go true =
          ap (sometimes k Q) read ∙ sometimes-same k (exist m) Q (related-inside m t) (inter k A (exist m)) A (inter-agrees k (exist m) A)
      go false =
          ap (λ (B : List Bool). inter k (inter k B (exist m)) (sometimes k Q (exist m)))
          (ap (always k Q) read ∙ always-same k (exist m) Q (related-inside m t) (inter k A (exist m)) A (inter-agrees k (exist m) A))
          ∙ further_in k (exist m) Q (related-inside m t) A

  module _ (f g : Form) (hf : T (absent X f)) (hg : T (absent X g)) where
    -- a round of the written formula is one of until
    pub written-round : (A : List Bool)
        → means m (put e X A) (disj g (conj f (goes b t X))) ≡ onward b (size m) (related m t) (means m e f) (means m e g) A
    written-round A =
        ap₂ (union (size m)) (means-absent m X A g hg e) (ap₂ (inter (size m)) (means-absent m X A f hf e) (goes-means A))

    -- UNTIL IS THE WRITTEN FORMULA, in meaning
    pub until-written : means m e (until b t f g) ≡ means m e (written b t X f g)
    until-written =
        until-least (size m) (related m t) b (means m e f) (means m e g) (exist m)
        (onward-into m t b (means m e f) (means m e g) (means_in m e f) (means_in m e g))
        ∙ ap (least (size m) (exist m)) (fun_ext (λ A. sym (written-round A)))

    -- and in rounds
    pub rounds-written : rounds m e (until b t f g) ≡ rounds m e (written b t X f g)
    rounds-written = sym (runs_same _ _ _ _ (suc (size m)) (start true (size m) (exist m)) written-round
        (λ A. ap₂ ◌+◌ (rounds-absent m X A g hg e) (ap₂ ◌+◌ (rounds-absent m X A f hf e) (none b A) ∙ add-zero (rounds m e f))))
      where
        none : (b : Bool) (A : List Bool) → rounds m (put e X A) (goes b t X) ≡ zero
        none true A = refl
        none false A = refl

-- ---- check 12 on the written formula

-- X stands free in what follows
goes_names : (b : Bool) (t X : ℕ) → lacks X (goes b t X) ≡ false
unfolding lacks
goes_names true t X = ap not (true_of (eqb X X) (eqb_refl X))
goes_names false t X = ap (λ (c : Bool). not c && true) (true_of (eqb X X) (eqb_refl X))

-- the binder of the written formula always binds something, so check 12 says of it what it says of until
pub mentioned-written : (b : Bool) (t X : ℕ) (f g : Form) → mentioned (written b t X f g) ≡ (mentioned g && mentioned f)
unfolding mentioned lacks
mentioned-written b t X f g =
    ap (λ (c : Bool). not (lacks X g && (lacks X f && c)) && (mentioned g && (mentioned f && mentioned (goes b t X)))) (goes_names b t X)
    ∙ none (lacks X g) (lacks X f)
    ∙ ap (λ (c : Bool). mentioned g && c) (last b)
  where
    none : (x y : Bool)
        → (not (x && (y && false)) && (mentioned g && (mentioned f && mentioned (goes b t X))))
        ≡ (mentioned g && (mentioned f && mentioned (goes b t X)))
    none true true = refl
    none true false = refl
    none false y = refl

    both : (c : Bool) → (c && true) ≡ c
    both true = refl
    both false = refl

    last : (b : Bool) → (mentioned f && mentioned (goes b t X)) ≡ mentioned f
    last true = both (mentioned f)
    last false = both (mentioned f)
