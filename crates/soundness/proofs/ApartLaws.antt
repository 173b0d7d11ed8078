-- Laws of what specs/Apart.antt defines. Assumes nothing.
use mathlib.Core.Path.{◌≡◌, refl, sym, ap, ◌∙◌, subst, fun_ext}
use mathlib.Core.Logic.{◌≢◌, by_cases}
use mathlib.Core.Bool.{Bool, true, false, not, true≢false}
use Prim.Native.Nat.{ℕ, ◌+◌, ◌<◌}
use native.Mathlib.Omega.{arith}
use native.Mathlib.Decide.{ℕ_discrete}
use Rattle.diagram.specs.Level.{Val, upd}
use Rattle.diagram.proofs.Level.{upd_same, upd_other}
use Rattle.diagram.specs.Rows.{Rows, Leads, flip, Arrow, level_of, follow, den, WellFormed}
use Rattle.diagram.proofs.Den.{den-zero, den-one, den-flip, den_reads, den_chosen, follow-arrow, follow_deeper}
use Rattle.diagram.proofs.Canon.{differ, not-false}
use Rattle.soundness.specs.Apart.{lift, Apart, Half}

pub lift-none : (v : Val) → lift 0 v ≡ v
lift-none v = fun_ext λ l. ap v (let e : l + 0 ≡ l = omega arith in e)

pub upd-kept : (v : Val) (l : ℕ) (b : Bool) → v l ≡ b → upd v l b ≡ v
upd-kept v l b e = fun_ext λ k. by_cases (ℕ_discrete k l)
    (λ q. subst (λ (x : ℕ). upd v l b x ≡ v x) (sym q) (upd_same v l b ∙ sym e))
    (λ n. upd_other v l b k n)

module _ {m N : ℕ} {rows : Rows} (wf : WellFormed m N rows) where
  past_same : (s l a : ℕ) → Arrow rows a → l < level_of m rows a + s → (v : Val) (b : Bool)
      → den m rows a (lift s (upd v l b)) ≡ den m rows a (lift s v)
  past_same s l a u h v b = den_reads wf m a u (lift s (upd v l b)) (lift s v) (λ k lo hi. upd_other v l b (k + s) (λ e. omega arith))

  -- an arrow past the level is its own halves
  pub half-past : (s l a : ℕ) → Arrow rows a → l < level_of m rows a + s → Half m rows s l a a a
  half-past s l a u h = record {
    low-arrow = u;
    high-arrow = u;
    low_deeper = h;
    high_deeper = h;
    low-is = λ v. past_same s l a u h v false;
    high_is = λ v. past_same s l a u h v true;
  }

  module _ (s l a i : ℕ) (e : Leads a i) (u : rows.used i ≡ true) (q : rows.level i + s ≡ l) where
    deeper : (b : Bool) → l < level_of m rows (follow rows a i b) + s
    deeper b = let d = follow_deeper wf a i e b u in omega arith

    here-is : (b : Bool) (v : Val) → den m rows a (lift s (upd v l b)) ≡ den m rows (follow rows a i b) (lift s v)
    here-is b v =
        den_chosen wf a i e b u (lift s (upd v l b)) (subst (λ (x : ℕ). upd v l b x ≡ b) (sym q) (upd_same v l b))
        ∙ past_same s l (follow rows a i b) (follow-arrow wf a i e b u) (deeper b) v b

    -- an arrow at the level has those that are followed from it
    pub half-here : Half m rows s l a (follow rows a i false) (follow rows a i true)
    half-here = record {
      low-arrow = follow-arrow wf a i e false u;
      high-arrow = follow-arrow wf a i e true u;
      low_deeper = deeper false;
      high_deeper = deeper true;
      low-is = here-is false;
      high_is = here-is true;
    }

  -- the short cases
  pub one_right : {s a b : ℕ} → Arrow rows a → a ≢ 0 → b ≡ 1 → Apart m rows s a b → ⊥
  one_right {s} {a} {b} u n e p =
      let d = differ wf a 0 u tt n in
      let w : Val = d.at in
      p.none w (not-false _ (λ q. d.apart (q ∙ sym (den-zero m rows w))))
      (ap (λ (x : ℕ). den m rows x (lift s w)) e ∙ den-one m rows (lift s w))

pub zero_left : {s a b : ℕ} (m : ℕ) (rows : Rows) → a ≡ 0 → Apart m rows s a b
zero_left m rows e = record { none = λ v p q. true≢false (sym p ∙ ap (λ (x : ℕ). den m rows x v) e ∙ den-zero m rows v) }

pub zero_right : {s a b : ℕ} (m : ℕ) (rows : Rows) → b ≡ 0 → Apart m rows s a b
zero_right {s} m rows e =
    record { none = λ v p q. true≢false (sym q ∙ ap (λ (x : ℕ). den m rows x (lift s v)) e ∙ den-zero m rows (lift s v)) }

-- an arrow and its NOT, of the same levels
pub apart-not : {s a b : ℕ} (m : ℕ) (rows : Rows) → s ≡ 0 → a ≡ flip b → Apart m rows s a b
apart-not {s} {a} {b} m rows z e = record {
  none = λ v p q.
      let x : den m rows b v ≡ true = ap (den m rows b) (sym (ap (λ (k : ℕ). lift k v) z ∙ lift-none v)) ∙ q in
      true≢false (sym p ∙ ap (λ (k : ℕ). den m rows k v) e ∙ den-flip m rows b v ∙ ap not x);
}

-- two arrows are apart when their halves are, and only then
module _ {m : ℕ} {rows : Rows} {s l a a0 a1 b b0 b1 : ℕ} (x : Half m rows 0 l a a0 a1) (y : Half m rows s l b b0 b1) where
  plain : (a : ℕ) (v : Val) → den m rows a (lift 0 v) ≡ den m rows a v
  plain a v = ap (den m rows a) (lift-none v)

  pub apart_low : Apart m rows s a b → Apart m rows s a0 b0
  apart_low p =
      record { none = λ v g h. p.none (upd v l false) (sym (plain a (upd v l false)) ∙ x.low-is v ∙ plain a0 v ∙ g) (y.low-is v ∙ h) }

  pub apart-high : Apart m rows s a b → Apart m rows s a1 b1
  apart-high p =
      record { none = λ v g h. p.none (upd v l true) (sym (plain a (upd v l true)) ∙ x.high_is v ∙ plain a1 v ∙ g) (y.high_is v ∙ h) }

  pub apart-both : Apart m rows s a0 b0 → Apart m rows s a1 b1 → Apart m rows s a b
  apart-both p q = record { none = λ v g h. by v g h (v l) refl }
    where
      by : (v : Val) → den m rows a v ≡ true → den m rows b (lift s v) ≡ true → (c : Bool) → v l ≡ c → ⊥
      by v g h false e =
          let k = upd-kept v l false e in
          p.none v (sym (plain a0 v) ∙ sym (x.low-is v) ∙ ap (λ (w : Val). den m rows a w) (lift-none (upd v l false) ∙ k) ∙ g)
          (sym (y.low-is v) ∙ ap (λ (w : Val). den m rows b (lift s w)) k ∙ h)
      by v g h true e =
          let k = upd-kept v l true e in
          q.none v (sym (plain a1 v) ∙ sym (x.high_is v) ∙ ap (λ (w : Val). den m rows a w) (lift-none (upd v l true) ∙ k) ∙ g)
          (sym (y.high_is v) ∙ ap (λ (w : Val). den m rows b (lift s w)) k ∙ h)
