-- Stages of EXISTS at the odd levels, the last first: how they go with fixing levels, and which levels they read. Assumes nothing.
use mathlib.Core.Path.{◌≡◌, refl, sym, ap, ◌∙◌, fun_ext}
use mathlib.Core.Logic.{by_cases}
use mathlib.Core.Bool.{Bool, true, false, or_self}
use Prim.Native.Nat.{ℕ, zero, suc, ◌+◌, ◌*◌, ◌≤◌}
use native.Mathlib.Decide.{dec_le, ℕ_discrete}
use native.Mathlib.Omega.{arith}
use Rattle.diagram.specs.Level.{Val, Fn, upd, splice, Varies}
use Rattle.diagram.proofs.Level.{upd_same, upd_other, splice-below, splice-above, Reads, varies-not}
use Rattle.diagram.specs.Rows.{Rows, marked, target, Leads, den}
use Rattle.diagram.proofs.Den.{den_constant}
use Rattle.diagram.proofs.Steps.{exists-past}
use Rattle.diagram.specs.Odd.{exists_from}
use Rattle.diagram.proofs.OddLaws.{from_reads}

-- To set a level from k on, and to fix those below k, go in either order.
pub upd-splice : (k : ℕ) (u v : Val) (x : ℕ) (b : Bool) → k ≤ x → upd (splice k u v) x b ≡ splice k u (upd v x b)
upd-splice k u v x b h =
    fun_ext λ l.
    by_cases (ℕ_discrete l x)
    (λ e. rw e (upd_same (splice k u v) x b ∙ sym (splice-above k u (upd v x b) x h ∙ upd_same v x b)))
    (λ ne. upd_other (splice k u v) x b l ne ∙ by_cases (dec_le k l)
    (λ g. splice-above k u v l g ∙ sym (splice-above k u (upd v x b) l g ∙ upd_other v x b l ne))
    (λ g. splice-below k u v l (omega arith) ∙ sym (splice-below k u (upd v x b) l (omega arith))))

-- To fix levels below b by what fixes those below k, a greater level, already is nothing new.
pub splice_again : (b k : ℕ) (u v : Val) → b ≤ k → splice b u (splice k u v) ≡ splice k u v
splice_again b k u v h =
    fun_ext λ l.
    by_cases (dec_le b l) (λ g. splice-above b u (splice k u v) l g)
    (λ g. splice-below b u (splice k u v) l (omega arith) ∙ sym (splice-below k u v l (omega arith)))

-- EXISTS commutes with fixing levels below all those it is at.
pub from-splice : (d j k : ℕ) (u : Val) (f : Fn) → k ≤ suc (2 * j) → (v : Val)
    → exists_from d j f (splice k u v) ≡ exists_from d j (λ w. f (splice k u w)) v
unfolding exists_from
from-splice zero j k u f h v = refl
from-splice (suc d) j k u f h v =
    let at : (b : Bool)
    → exists_from d (suc j) f (upd (splice k u v) (suc (2 * j)) b)
    ≡ exists_from d (suc j) (λ w. f (splice k u w)) (upd v (suc (2 * j)) b) =
    λ b. ap (exists_from d (suc j) f) (upd-splice k u v (suc (2 * j)) b h)
    ∙ from-splice d (suc j) k u f (omega arith) (upd v (suc (2 * j)) b)
    in
    let p = at false in
    let q = at true in
    cc (p, q)

-- EXISTS of a constant is that constant.
from_const : (d j : ℕ) (f : Fn) (c : Bool) → ((v : Val) → f v ≡ c) → (v : Val) → exists_from d j f v ≡ c
unfolding exists_from
from_const zero j f c h v = h v
from_const (suc d) j f c h v =
    let p = from_const d (suc j) f c h (upd v (suc (2 * j)) false) in
    let q = from_const d (suc j) f c h (upd v (suc (2 * j)) true) in
    let o = or_self c in
    cc (p, q, o)

-- EXISTS at many levels is EXISTS at those that are read: all but the first i of i + d.
module _ {lo hi : ℕ} (f : Fn) (r : Reads lo hi f) where
  pub from_last : (i d j t z : ℕ) → i + j ≡ t → i + d ≡ z → 2 * t ≤ lo → exists_from z j f ≡ exists_from d t f
  unfolding exists_from
  from_last zero d j t z et ez h =
      let p : j ≡ t = omega arith in
      let q : z ≡ d = omega arith in
      ap (λ x. exists_from x j f) q ∙ ap (λ x. exists_from d x f) p
  from_last (suc i) d j t zero et ez h = absurd (omega arith)
  from_last (suc i) d j t (suc z) et ez h =
      fun_ext
      (λ v. exists-past {k = lo} {m = hi} {f = exists_from z (suc j) f} (suc (2 * j)) (omega arith)
      (from_reads {lo = lo} {hi = hi} {f = f} z (suc j) r) v)
      ∙ from_last i d (suc j) t z (omega arith) (omega arith) h

-- What f has where levels below k are fixed reads only those from k on.
pub splice_reads : {m : ℕ} {f : Fn} (k : ℕ) (u : Val) → Reads 0 m f → Reads k m (λ w. f (splice k u w))
splice_reads k u r v w h =
    r _ _ (λ l _ lm. by_cases (dec_le k l)
    (λ g. splice-above k u v l g ∙ h l g lm ∙ sym (splice-above k u w l g))
    (λ g. splice-below k u v l (omega arith) ∙ sym (splice-below k u w l (omega arith))))

-- An arrow with a varying stage leads to a row.
pub stage_row : (m : ℕ) (rows : Rows) (c x : ℕ) → target c ≡ x → (d j : ℕ) (g : Fn) (at : Val → Val)
    → ((v : Val) → g v ≡ exists_from d j (den m rows c) (at v)) → Varies g → (i : ℕ) × Leads c i
stage_row m rows c zero e d j g at h y =
    absurd (varies-not (marked c) y (λ v. h v ∙ from_const d j (den m rows c) (marked c) (den_constant m rows c e) (at v)))
stage_row m rows c (suc i) e d j g at h y = (i, e)
