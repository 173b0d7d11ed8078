-- Laws of what specs/Blind.antt defines. Assumes nothing.
use mathlib.Core.Path.{◌≡◌, refl, sym, ap, ◌∙◌, fun_ext}
use mathlib.Core.Logic.{◌≢◌, by_cases}
use mathlib.Core.Bool.{Bool, true, false, or_self}
use Prim.Native.Nat.{ℕ, zero, suc, ◌+◌, ◌-◌, ◌*◌, ◌≤◌}
use native.Mathlib.Decide.{dec_le, ℕ_discrete}
use native.Mathlib.Omega.{arith}
use Rattle.diagram.specs.Level.{Val, Fn, upd, splice, CofactorOf, PartOf}
use Rattle.diagram.proofs.Level.{turn_inj, upd_same, upd_other, splice-below, splice-above, Reads}
use Rattle.diagram.specs.Steps.{exists_f}
use Rattle.diagram.specs.Odd.{exists_from, odd_f}
use Rattle.diagram.proofs.Stages.{upd-splice, from_last}
use Rattle.diagram.specs.Blind.{Blind}

-- To set a level twice is to set it once; two levels are set in either order.
upd_again : (v : Val) (l : ℕ) (b c : Bool) → upd (upd v l b) l c ≡ upd v l c
upd_again v l b c =
    fun_ext λ k.
    by_cases (ℕ_discrete k l)
    (λ e. rw e (upd_same (upd v l b) l c ∙ sym (upd_same v l c)))
    (λ ne. upd_other (upd v l b) l c k ne ∙ upd_other v l b k ne ∙ sym (upd_other v l c k ne))

upd-swap : (v : Val) (l k : ℕ) (b c : Bool) → l ≢ k → upd (upd v l b) k c ≡ upd (upd v k c) l b
upd-swap v l k b c ne =
    fun_ext λ h.
    by_cases (ℕ_discrete h l)
    (λ e. rw e (upd_other (upd v l b) k c l ne ∙ upd_same v l b ∙ sym (upd_same (upd v k c) l b)))
    (λ nl. by_cases (ℕ_discrete h k)
    (λ e. rw e (upd_same (upd v l b) k c ∙ sym (upd_other (upd v k c) l b k (λ q. ne (sym q)) ∙ upd_same v k c)))
    (λ nk. upd_other (upd v l b) k c h nk ∙ upd_other v l b h nl ∙ sym (upd_other (upd v k c) l b h nl ∙ upd_other v k c h nk)))

-- What reads only levels below 2 i is blind from i on.
pub blind_reads : {hi : ℕ} {f : Fn} (i : ℕ) → hi ≤ 2 * i → Reads 0 hi f → Blind i f
blind_reads i h r x ix v b = r _ _ (λ l _ lh. upd_other v (suc (2 * x)) b l (omega arith))

pub blind-more : {f : Fn} (i k : ℕ) → i ≤ k → Blind i f → Blind k f
blind-more i k h r x kx v b = r x (omega arith) v b

pub blind-same : {f g : Fn} (i : ℕ) → ((v : Val) → g v ≡ f v) → Blind i f → Blind i g
blind-same i e r x ix v b = e _ ∙ r x ix v b ∙ sym (e v)

-- Parts are as blind.
pub blind-cut : {f : Fn} (i k : ℕ) (u : Val) → Blind i f → Blind i (λ w. f (splice k u w))
blind-cut {f} i k u r x ix v b =
    by_cases (dec_le k (suc (2 * x)))
    (λ h. ap f (sym (upd-splice k u v (suc (2 * x)) b h)) ∙ r x ix (splice k u v) b)
    (λ h. ap f (fun_ext λ l. by_cases (dec_le k l)
    (λ g. splice-above k u (upd v (suc (2 * x)) b) l g ∙ upd_other v (suc (2 * x)) b l (omega arith) ∙ sym (splice-above k u v l g))
    (λ g. splice-below k u (upd v (suc (2 * x)) b) l (omega arith) ∙ sym (splice-below k u v l (omega arith)))))

pub blind-cofactor : {f g : Fn} (i : ℕ) → Blind i f → CofactorOf f g → Blind i g
blind-cofactor {f} i r c = blind-same {f = λ w. f (splice c.upto c.fixed w)} i c.same (blind-cut {f = f} i c.upto c.fixed r)

pub blind-part : {f g : Fn} (i : ℕ) → Blind i f → PartOf f g → Blind i g
blind-part {f} {g} i r p x ix v b = turn_inj p.turned _ _ (blind-cofactor {f = f} i r p.cofactor x ix v b)

-- A cofactor reads no more levels.
pub cofactor_reads_from : {lo hi : ℕ} {f g : Fn} → Reads lo hi f → CofactorOf f g → Reads lo hi g
cofactor_reads_from r c v w h =
    c.same v ∙ r _ _ (λ l a b. by_cases (dec_le c.upto l)
    (λ k. splice-above c.upto c.fixed v l k ∙ h l a b ∙ sym (splice-above c.upto c.fixed w l k))
    (λ k. splice-below c.upto c.fixed v l (omega arith) ∙ sym (splice-below c.upto c.fixed w l (omega arith))))
    ∙ sym (c.same w)

-- One more EXISTS makes blind one level earlier, and all those of a stage from the stage on.
pub exists-blind : {f : Fn} (i : ℕ) → Blind (suc i) f → Blind i (exists_f (suc (2 * i)) f)
exists-blind {f} i r x ix v b =
    let at : (c : Bool) → f (upd (upd v (suc (2 * x)) b) (suc (2 * i)) c) ≡ f (upd v (suc (2 * i)) c) = λ c.
    by_cases (ℕ_discrete x i)
    (λ e. rw e (ap f (upd_again v (suc (2 * i)) b c)))
    (λ ne. ap f (upd-swap v (suc (2 * x)) (suc (2 * i)) b c (λ q. ne (omega arith))) ∙ r x (omega arith) (upd v (suc (2 * i)) c) b)
    in
    let p = at false in
    let q = at true in
    cc (p, q)

pub from-blind : {f : Fn} (d j : ℕ) → Blind (d + j) f → Blind j (exists_from d j f)
unfolding exists_from
from-blind {f} zero j r = blind-more {f = f} (0 + j) j (omega arith) r
from-blind {f} (suc d) j r =
    exists-blind {f = exists_from d (suc j) f} j (from-blind {f = f} d (suc j) (blind-more {f = f} (suc d + j) (d + suc j) (omega arith) r))

-- EXISTS at levels that are not read changes nothing.
pub from_unread : {f : Fn} (d z j : ℕ) → d ≤ z → Blind (d + j) f → exists_from z j f ≡ exists_from d j f
unfolding exists_from
from_unread zero zero j h r = refl
from_unread {f} zero (suc z) j h r =
    let i : exists_from z (suc j) f
    ≡ f = from_unread {f = f} zero z (suc j) (omega arith) (blind-more {f = f} (0 + j) (0 + suc j) (omega arith) r) in
    ap (exists_f (suc (2 * j))) i
    ∙ fun_ext (λ v.
    let p = r j (omega arith) v false in
    let q = r j (omega arith) v true in
    let o = or_self (f v) in
    cc (p, q, o))
from_unread (suc d) zero j h r = absurd (omega arith)
from_unread {f} (suc d) (suc z) j h r =
    ap (exists_f (suc (2 * j))) (from_unread {f = f} d z (suc j) (omega arith) (blind-more {f = f} (suc d + j) (d + suc j) (omega arith) r))

-- So a set of states is each stage of itself.
pub from-even : (f : Fn) (d j : ℕ) → Blind 0 f → exists_from d j f ≡ f
unfolding exists_from
from-even f d j r = from_unread {f = f} 0 d j (omega arith) (blind-more {f = f} 0 (0 + j) (omega arith) r)

module _ {m : ℕ} (f : Fn) (i : ℕ) (small : i ≤ 16) (blind : Blind i f) where
  -- A stage of what reads only levels of the stage is `odd_f`.
  pub blind-odd : (d j : ℕ) → d + j ≡ i → Reads (suc (2 * j)) m f → exists_from d j f ≡ odd_f f
  blind-odd d j e r =
      sym (from_unread {f = f} d (16 - j) j (omega arith) (blind-more {f = f} i (d + j) (omega arith) blind))
      ∙ sym (from_last {lo = suc (2 * j)} {hi = m} f r j (16 - j) 0 j 16 (omega arith) (omega arith) (omega arith))

-- `odd_f` of a function of at most 32 levels is a set of states.
pub odd-blind : {hi : ℕ} {f : Fn} → hi ≤ 32 → Reads 0 hi f → Blind 0 (odd_f f)
odd-blind {f = f} h r = from-blind {f = f} 16 0 (blind_reads {f = f} 16 (omega arith) r)
