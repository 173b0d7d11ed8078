-- EXISTS at every odd level: what it is of the constants and of a row's parts, and which rows are covered with theirs. Assumes nothing.
use mathlib.Core.Path.{◌≡◌, refl, sym, ap, ◌∙◌, subst, fun_ext}
use mathlib.Core.Logic.{◌≢◌, by_cases}
use mathlib.Core.Bool.{Bool, true, false, cond, ◌||◌, or_self}
use Prim.Native.Nat.{ℕ, zero, suc, ◌+◌, ◌*◌, ◌/◌, ◌%◌, ◌≤◌, ◌<◌}
use native.Mathlib.Decide.{ℕ_discrete}
use native.Mathlib.Omega.{arith}
use lib.Dec.{eqb→eq}
use Rattle.diagram.specs.Level.{Val, Fn, upd}
use Rattle.diagram.proofs.Level.{upd_other, Reads, Splits}
use Rattle.diagram.specs.Rows.{Rows, marked, target, Leads, carry, Arrow, ArrowTo, child, follow, den, WellFormed, Extends}
use Rattle.diagram.proofs.Rows.{leads-used}
use Rattle.diagram.proofs.Den.{den_constant, follow-arrow}
use Rattle.diagram.proofs.Grow.{den_extends}
use Rattle.diagram.specs.Post.{Denotes}
use Rattle.diagram.proofs.Post.{denotes_extends}
use Rattle.diagram.specs.Steps.{or_f, exists_f}
use Rattle.diagram.proofs.Steps.{exists_reads, exists-here, exists-past}
use Rattle.diagram.specs.Even.{even}
use Rattle.diagram.specs.Odd.{exists_from, odd_f, Follows, self, on, Covered}

-- EXISTS at a level from hi on changes nothing
exists-above : {lo hi : ℕ} {f : Fn} (x : ℕ) → hi ≤ x → Reads lo hi f → (v : Val) → exists_f x f v ≡ f v
exists-above {f = f} x h r v =
    let same : (b : Bool) → f (upd v x b) ≡ f v = λ b. r _ _ (λ k a c. upd_other v x b k (omega arith)) in
    let p = same false in
    let q = same true in
    let o = or_self (f v) in
    cc (p, q, o)

-- EXISTS of OR is OR of EXISTS
exists_of_or : (x : ℕ) (f g : Fn) (v : Val) → exists_f x (or_f f g) v ≡ or_f (exists_f x f) (exists_f x g) v
exists_of_or x f g v = swap (f (upd v x false)) (g (upd v x false)) (f (upd v x true)) (g (upd v x true))
  where
    swap : (a b c d : Bool) → ((a || b) || (c || d)) ≡ ((a || c) || (b || d))
    swap true b c d = refl
    swap false true true d = refl
    swap false true false d = refl
    swap false false c d = refl

-- EXISTS at another level than the split's is taken in both parts
exists-parts : {m l : ℕ} {f f0 f1 : Fn} (x : ℕ) → x ≢ l → Splits m l f f0 f1 → Splits m l (exists_f x f) (exists_f x f0) (exists_f x f1)
exists-parts {l = l} {f0 = f0} {f1 = f1} x ne s = record {
  same = λ v.
      let p = s.same (upd v x false) in
      let q = s.same (upd v x true) in
      let e0 = upd_other v x false l (λ e. ne (sym e)) in
      let e1 = upd_other v x true l (λ e. ne (sym e)) in
      let c = both (v l) (f1 (upd v x false)) (f0 (upd v x false)) (f1 (upd v x true)) (f0 (upd v x true)) in
      cc (p, q, e0, e1, c);
  reads0 = exists_reads x s.reads0;
  reads1 = exists_reads x s.reads1;
}
  where
    both : (b y z y' z' : Bool) → (cond b y z || cond b y' z') ≡ cond b (y || y') (z || z')
    both true y z y' z' = refl
    both false y z y' z' = refl

-- the same for several odd levels: they read no more, and are taken in both parts of a split at a level that is none of them
pub from_reads : {lo hi : ℕ} {f : Fn} (d j : ℕ) → Reads lo hi f → Reads lo hi (exists_from d j f)
unfolding exists_from
from_reads zero j r = r
from_reads (suc d) j r = exists_reads (suc (2 * j)) (from_reads d (suc j) r)

from_parts : {m l : ℕ} {f f0 f1 : Fn} (d j : ℕ) → ((k : ℕ) → j ≤ k → suc (2 * k) ≢ l) → Splits m l f f0 f1
    → Splits m l (exists_from d j f) (exists_from d j f0) (exists_from d j f1)
unfolding exists_from
from_parts zero j ne s = s
from_parts (suc d) j ne s = exists-parts (suc (2 * j)) (ne j (omega arith)) (from_parts d (suc j) (λ k h. ne k (omega arith)) s)

-- levels that the function does not read change nothing
from-above : {lo hi : ℕ} {f : Fn} (d j : ℕ) → hi ≤ 2 * j → Reads lo hi f → (v : Val) → exists_from d j f v ≡ f v
unfolding exists_from
from-above zero j h r v = refl
from-above (suc d) j h r v = exists-above (suc (2 * j)) (omega arith) (from_reads d (suc j) r) v ∙ from-above d (suc j) (omega arith) r v

-- a split at one of the levels becomes OR of the parts
from-own : {m l : ℕ} {f f0 f1 : Fn} (d j k : ℕ) → l ≡ suc (2 * k) → j ≤ k → k < j + d → Splits m l f f0 f1
    → (v : Val) → exists_from d j f v ≡ or_f (exists_from d j f0) (exists_from d j f1) v
unfolding exists_from
from-own zero j k e jk kd s v = absurd (omega arith)
from-own {m} {l} {f} {f0} {f1} (suc d) j k e jk kd s v =
    by_cases (ℕ_discrete j k)
    (λ q.
    let el : suc (2 * j) ≡ l = omega arith in
    let t = from_parts d (suc j) (λ i h. omega arith) s in
    let p = exists-here t v in
    let p0 = exists-past l (omega arith) t.reads0 v in
    let p1 = exists-past l (omega arith) t.reads1 v in
    rw el (p ∙ cc (p0, p1)))
    (λ ne.
    let i : exists_from d (suc j) f ≡ or_f (exists_from d (suc j) f0) (exists_from d (suc j) f1)
    = fun_ext (from-own d (suc j) k e (omega arith) (omega arith) s) in
    ap (λ (g : Fn). exists_f (suc (2 * j)) g v) i ∙ exists_of_or (suc (2 * j)) (exists_from d (suc j) f0) (exists_from d (suc j) f1) v)

-- fewer levels are enough where the function does not read the others
pub from-fewer : {f : Fn} (d n j : ℕ) → n ≤ d → Reads 0 (2 * (j + n)) f → (v : Val) → exists_from d j f v ≡ exists_from n j f v
unfolding exists_from
from-fewer zero zero j h r v = refl
from-fewer zero (suc n) j h r v = absurd (omega arith)
from-fewer (suc d) zero j h r v = from-above (suc d) j (omega arith) r v
from-fewer {f} (suc d) (suc n) j h r v =
    let e : 2 * (j + suc n) ≡ 2 * (suc j + n) = omega arith in
    let i : exists_from d (suc j) f
    ≡ exists_from n (suc j) f = fun_ext (from-fewer d n (suc j) (omega arith) (subst (λ (k : ℕ). Reads 0 k f) e r)) in
    ap (λ (g : Fn). exists_f (suc (2 * j)) g v) i

-- what reads no level is its own
odd_const : {f : Fn} → ((v w : Val) → f v ≡ f w) → (v : Val) → odd_f f v ≡ f v
odd_const c v = from-above {lo = 0} {hi = 0} 16 0 (omega arith) (λ u w h. c u w) v

-- the constants
pub odd_constant : (m : ℕ) (rows : Rows) (a : ℕ) → target a ≡ 0 → Denotes m rows a (odd_f (den m rows a))
odd_constant m rows a e = record {
  arrow = subst (ArrowTo rows) (sym e) tt;
  same = λ v. sym (odd_const (λ u w. den_constant m rows a e u ∙ sym (den_constant m rows a e w)) v);
}

-- a row of an even level: the two parts
pub odd_even : {m l : ℕ} {F F0 F1 : Fn} → even l ≡ true → Splits m l F F0 F1 → Splits m l (odd_f F) (odd_f F0) (odd_f F1)
odd_even {l = l} e s =
    let q : l % 2 ≡ 0 = eqb→eq (l % 2) 0 (rw e tt) in
    from_parts 16 0 (λ k h. omega arith) s

-- a row of an odd level below 32: OR of the two parts
pub odd-at : {m l : ℕ} {F F0 F1 : Fn} → l % 2 ≡ 1 → l < 32 → Splits m l F F0 F1 → (v : Val) → odd_f F v ≡ or_f (odd_f F0) (odd_f F1) v
odd-at {l = l} e h s v = from-own 16 0 (l / 2) (omega arith) (omega arith) (omega arith) s v

-- of a function of levels below 2 n, the n odd levels below 2 n are enough
pub odd-bits : {n : ℕ} {F : Fn} → n ≤ 16 → Reads 0 (2 * n) F → (v : Val) → odd_f F v ≡ exists_from n 0 F v
odd-bits {n} {F} h r v =
    let e : 2 * n ≡ 2 * (0 + n) = omega arith in
    from-fewer 16 n 0 h (subst (λ (k : ℕ). Reads 0 k F) e r) v

-- what is covered stays so in a larger table
child_extends : {old new : Rows} → Extends old new → (i : ℕ) (b : Bool) → old.used i ≡ true → child new i b ≡ child old i b
child_extends e i false u = e.low i u
child_extends e i true u = e.high i u

follows_back : {m N : ℕ} {old new : Rows} {a c : ℕ} → WellFormed m N old → Extends old new → Arrow old a → Follows new a c
    → Follows old a c × Arrow old c
follows_back wf e u self = (self, u)
follows_back {old = old} {new = new} {a = a} wf e u (on {c = c} {i = i} b t l) =
    let (s, w) = follows_back wf e u t in
    let ui = leads-used old c i l w in
    let q : follow old c i b ≡ follow new c i b = ap (carry (marked c)) (sym (child_extends e i b ui)) in
    (subst (Follows old a) q (on b s l), subst (Arrow old) q (follow-arrow wf c i l b ui))

pub covered_extends : {m N : ℕ} {old new : Rows} {a : ℕ} → WellFormed m N old → Extends old new → Arrow old a → Covered m old a
    → Covered m new a
covered_extends {m} {old = old} {new = new} wf e u c x r =
    let (t, w) = follows_back wf e u r in
    let (b, d) = c x t in
    let q : den m old x ≡ den m new x = fun_ext (λ v. sym (den_extends e wf m x w v)) in
    (b, subst (λ (f : Fn). Denotes m new b (odd_f f)) q (denotes_extends wf e d))

-- from a constant nothing else is followed
follows_constant : {rows : Rows} {a c : ℕ} → target a ≡ 0 → Follows rows a c → c ≡ a
follows_constant e self = refl
follows_constant {a = a} e (on {c = c} b t l) = let q = ap target (follows_constant e t) in absurd (omega (arith, q, l, e))

pub covered_constant : (m : ℕ) (rows : Rows) (a : ℕ) → target a ≡ 0 → Covered m rows a
covered_constant m rows a e c t =
    (a, subst (λ (x : ℕ). Denotes m rows a (odd_f (den m rows x))) (sym (follows_constant e t)) (odd_constant m rows a e))

-- what is followed from an arrow to row i is the arrow itself, or followed from one of the two that are followed first
data From (rows : Rows) (a i : ℕ) (c : ℕ) : Type 0 where
  itself : c ≡ a → From rows a i c
  side : (b : Bool) → Follows rows (follow rows a i b) c → From rows a i c

from_on : {rows : Rows} {a i c j : ℕ} (b : Bool) → Leads a i → Leads c j → From rows a i c → From rows a i (follow rows c j b)
from_on {rows} {a} {i} {c} {j} b l g (itself q) =
    let z = ap target q in
    let k : j ≡ i = omega (arith, z, l, g) in
    let f : follow rows a i b ≡ follow rows c j b = ap (λ x. follow rows x i b) (sym q) ∙ ap (λ x. follow rows c x b) (sym k) in
    side b (subst (Follows rows (follow rows a i b)) f self)
from_on b l g (side x t) = side x (on b t g)

follows_row : {rows : Rows} {a i c : ℕ} → Leads a i → Follows rows a c → From rows a i c
follows_row l self = itself refl
follows_row l (on b t g) = from_on b l g (follows_row l t)

-- an arrow to a row is covered with its parts
pub covered-row : {m : ℕ} {rows : Rows} {a i b : ℕ} → Leads a i → Denotes m rows b (odd_f (den m rows a))
    → Covered m rows (follow rows a i false) → Covered m rows (follow rows a i true) → Covered m rows a
covered-row {m} {rows} {a} {i} {b} l d low high c r = pick (follows_row l r)
  where
    pick : From rows a i c → (x : ℕ) × Denotes m rows x (odd_f (den m rows c))
    pick (itself q) = (b, subst (λ (k : ℕ). Denotes m rows b (odd_f (den m rows k))) (sym q) d)
    pick (side false t) = low c t
    pick (side true t) = high c t
