-- Laws of what specs/Filled.antt defines. Assumes nothing.
use mathlib.Core.Path.{◌≡◌, ap, sym, ◌∙◌, subst}
use mathlib.Core.Logic.{◌⊎◌, inl, inr, ⊎_elim, by_cases}
use mathlib.Core.List.Memᴰ.{cases_cons as mem-cases}
use mathlib.Core.List.Memᴰ.{head as first}
use mathlib.Core.List.Memᴰ.{tail as later}
use mathlib.Core.List.{List, Memᴰ as Mem}
use mathlib.Core.List.Memᴰ.{not-nil as mem-nil}
use Prim.Native.Nat.{ℕ, zero, suc, ◌+◌, ◌≤◌, ◌<◌}
use native.Mathlib.Omega.{arith}
use native.Mathlib.Decide.{ℕ_discrete}
use Rattle.diagram.specs.Rows.{Arrow}
use Rattle.layout.specs.Places.{VALID, ROOTS_END, ROOTS}
use Rattle.layout.specs.View.{View}
use Rattle.rows.specs.Used.{rows_of}
use Rattle.rows.specs.Roots.{Ref, Held}
use Rattle.rows.specs.Sound.{Sound}
use Rattle.rows.specs.Filled.{push, held, filled}

mem-push : (a w : ℕ) (xs : List ℕ) → Mem a (push w xs) → (w ≡ suc a) ⊎ Mem a xs
mem-push a zero xs h = inr h
mem-push a (suc b) xs h = ⊎_elim (λ e. inl (ap suc (sym e))) (λ g. inr g) (mem-cases h)

push-mem : (a w : ℕ) (xs : List ℕ) → Mem a xs → Mem a (push w xs)
push-mem a zero xs h = h
push-mem a (suc b) xs h = later h

push-first : (a w : ℕ) (xs : List ℕ) → w ≡ suc a → Mem a (push w xs)
push-first a zero xs e = absurd (omega arith)
push-first a (suc b) xs e = let q : a ≡ b = omega arith in first q

mem-held : (W : View) (start k a : ℕ) → Mem a (held W start k) → Held W start (start + k) a
unfolding held
mem-held W start zero a h = absurd (mem-nil h)
mem-held W start (suc k) a h = ⊎_elim
    (λ e. record { at = start + k; from = omega arith; below = omega arith; holds = e })
    (λ g. let x = mem-held W start k a g in
    record { at = x.at; from = x.from; below = let l = x.below in omega arith; holds = x.holds })
    (mem-push a (W.header (start + k)) (held W start k) h)

held-mem : (W : View) (start k a : ℕ) → Held W start (start + k) a → Mem a (held W start k)
unfolding held
held-mem W start zero a x = absurd (let f = x.from in let l = x.below in omega arith)
held-mem W start (suc k) a x = by_cases (ℕ_discrete x.at (start + k))
    (λ e. push-first a (W.header (start + k)) (held W start k) (sym (ap W.header e) ∙ x.holds))
    (λ n. push-mem a (W.header (start + k)) (held W start k)
    (held-mem W start k a (record { at = x.at; from = x.from; below = let l = x.below in omega arith; holds = x.holds })))

-- the same as words of the header
pub mem-filled : (W : View) (a : ℕ) → Mem a (filled W) → Held W VALID ROOTS_END a
mem-filled W a h = mem-held W VALID ROOTS a h

pub filled-mem : (W : View) (a : ℕ) → Held W VALID ROOTS_END a → Mem a (filled W)
filled-mem W a x = held-mem W VALID ROOTS a x

-- what a root holds is among them
pub root-filled : (W : View) (h a : ℕ) → VALID ≤ h → h < ROOTS_END → W.header h ≡ suc a → Mem a (filled W)
root-filled W h a lo hi e = filled-mem W a (record { at = h; from = lo; below = hi; holds = e })

-- a sound table's roots hold arrows
pub filled-arrow : {W : View} → Sound W → (a : ℕ) → Mem a (filled W) → Arrow (rows_of W) a
filled-arrow {W} s a h = let x = mem-filled W a h in subst (Ref (rows_of W)) x.holds (s.refs x.at x.from x.below)
