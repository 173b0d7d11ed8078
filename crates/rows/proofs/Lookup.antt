-- Laws of what specs/Lookup.antt defines. Assumes nothing.
use mathlib.Core.Path.{◌≡◌, refl, ◌∙◌, subst}
use mathlib.Core.Bool.{Bool, true, false}
use mathlib.Core.Logic.{◌≢◌}
use Prim.Native.Nat.{ℕ, zero, suc, ◌-◌, ◌<◌}
use native.Mathlib.Omega.{arith}
use Rattle.layout.specs.Places.{NEXT, RANK}
use Rattle.layout.specs.View.{View}
use Rattle.rows.specs.Used.{used}
use Rattle.rows.proofs.Used.{used_in}
use Rattle.rows.specs.Index.{Has, Hit, stop, skip, Down, Link, live}
use Rattle.rows.proofs.Index.{live-used, live-not}
use Rattle.rows.specs.Lookup.{height}

-- the steps of a walk along a chain
pub hit_zero : {W : View} {l lo hi p i : ℕ} → Hit W l lo hi p i → p ≡ 0 → ⊥
hit_zero (stop a) e = absurd (omega arith)
hit_zero (skip n r) e = absurd (omega arith)

hit_stop' : {W : View} {l lo hi p i : ℕ} → Hit W l lo hi p i → (k : ℕ) → p ≡ suc k → Has W k l lo hi → i ≡ k
hit_stop' (stop a) k e h = omega arith
hit_stop' {W} {l} {lo} {hi} (skip {j} n r) k e h = let q : k ≡ j = omega arith in absurd (n (subst (λ (x : ℕ). Has W x l lo hi) q h))

hit_skip' : {W : View} {l lo hi p i : ℕ} → Hit W l lo hi p i → (k : ℕ) → p ≡ suc k → (Has W k l lo hi → ⊥)
    → Hit W l lo hi (W.cell k NEXT) i
hit_skip' {W} {l} {lo} {hi} (stop {j} a) k e h = let q : j ≡ k = omega arith in absurd (h (subst (λ (x : ℕ). Has W x l lo hi) q a))
hit_skip' {W} {l} {lo} {hi} {i = i} (skip {j} n r) k e h =
    let q : j ≡ k = omega arith in subst (λ (x : ℕ). Hit W l lo hi (W.cell x NEXT) i) q r

pub hit_stop : {W : View} {l lo hi p i : ℕ} → p ≢ 0 → Has W (p - 1) l lo hi → Hit W l lo hi p i → i ≡ p - 1
hit_stop {p = p} n h r = hit_stop' r (p - 1) (omega arith) h

pub hit_skip : {W : View} {l lo hi p i : ℕ} → p ≢ 0 → (Has W (p - 1) l lo hi → ⊥) → Hit W l lo hi p i
    → Hit W l lo hi (W.cell (p - 1) NEXT) i
hit_skip {p = p} n h r = hit_skip' r (p - 1) (omega arith) h

pub stop_hit : (W : View) (l lo hi p i : ℕ) → p ≢ 0 → Has W (p - 1) l lo hi → i ≡ p - 1 → Hit W l lo hi p i
stop_hit W l lo hi zero i n h e = absurd (n refl)
stop_hit W l lo hi (suc j) i n h e =
    let q : suc j - 1 ≡ j = omega arith in
    rw (e ∙ q) (stop (rw q at h))

pub skip_hit : (W : View) (l lo hi p i : ℕ) → p ≢ 0 → (Has W (p - 1) l lo hi → ⊥) → Hit W l lo hi (W.cell (p - 1) NEXT) i
    → Hit W l lo hi p i
skip_hit W l lo hi zero i n h r = absurd (n refl)
skip_hit W l lo hi (suc j) i n h r = let q : suc j - 1 ≡ j = omega arith in skip (rw q at h) (rw q at r)

pub height-falls : (W : View) (p q : ℕ) → p ≢ 0 → Down W (W.cell (p - 1) RANK) q → height W q < height W p
height-falls W zero q n d = absurd (n refl)
height-falls W (suc j) zero n d = omega arith
height-falls W (suc j) (suc k) n d = let e : suc j - 1 ≡ j = omega arith in let h = (rw e at d).1 in omega arith

-- the row that a link leads to
pub link_used : (W : View) (p : ℕ) → p ≢ 0 → Link (used W) p → used W (p - 1) ≡ true
link_used W zero n l = absurd (n refl)
link_used W (suc j) n l = let e : suc j - 1 ≡ j = omega arith in rw e l

pub used_row : (W : View) (i : ℕ) → used W i ≡ true → i < W.rows
used_row W i u = (used_in _ _ _ _ _ u).row

pub live-not-zero : (u : ℕ → Bool) (p : ℕ) → p ≢ 0 → u (p - 1) ≡ true → live u p ≡ p
live-not-zero u zero n e = absurd (n refl)
live-not-zero u (suc j) n e = let q : suc j - 1 ≡ j = omega arith in live-used u j (rw q at e)

pub live-no : (u : ℕ → Bool) (p : ℕ) → p ≢ 0 → u (p - 1) ≡ false → live u p ≡ 0
live-no u zero n e = absurd (n refl)
live-no u (suc j) n e = let q : suc j - 1 ≡ j = omega arith in live-not u j (rw q at e)
