-- Laws of what specs/Checks.antt defines. Assumes nothing.
use mathlib.Core.Path.{◌≡◌, refl, sym, ◌∙◌, subst}
use mathlib.Core.Bool.{true, false}
use mathlib.Core.Logic.{◌≢◌}
use Prim.Native.Nat.{ℕ, zero, suc, ◌+◌, ◌-◌, ◌<◌}
use native.Mathlib.Omega.{arith}
use Rattle.layout.specs.Places.{LEVEL, NEXT, RANK}
use Rattle.layout.specs.View.{View}
use Rattle.layout.specs.Arrows.{is_row, row_of}
use Rattle.layout.proofs.Arrows.{row_is, no_row-leads}
use Rattle.rows.specs.Used.{used}
use Rattle.rows.specs.Index.{stop, Down, Link, key_of}
use Rattle.rows.proofs.Index.{down_link, live-used}
use Rattle.rows.proofs.Lookup.{link_used, used_row}
use Rattle.soundness.specs.Checks.{LeadsTo, Leads, Finds, Links}

-- an arrow that leads to no row, and one that leads to row i
pub leads_constant : (W : View) (above a : ℕ) → is_row a ≡ false → Leads W above a
leads_constant W above a h = subst (LeadsTo W above) (sym (no_row-leads a h)) tt

pub leads_of : {i : ℕ} (W : View) (above a : ℕ) → is_row a ≡ true → i ≡ row_of a → (used W i ≡ true) × (above < W.cell i LEVEL)
    → Leads W above a
leads_of W above a h e p = subst (LeadsTo W above) (sym (row_is a h)) (rw e at p)

pub of_leads : {i : ℕ} (W : View) (above a : ℕ) → is_row a ≡ true → i ≡ row_of a → Leads W above a
    → (used W i ≡ true) × (above < W.cell i LEVEL)
of_leads W above a h e p = rw e (subst (LeadsTo W above) (row_is a h) p)

-- a link that is not 0
pub down_of : (W : View) (k p : ℕ) → p ≢ 0 → (used W (p - 1) ≡ true) × (W.cell (p - 1) RANK < k) → Down W k p
down_of W k zero n h = absurd (n refl)
down_of W k (suc j) n h = let e : suc j - 1 ≡ j = omega arith in rw e at h

pub of_down : (W : View) (k p : ℕ) → p ≢ 0 → Down W k p → (used W (p - 1) ≡ true) × (W.cell (p - 1) RANK < k)
of_down W k zero n h = absurd (n refl)
of_down W k (suc j) n h = let e : suc j - 1 ≡ j = omega arith in rw e h

pub link_row : {W : View} {p : ℕ} → Links W → p ≢ 0 → Link (used W) p → p - 1 < W.rows
link_row {W} {p} k n l = used_row W (p - 1) (link_used W p n l)

pub link_next : {W : View} {p : ℕ} → Links W → p ≢ 0 → Link (used W) p → Link (used W) (W.cell (p - 1) NEXT)
link_next {W} {p} k n l = down_link W (W.cell (p - 1) RANK) (W.cell (p - 1) NEXT) (k.nexts (p - 1) (link_used W p n l))

-- a used row that its bucket's head names is found
pub head_finds : (W : View) (i : ℕ) {p : ℕ} → used W i ≡ true → p ≡ W.head (key_of W i) → p ≡ i + 1 → Finds W i
head_finds W i {p} u h e =
    let q : W.head (key_of W i) ≡ suc i = sym h ∙ (let z : p ≡ suc i = omega arith in z) in
    rw (q, live-used (used W) i u) (stop (record { level = refl; low = refl; high = refl }))
