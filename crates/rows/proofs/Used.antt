-- Laws of what specs/Used.antt defines. Assumes nothing.
use mathlib.Core.Path.{◌≡◌, refl, ap, sym, subst}
use mathlib.Core.Bool.{Bool, true, false, cond, true≢false}
use Prim.Native.Nat.{ℕ, ◌<◌}
use lib.Dec.{ltb, eqb}
use borrow.Author.Tests.{ltb-true, lt-ltb, eqb-true, eq-eqb}
use Rattle.layout.specs.Places.{USED}
use Rattle.diagram.specs.Rows.{Rows, Arrow, ArrowTo}
use Rattle.layout.specs.View.{View}
use Rattle.layout.specs.Arrows.{is_row, row_of}
use Rattle.layout.proofs.Arrows.{row_is, no_row-leads}
use Rattle.rows.specs.Used.{used_at, used, Ranked}

-- a used row's place
pub record InList (N c : ℕ) (rk ls : ℕ → ℕ) (i : ℕ) : Type 0 where
  pub row : i < N
  pub place : rk i < c
  pub there : ls (rk i) ≡ i

module _ (N c : ℕ) (rk ls : ℕ → ℕ) (i : ℕ) where
  pub used-yes : InList N c rk ls i → used_at N c rk ls i ≡ true
  unfolding used_at
  used-yes p = rw (lt-ltb i N p.row, lt-ltb (rk i) c p.place, eq-eqb (ls (rk i)) i p.there)

  pub used_in : used_at N c rk ls i ≡ true → InList N c rk ls i
  unfolding used_at
  used_in e = go (ltb i N) refl (ltb (rk i) c) refl (eqb (ls (rk i)) i) refl e
    where
      go : (x : Bool) → ltb i N ≡ x → (y : Bool) → ltb (rk i) c ≡ y → (z : Bool) → eqb (ls (rk i)) i ≡ z
          → cond x (cond y z false) false ≡ true → InList N c rk ls i
      go true p true q true r w = record { row = ltb-true i N p; place = ltb-true (rk i) c q; there = eqb-true (ls (rk i)) i r }
      go true p true q false r w = absurd (true≢false (sym w))
      go true p false q z r w = absurd (true≢false (sym w))
      go false p y q z r w = absurd (true≢false (sym w))

  pub used-no : (InList N c rk ls i → ⊥) → used_at N c rk ls i ≡ false
  used-no h = go (used_at N c rk ls i) refl
    where
      go : (b : Bool) → used_at N c rk ls i ≡ b → b ≡ false
      go true e = absurd (h (used_in e))
      go false e = refl

-- the rows in the list are the used ones
pub listed-used : (W : View) → Ranked W → (k : ℕ) → k < W.header USED → used W (W.list k) ≡ true
listed-used W r k h = used-yes _ _ _ _ _ (record { row = r.within k h; place = rw (r.back k h) h; there = ap W.list (r.back k h) })

-- an arrow that leads to no row, and one that leads to row i
pub arrow_constant : (rows : Rows) (a : ℕ) → is_row a ≡ false → Arrow rows a
arrow_constant rows a h = subst (ArrowTo rows) (sym (no_row-leads a h)) tt

pub arrow_of : {i : ℕ} (rows : Rows) (a : ℕ) → is_row a ≡ true → i ≡ row_of a → rows.used i ≡ true → Arrow rows a
arrow_of rows a h e u = subst (ArrowTo rows) (sym (row_is a h)) (rw e at u)

pub of_arrow : {i : ℕ} (rows : Rows) (a : ℕ) → is_row a ≡ true → i ≡ row_of a → Arrow rows a → rows.used i ≡ true
of_arrow rows a h e u = rw e (subst (ArrowTo rows) (row_is a h) u)
