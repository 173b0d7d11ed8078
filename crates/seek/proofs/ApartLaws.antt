-- Laws of what specs/Apart.antt defines. Assumes nothing.
use mathlib.Core.Path.{◌≡◌, refl, sym, ap, ◌∙◌}
use mathlib.Core.Logic.{◌≢◌}
use mathlib.Core.Bool.{Bool, true, false, cond, not, ◌&&◌, true≢false}
use Prim.Native.Nat.{ℕ, ◌*◌}
use native.Mathlib.Omega.{arith}
use Rattle.layout.specs.Places.{BITS, LEVEL}
use Rattle.layout.specs.View.{View}
use Rattle.layout.specs.Arrows.{is_row, row_of}
use Rattle.diagram.specs.Rows.{follow}
use Rattle.diagram.proofs.Den.{den-zero}
use Rattle.rows.specs.Used.{rows_of}
use Rattle.book.specs.States.{pair_val}
use Rattle.paths.specs.Runs.{first_of}
use Rattle.paths.proofs.First.{first-none}
use Rattle.seek.specs.Walk.{HoldsPre, holds_at}
use Rattle.seek.proofs.Walk.{child-pre, walk-child}
use Rattle.seek.specs.Search.{in_both}
use Rattle.seek.specs.Apart.{level_at, Followed, Apart}

module _ (W : View) where
  level-row : {i : ℕ} (a : ℕ) → is_row a ≡ true → i ≡ row_of a → level_at W a ≡ W.cell i LEVEL
  level-row {i} a t e = ap (λ (r : Bool). cond r (W.cell (row_of a) LEVEL) 32) t ∙ ap (λ (k : ℕ). W.cell k LEVEL) (sym e)

  level-none : (a : ℕ) → is_row a ≡ false → level_at W a ≡ 32
  level-none a t = ap (λ (r : Bool). cond r (W.cell (row_of a) LEVEL) 32) t

  pub level-is : {i l : ℕ} (a : ℕ) → is_row a ≡ true → i ≡ row_of a → l ≡ W.cell i LEVEL → l ≡ level_at W a
  level-is a t e q = q ∙ sym (level-row a t e)

  pub level-beyond : (a : ℕ) → is_row a ≡ false → 32 ≡ level_at W a
  level-beyond a t = sym (level-none a t)

  -- ---- the steps of `follow_at`

  -- another level
  pub stays : {l m : ℕ} (high : Bool) (a : ℕ) → HoldsPre W a → m ≡ level_at W a → m ≢ l → Followed W a l high a
  stays high a p e n = record { pre = p; same = λ s t _. refl; most = omega arith; less = λ _ q. absurd (n (e ∙ sym q)) }

  -- no row
  pub stays_constant : {l : ℕ} (high : Bool) (a : ℕ) → HoldsPre W a → is_row a ≡ false → Followed W a l high a
  stays_constant high a p t = record { pre = p; same = λ s t _. refl; most = omega arith; less = λ n q. absurd (n (q ∙ level-none a t)) }

  -- a row's own level
  pub follows : {i l m x : ℕ} {high : Bool} (side : Bool) (a : ℕ) → HoldsPre W a → is_row a ≡ true → i ≡ row_of a → m ≡ level_at W a → m ≡ l
      → high ≡ side
      → x ≡ follow (rows_of W) a i side → Followed W a l high x
  follows {i} {l} side a p t e em el eh ex =
      let c = child-pre W a side p t e ex in
      let at : l ≡ W.cell i LEVEL = sym el ∙ em ∙ level-row a t e in
      record {
        pre = c.0;
        same = λ s u h. (walk-child W s u a side p t e (ap (pair_val s u) (sym at) ∙ h ∙ eh) ex).same;
        most = let g = c.1 in omega arith;
        less = λ _ _. c.1;
      }

  -- ---- the steps of `apart`

  pub apart-first : {a : ℕ} (b : ℕ) → a ≡ 0 → Apart W a b true
  apart-first b e _ s =
      ap (λ (k : ℕ). holds_at W k s 0 && holds_at W b s 0) e
      ∙ ap (λ (x : Bool). x && holds_at W b s 0) (den-zero (2 * W.header BITS) (rows_of W) (pair_val s 0))

  pub apart-second : (a : ℕ) {b : ℕ} → b ≡ 0 → Apart W a b true
  apart-second a e _ s =
      ap (λ (k : ℕ). holds_at W a s 0 && holds_at W k s 0) e
      ∙ ap (λ (x : Bool). holds_at W a s 0 && x) (den-zero (2 * W.header BITS) (rows_of W) (pair_val s 0)) ∙ none (holds_at W a s 0)
    where
      none : (x : Bool) → (x && false) ≡ false
      none true = refl
      none false = refl

  -- both halves share no state
  pub apart-both : {l x y z w : ℕ} {p r : Bool} (a b : ℕ) → Followed W a l false x → Followed W b l false y → Followed W a l true z
      → Followed W b l true w
      → Apart W x y p → not p ≡ false → Apart W z w r → Apart W a b r
  apart-both {l} {x} {y} {z} {w} {p} {r} a b fx fy fz fw low e high t s = go (pair_val s 0 l) refl
    where
      yes-low : (q : Bool) → not q ≡ false → q ≡ true
      yes-low true h = refl
      yes-low false h = absurd (true≢false h)

      go : (v : Bool) → pair_val s 0 l ≡ v → in_both W a b s ≡ false
      go true h =
          ap (λ (u : Bool). u && holds_at W b s 0) (sym (fz.same s 0 h)) ∙ ap (λ (u : Bool). holds_at W z s 0 && u) (sym (fw.same s 0 h))
          ∙ high t s
      go false h =
          ap (λ (u : Bool). u && holds_at W b s 0) (sym (fx.same s 0 h)) ∙ ap (λ (u : Bool). holds_at W x s 0 && u) (sym (fy.same s 0 h))
          ∙ low (yes-low p e) s

  -- so the search ends before it begins
  pub apart_none : {k states : ℕ} {r : Bool} (a b : ℕ) → states ≡ k → Apart W a b r → r ≡ true → states ≡ first_of k (in_both W a b)
  apart_none {k} a b e h t = e ∙ sym (first-none k (in_both W a b) (λ j l. h t j))
