-- What lies within V stays there where the roots stay and denote what they did: in a table with more rows, and in one that kept what the
-- roots reach. Assumes nothing.
use mathlib.Core.Path.{◌≡◌, sym, ap, ◌∙◌, subst}
use mathlib.Core.Logic.{◌≢◌}
use mathlib.Core.List.{List, Memᴰ as Mem}
use Prim.Native.Nat.{ℕ, suc, ◌-◌, ◌*◌, ◌≤◌, ◌<◌}
use native.Mathlib.Omega.{arith}
use Rattle.diagram.specs.Level.{Val}
use Rattle.diagram.specs.Rows.{WellFormed, den, Extends}
use Rattle.diagram.proofs.Grow.{den_extends}
use Rattle.diagram.specs.Keep.{Keeps}
use Rattle.diagram.proofs.Keep.{keeps_den}
use Rattle.layout.specs.Places.{BITS, VALID, ROOTS_END}
use Rattle.layout.specs.View.{View}
use Rattle.rows.specs.Used.{rows_of}
use Rattle.rows.specs.Roots.{Ref}
use Rattle.rows.specs.Within.{den_of, valid_of, Within}
use Rattle.rows.specs.Filled.{filled}
use Rattle.rows.proofs.Filled.{root-filled}

-- V's root is one more than its arrow
pub valid-is : (W : View) → W.header VALID ≢ 0 → W.header VALID ≡ suc (valid_of W)
valid-is W n = omega arith

-- each root of the header stays
abbrev pub RootsKept : View → View → Type 0
RootsKept W X = (h : ℕ) → VALID ≤ h → h < ROOTS_END → X.header h ≡ W.header h

module _ (W X : View) (k : RootsKept W X) (n : W.header VALID ≢ 0) where
  pub valid-kept : X.header VALID ≢ 0
  valid-kept e = n (sym (k VALID (omega arith) (omega arith)) ∙ e)

  pub valid_of-kept : valid_of X ≡ valid_of W
  valid_of-kept = ap (λ (r : ℕ). r - 1) (k VALID (omega arith) (omega arith))

  -- each root denotes what it did
  module _ (same : (h a : ℕ) → VALID ≤ h → h < ROOTS_END → W.header h ≡ suc a → (x : Val) → den_of X a x ≡ den_of W a x) where
    valid_same : (x : Val) → den_of X (valid_of X) x ≡ den_of W (valid_of W) x
    valid_same x = ap (λ (v : ℕ). den_of X v x) valid_of-kept ∙ same VALID (valid_of W) (omega arith) (omega arith) (valid-is W n) x

    pub within_same : Within W (valid_of W) → Within X (valid_of X)
    within_same w = record {
      roots = λ h lo hi a q x g.
          let q' : W.header h ≡ suc a = sym (k h (omega arith) hi) ∙ q in
          valid_same x ∙ w.roots h lo hi a q' x (sym (same h a (omega arith) hi q' x) ∙ g);
      shifted = λ h lo hi a q x g.
          let q' : W.header h ≡ suc a = sym (k h (omega arith) hi) ∙ q in
          valid_same (λ l. x (suc l)) ∙ w.shifted h lo hi a q' x (sym (same h a (omega arith) hi q' x) ∙ g);
    }

  module _ (b : X.header BITS ≡ W.header BITS) where
    -- rows were only added
    pub within_extends : WellFormed (2 * W.header BITS) W.rows (rows_of W)
        → ((h : ℕ) → VALID ≤ h → h < ROOTS_END → Ref (rows_of W) (W.header h))
        → Extends (rows_of W) (rows_of X) → Within W (valid_of W) → Within X (valid_of X)
    within_extends wf r e = within_same λ h a lo hi q x.
        ap (λ (m : ℕ). den (2 * m) (rows_of X) a x) b ∙ den_extends e wf (2 * W.header BITS) a (subst (Ref (rows_of W)) q (r h lo hi)) x

    -- what some arrows reach was kept, the roots among them
    pub within_keeps : {some : List ℕ} → ((a : ℕ) → Mem a (filled W) → Mem a some) → Keeps (rows_of W) (rows_of X) some → Within W (valid_of W)
        → Within X (valid_of X)
    within_keeps f e = within_same λ h a lo hi q x.
        ap (λ (m : ℕ). den (2 * m) (rows_of X) a x) b ∙ keeps_den e (2 * W.header BITS) a (f a (root-filled W h a lo hi q)) x
