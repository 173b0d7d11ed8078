-- Laws of what specs/Within.antt defines. Assumes nothing.
use mathlib.Core.Path.{◌≡◌, ap, ◌∙◌}
use Prim.Native.Nat.{ℕ, suc, ◌*◌}
use Rattle.diagram.proofs.Den.{den-one}
use Rattle.layout.specs.Places.{BITS}
use Rattle.layout.specs.View.{View}
use Rattle.rows.specs.Used.{rows_of}
use Rattle.rows.specs.Within.{den_of, Within}

-- everything is within everything
pub within_all : (W : View) (v : ℕ) → v ≡ 1 → Within W v
within_all W v e = record {
  roots = λ h lo hi a q x g. ap (λ (k : ℕ). den_of W k x) e ∙ den-one (2 * W.header BITS) (rows_of W) x;
  shifted = λ h lo hi a q x g. ap (λ (k : ℕ). den_of W k (λ l. x (suc l))) e ∙ den-one (2 * W.header BITS) (rows_of W) (λ l. x (suc l));
}
