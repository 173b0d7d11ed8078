-- Laws of what specs/Open.antt defines. Assumes nothing.
use mathlib.Core.Path.{◌≡◌, sym, ap, ◌∙◌}
use mathlib.Core.Bool.{true}
use Prim.Native.Nat.{ℕ, suc, ◌+◌, ◌*◌, ◌-◌, ◌≤◌, ◌<◌}
use native.Mathlib.Omega.{arith}
use Rattle.diagram.specs.Rows.{Rows, Leads, Arrow, level_of, WellFormed, Extends}
use Rattle.diagram.proofs.Rows.{leads-level}
use Rattle.diagram.proofs.Grow.{arrow_extends, level_extends}
use Rattle.diagram.proofs.Steps.{Parts, parts-row}
use Rattle.layout.specs.Arrows.{is_row, row_of}
use Rattle.layout.proofs.Arrows.{row_is}
use Rattle.rows.proofs.Used.{of_arrow}
use Rattle.operations.specs.Open.{RowIs, ReachesLevel}

-- a leads to row i, which is used
pub record RowAt (rows : Rows) (a i : ℕ) : Type 0 where
  pub leads : Leads a i
  pub used : rows.used i ≡ true

pub row_at : {rows : Rows} {i : ℕ} (a : ℕ) → Arrow rows a → is_row a ≡ true → i ≡ row_of a → RowAt rows a i
row_at {rows} a u h e = record { leads = row_is a h ∙ ap suc (sym e); used = of_arrow rows a h e u }

-- as the code finds it
pub reaches : {rows : Rows} {i l x : ℕ} (a : ℕ) → is_row a ≡ true → i ≡ row_of a → l ≡ rows.level i → l ≤ x → ReachesLevel rows x a
reaches {rows} a h q e t = record { is_row = h; upto = let z = e ∙ ap rows.level q in omega arith }

pub reached : {rows : Rows} {x a i l lo hi : ℕ} → ReachesLevel rows x a → i ≡ row_of a → RowIs rows a i l lo hi → l ≤ x
reached {rows} p q n = let z = n.level ∙ ap rows.level q in let t = p.upto in omega arith

-- a row of level l with parts lo and hi
pub record Opened (m : ℕ) (rows : Rows) (a i l lo hi : ℕ) : Type 0 where
  pub at : RowAt rows a i
  pub words : RowIs rows a i l lo hi
  pub level : level_of m rows a ≡ l
  pub shallow : l < m
  pub parts : Parts m rows l a lo hi

pub opened : {m N : ℕ} {rows : Rows} {a i l lo hi : ℕ} → WellFormed m N rows → RowAt rows a i → RowIs rows a i l lo hi
    → Opened m rows a i l lo hi
opened {m} {rows = rows} {a = a} {i = i} wf r n =
    let p = parts-row wf a i r.leads r.used in
    record {
      at = r;
      words = n;
      level = leads-level m rows a i r.leads ∙ sym n.level;
      shallow = rw n.level (wf.ok i r.used).shallow;
      parts = rw (n.level, n.low, n.high) p;
    }

-- "Recursion over a diagram descends to greater levels only": the levels from an arrow's on
abbrev pub depth : ℕ → Rows → ℕ → ℕ
depth m rows a = m - level_of m rows a

-- a call on a part of a row: the measures are 2 d for the work on a row and 2 d + 1 for any arrow
pub part_falls : (d e : ℕ) → d < e → 2 * d + 1 < 2 * e
part_falls d e h = omega arith

module _ {m : ℕ} {rows : Rows} {a i l lo hi : ℕ} (o : Opened m rows a i l lo hi) where
  pub low-falls : depth m rows lo < depth m rows a
  low-falls = let p = o.parts.low_deeper in let q = o.level in let s = o.shallow in omega arith

  -- and in the larger table that the first call leaves
  pub high-falls : {new : Rows} → Extends rows new → depth m new hi < depth m rows a
  high-falls {new} e =
      let p = o.parts.high_deeper in
      let q = o.level in let s = o.shallow in rw (level_extends e m hi o.parts.high-arrow) (omega arith)

  pub high-later : {new : Rows} → Extends rows new → Arrow new hi
  high-later e = arrow_extends e hi o.parts.high-arrow
