-- Laws of what specs/Collect.antt defines. Assumes nothing.
use mathlib.Core.Path.{◌≡◌, sym}
use mathlib.Core.Bool.{true}
use mathlib.Core.List.{List, map, Memᴰ as Mem}
use Prim.Native.Nat.{ℕ}
use Rattle.diagram.specs.Rows.{Rows, Leads, row, den, WellFormed}
use Rattle.diagram.proofs.Grow.{freed_well_formed}
use Rattle.diagram.specs.Used.{used_rows, used_count}
use Rattle.diagram.proofs.Used.{mem-used_rows, used_rows-mem, nodup-used_rows}
use Rattle.diagram.specs.Need.{need}
use Rattle.diagram.specs.Reach.{Reach}
use Rattle.diagram.proofs.Reach.{reached_low, reached_high, reach-used, reach-count}
use Rattle.diagram.specs.Keep.{Keeps}
use Rattle.diagram.proofs.Keep.{reach-within, keeps_reached, keeps_arrow, keeps_reach}
use Rattle.diagram.proofs.Fits.{Part, collected_parts}
use Rattle.diagram.specs.Collect.{Collects}

-- Every row that the roots reach is kept.
pub collects_keeps : {old new : Rows} {roots : List ℕ} → Collects old new roots → Keeps old new roots
collects_keeps c = record {
  used = c.all;
  level = λ i r. sym (c.kept.level i (c.all i r));
  low = λ i r. sym (c.kept.low i (c.all i r));
  high = λ i r. sym (c.kept.high i (c.all i r));
}

-- Which roots are arrows to rows is all that counts.
pub collects-same : {old new : Rows} {xs ys : List ℕ} → ((a i : ℕ) → Leads a i → Mem a xs → Mem a ys)
    → ((a i : ℕ) → Leads a i → Mem a ys → Mem a xs)
    → Collects old new xs → Collects old new ys
collects-same f g c = record { kept = c.kept; only = λ i u. reach-within f (c.only i u); all = λ i r. c.all i (reach-within g r) }

module _ {m N : ℕ} {old new : Rows} {roots : List ℕ} (wf : WellFormed m N old) (c : Collects old new roots) where
  pub collects_well_formed : WellFormed m N new
  collects_well_formed =
      let k = collects_keeps c in
      freed_well_formed c.kept wf
      (λ i u. keeps_reached k (new.low i) (reached_low old roots (c.only i u) (new.low i) (c.kept.low i u)))
      (λ i u. keeps_reached k (new.high i) (reached_high old roots (c.only i u) (new.high i) (c.kept.high i u)))

  -- Every row that is left is reached in the new table.
  pub collects-reach : (i : ℕ) → new.used i ≡ true → Reach new roots i
  collects-reach i u = keeps_reach (collects_keeps c) (c.only i u)

  -- So every row that is left denotes a part of what a root denotes: what `try_full` asks of the table before a try.
  pub collects-parts : (i : ℕ) → new.used i ≡ true → Part (map (den m new) roots) (den m new (row i))
  collects-parts = collected_parts collects_well_formed roots (keeps_arrow (collects_keeps c)) collects-reach

  -- The rows that are left are as many as the roots need: "returns the rows still needed by registers and relations".
  pub collects-count : used_count new N ≡ need m (map (den m new) roots)
  collects-count =
      let arrows = keeps_arrow (collects_keeps c) in
      reach-count collects_well_formed roots arrows (used_rows new N)
      (λ i h. collects-reach i (used_rows-mem new N i h).1)
      (λ i r.
      let u = reach-used collects_well_formed arrows r in
      mem-used_rows new N i (collects_well_formed.bounded i u) u)
      (nodup-used_rows new N)
