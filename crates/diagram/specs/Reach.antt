-- The rows that are reachable from some roots. Assumes nothing.
use mathlib.Core.List.{List, Memᴰ as Mem}
use Rattle.std.specs.Prelude.{ℕ}
use Rattle.diagram.specs.Rows.{Rows, Leads}

-- Row i is reached from the roots, which are arrows: marks do not count.
pub data Reach (rows : Rows) (roots : List ℕ) : ℕ → Type 0 where
  root : {a i : ℕ} → Mem a roots → Leads a i → Reach rows roots i
  by-low : {i j : ℕ} → Reach rows roots i → Leads (rows.low i) j → Reach rows roots j
  by_high : {i j : ℕ} → Reach rows roots i → Leads (rows.high i) j → Reach rows roots j
