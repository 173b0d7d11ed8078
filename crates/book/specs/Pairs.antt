-- What it means that a chain of steps over arrows follows the book: no rounds, a function as its value, and all that is counted are the
-- needs. Assumes nothing.
use Rattle.std.specs.Prelude.{◌≡◌, Bool, true, false, List, ℕ, ◌*◌}
use Rattle.diagram.specs.Level.{Fn}
use Rattle.diagram.specs.Rows.{Rows, WellFormed}
use Rattle.diagram.specs.Post.{Result, at, full as no_rows, Denotes}
use Rattle.diagram.specs.Keep.{Keeps}
use Rattle.accounts.specs.declared.Count.{Count}

-- the answer is the book's: an arrow of F and what the book counts, where every step so far fits, and otherwise none
abbrev pub PairMatches : ℕ → Rows → Bool → Fn → Count → Result → Count → Type 0
PairMatches n rows true F c (at a) q = Denotes (2 * n) rows a F × (q ≡ c)
PairMatches n rows true F c no_rows q = ⊥
PairMatches n rows false F c (at a) q = ⊥
PairMatches n rows false F c no_rows q = Unit {0}

-- the evaluator went from one table to another, kept the roots, and answered as the book does; q is what it counted
pub record PairEvals (n N : ℕ) (before after : Rows) (roots : List ℕ)
    (fits : Bool) (F : Fn) (c : Count) (y : Result) (q : Count) : Type 0 where
  pub wf : WellFormed (2 * n) N after
  pub kept : Keeps before after roots
  pub result : PairMatches n after fits F c y q
