-- What it means that an evaluator over arrows follows the book's run. Assumes nothing.
use Rattle.std.specs.Prelude.{◌≡◌, Bool, List, ℕ, ◌*◌}
use Rattle.diagram.specs.Level.{Fn}
use Rattle.diagram.specs.Rows.{Rows, WellFormed}
use Rattle.diagram.specs.Post.{Denotes}
use Rattle.diagram.specs.Keep.{Keeps}
use Rattle.accounts.specs.declared.Count.{Count}
use Rattle.book.specs.Bridge.{fn_of}
use Rattle.book.specs.Run.{Outcome, value, full, spent}

-- what the evaluator answers: an arrow and what it counted, 8, or 9
pub data Ended : Type 0 where
  ends : ℕ → Count → Ended
  eight nine : Ended

-- the answer is the book's outcome, `lv` being a value's function of levels; of sets of states
abbrev pub MatchesBy : (List Bool → Fn) → ℕ → Rows → Outcome → Ended → Type 0
MatchesBy lv n rows (value A q) (ends a p) = Denotes (2 * n) rows a (lv A) × (p ≡ q)
MatchesBy lv n rows (value A q) eight = ⊥
MatchesBy lv n rows (value A q) nine = ⊥
MatchesBy lv n rows full (ends a p) = ⊥
MatchesBy lv n rows full eight = Unit {0}
MatchesBy lv n rows full nine = ⊥
MatchesBy lv n rows spent (ends a p) = ⊥
MatchesBy lv n rows spent eight = ⊥
MatchesBy lv n rows spent nine = Unit {0}

-- the evaluator went from one table to another, kept the roots, and answered with the book's outcome
pub record EvalsBy (lv : List Bool → Fn) (n N : ℕ) (before after : Rows) (roots : List ℕ) (o : Outcome) (y : Ended) : Type 0 where
  pub wf : WellFormed (2 * n) N after
  pub kept : Keeps before after roots
  pub result : MatchesBy lv n after o y

abbrev pub Evals : ℕ → ℕ → Rows → Rows → List ℕ → Outcome → Ended → Type 0
Evals n N before after roots o y = EvalsBy (fn_of n) n N before after roots o y
