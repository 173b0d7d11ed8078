-- The book that a table stands for: the sets and pairs of its arrows; and "A table is sound when", of a table seen apart from its words.
-- Assumes nothing.
use Rattle.std.specs.Prelude.{◌≡◌, true, cond, [], ◌∷◌, ℕ, ◌*◌, ◌<◌, ltb}
use Rattle.std.proofs.Math.Option.{Option, none, some}
use Rattle.diagram.specs.Level.{Val, Fn}
use Rattle.diagram.specs.Rows.{Arrow, den, WellFormed}
use Rattle.diagram.specs.Reach.{Reach}
use Rattle.diagram.specs.Even.{even}
use Rattle.diagram.specs.Steps.{shift_f}
use Rattle.book.specs.Bridge.{set_of, pairs_of}
use Rattle.book.specs.Book.{Book, registers, relations}
use Rattle.book.specs.Table.{Table}

-- the rows of an arrow all have even levels
abbrev pub EvenRows : Table → ℕ → Type 0
EvenRows t a = (i : ℕ) → Reach t.rows (a ∷ []) i → even (t.rows.level i) ≡ true

-- what an arrow denotes
abbrev pub den_in : Table → ℕ → Fn
den_in t a = den (2 * t.n) t.rows a

-- G holds wherever F does
abbrev pub Under : Fn → Fn → Type 0
Under F G = (v : Val) → F v ≡ true → G v ≡ true

-- "each register is empty or an arrow whose rows all have even levels; each relation is empty or any arrow"; "A table is sound only with
-- V's rows on even levels, registers within V, and relations within V and SHIFT of V"
pub record SoundTable (t : Table) : Type 0 where
  pub wf : WellFormed (2 * t.n) t.N t.rows
  pub valid : Arrow t.rows t.valid × EvenRows t t.valid
  pub reg : (r : ℕ) → r < registers → (a : ℕ) → t.reg r ≡ some a → Arrow t.rows a × EvenRows t a
  pub rel : (q : ℕ) → q < relations → (a : ℕ) → t.rel q ≡ some a → Arrow t.rows a
  pub reg_within : (r : ℕ) → r < registers → (a : ℕ) → t.reg r ≡ some a → Under (den_in t a) (den_in t t.valid)
  pub rel_within : (q : ℕ) → q < relations → (a : ℕ) → t.rel q ≡ some a → Under (den_in t a) (den_in t t.valid)
  pub rel_shifted : (q : ℕ) → q < relations → (a : ℕ) → t.rel q ≡ some a → Under (den_in t a) (shift_f (den_in t t.valid))

-- what a place stands for
abbrev pub stands_for : {X : Type 0} → (Fn → X) → (ℕ → Fn) → Option ℕ → Option X
stands_for f d none = none
stands_for f d (some a) = some (f (d a))

-- the book that a table stands for: what the arrows of V, registers and relations denote
abbrev pub book_of : Table → Book
book_of t = record {
  n = t.n;
  N = t.N;
  valid = set_of t.n (den (2 * t.n) t.rows t.valid);
  rel = λ q. cond (ltb q relations) (stands_for (pairs_of t.n) (den (2 * t.n) t.rows) (t.rel q)) none;
  reg = λ r. cond (ltb r registers) (stands_for (set_of t.n) (den (2 * t.n) t.rows) (t.reg r)) none;
}
