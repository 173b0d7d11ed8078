-- Formula bytes that pass the checks; and a book of which every filled place has its full size and is within V. Assumes nothing.
use Rattle.std.specs.Prelude.{◌≡◌, Bool, List, ℕ, ◌^◌, ◌<◌, T}
use Rattle.std.proofs.Math.Option.{some}
use Rattle.mucalculus.specs.Form.{bound, none_open, mentioned, steady, Pairs}
use Rattle.mucalculus.specs.Order.{Below}
use Rattle.mucalculus.specs.Exist.{Inside}
use Rattle.tokens.specs.declared.Kind.{Kind}
use Rattle.formula.specs.Parse.{is_formula, formula_of}
use Rattle.formula.specs.Checks.{filled}
use Rattle.book.specs.Bridge.{Sized, SizedPairs}
use Rattle.book.specs.Book.{formula_in, Book, valid, registers, relations, reg_filled, rel_filled}

-- what checks 4 to 7 and 12 give where none refuses
pub record Passed (b : Book) (c : Kind) (bs : List ℕ) : Type 0 where
  pub is_read : T (is_formula (formula_of c b.n bs))
  pub is_bound : T (bound none_open (formula_in b c bs))
  pub is_mentioned : T (mentioned (formula_in b c bs))
  pub is_steady : T (steady (formula_in b c bs))
  pub is_filled : T (filled (reg_filled b) (rel_filled b) (formula_in b c bs))

-- every filled place has its full size and is within V, and none is filled past the registers and relations
pub record Whole (b : Book) : Type 0 where
  pub valid : Sized b.n b.valid
  pub reg : (r : ℕ) (A : List Bool) → b.reg r ≡ some A → Sized b.n A × (r < registers) × Below A b.valid
  pub rel : (t : ℕ) (Q : Pairs) → b.rel t ≡ some Q → SizedPairs b.n Q × (t < relations) × Inside (2 ^ b.n) b.valid Q
