-- "as relations and registers stood at the answered calls that last set them": where a register of the book is filled, the call that last
-- set it, and that its set is the meaning of that call's formula over the book as it stood then. Assumes nothing.
use Rattle.std.specs.Prelude.{◌≡◌, Bool, false, List, [], ◌∷◌, ◌++◌, ℕ}
use Rattle.mucalculus.specs.Form.{no_env}
use Rattle.mucalculus.specs.Means.{means}
use Rattle.tokens.specs.declared.Kind.TheVariants.{Set}
use Rattle.accounts.specs.declared.Terms.{Terms}
use Rattle.book.specs.Book.{formula_in, Book, Call, set, effect, stores, answered, model_of, does, play}
use Rattle.book.specs.Stored.{Passed}

-- no call of the list was an answered set or clear of register r
abbrev pub Untouched : ℕ → Book → List Call → Type 0
Untouched r b [] = Unit {0}
Untouched r b (c ∷ cs) = (stores (effect c).reg (does b c).1.number r ≡ false) × Untouched r (does b c).0 cs

-- the last answered set of register r in a list of calls, and what it says of the set A
pub record LastSet (b : Book) (cs : List Call) (r : ℕ) (A : List Bool) : Type 0 where
  pub before : List Call
  pub terms : Terms
  pub R : ℕ
  pub bytes : List ℕ
  pub after : List Call
  pub split : cs ≡ before ++ (set terms r R bytes ∷ after)
  pub answered : (does (play b before).0 (set terms r R bytes)).1.number ≡ 0
  pub last : Untouched r (does (play b before).0 (set terms r R bytes)).0 after
  -- its bytes were a formula that passed the checks, and A holds exactly the states in which it held over the book as it stood then
  pub passed : Passed (play b before).0 Set bytes
  pub holds : A ≡ means (model_of (play b before).0) no_env (formula_in (play b before).0 Set bytes)
