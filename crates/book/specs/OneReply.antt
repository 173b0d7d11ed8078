-- What document 01 settles of a call's value: all but node numbers above 1. Assumes nothing.
use Rattle.std.specs.Prelude.{cond, ℕ, min}
use Rattle.book.specs.Book.{Call, effect}

-- what is settled of a call's value: "Free for the builder: node numbers above 1"
abbrev pub settled_in : Call → ℕ → ℕ
settled_in c v = cond (effect c).fills (min v 2) v
