-- Replies without rounds and steps, and a table just made. Assumes nothing.
use Rattle.std.specs.Prelude.{◌≡◌, false, ℕ, ◌<◌}
use Rattle.std.proofs.Math.Option.{none}
use Rattle.book.specs.Run.{value}
use Rattle.book.specs.Book.{registers, relations}
use Rattle.book.specs.Table.{Table, Reply}

-- a reply with a number and zeros
abbrev pub plain : ℕ → Reply
plain k = record { number = k; rounds = 0; peak = 0; value = 0 }

-- an answer with a value
abbrev pub valued : ℕ → Reply
valued x = record { number = 0; rounds = 0; peak = 0; value = x }

-- a table just made: no row used, V every state, nothing filled
pub record Empty (n N : ℕ) (t : Table) : Type 0 where
  pub bits : t.n ≡ n
  pub size : t.N ≡ N
  pub every : t.valid ≡ 1
  pub unused : (i : ℕ) → t.rows.used i ≡ false
  pub reg : (r : ℕ) → r < registers → t.reg r ≡ none
  pub rel : (q : ℕ) → q < relations → t.rel q ≡ none
