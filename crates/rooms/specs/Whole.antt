-- The words from which the program starts. Assumes nothing.
use Rattle.std.specs.Prelude.{List, ℕ, replicate}
use Rattle.book.specs.Program.{words_lent}

-- "It lends 16,384 words of zeros", "All zero words are unsound"
abbrev pub zeros : List ℕ
zeros = replicate words_lent 0
