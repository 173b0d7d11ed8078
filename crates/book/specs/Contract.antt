-- What an implementation over bare words has to show: fresh, each call and each question against the book that the words stand for. Assumes
-- nothing.
use Rattle.std.specs.Prelude.{◌≡◌, ℕ, suc, ◌<◌}
use Rattle.book.specs.Book.{fresh_number, Call, Question, registers}
use Rattle.book.specs.Table.{Table, Reply, Refusal, Serves, Tells}
use Rattle.book.specs.Leaves.{Empty}
use Rattle.book.specs.BookOf.{SoundTable, book_of}

-- fresh: "fresh is answered wherever its checks find no cause", "An answered fresh .. leave a sound one", "Kept: all words"
pub record Starts {W : Type 0} (sound : W → Type 0) (view : W → Table) (n N words count : ℕ) (before after : W) (y : Reply) : Type 0 where
  pub answers : fresh_number n N words count ≡ 0 → Refusal 0 y × sound after × Empty n N (view after)
  pub refuses : (k : ℕ) → fresh_number n N words count ≡ suc k → Refusal (suc k) y × (after ≡ before)

-- a call: "table unsound: 2, all words kept"; on a sound table the book's step from the book that the words stand for, and sound words
pub record Performs {W : Type 0} (sound : W → Type 0) (view : W → Table) (c : Call) (before after : W) (y : Reply) : Type 0 where
  pub unsound : (sound before → ⊥) → Refusal 2 y × (after ≡ before)
  pub served : sound before → sound after × Serves (book_of (view before)) c (view before) (view after) y

-- a question: the same, and no word changes
pub record Answers {W : Type 0} (sound : W → Type 0) (view : W → Table) (q : Question) (before after : W) (y : Reply) : Type 0 where
  pub same : after ≡ before
  pub unsound : (sound before → ⊥) → Refusal 2 y
  pub told : sound before → Tells (book_of (view before)) q (view before).reg y

-- a call that stores nothing, whatever it answers: sound words stay sound and stand for the same book, and every register keeps its number
pub record Quiet {W : Type 0} (sound : W → Type 0) (view : W → Table) (before after : W) : Type 0 where
  pub good : sound before → sound after
  pub book : sound before → book_of (view after) ≡ book_of (view before)
  pub numbers : sound before → (r : ℕ) → r < registers → (view after).reg r ≡ (view before).reg r

-- an implementation over bare words W: how many there are, which are sound, how a table is seen in them, and the contracts of fresh (words
-- before, n, N, how many accounts are lent, words after, reply), of the calls, of those that store nothing and of the questions
pub record Implements (W : Type 0) (words : W → ℕ) (sound : W → Type 0) (view : W → Table)
    (makes : W → ℕ → ℕ → ℕ → W → Reply → Type 0) (calls : W → Call → W → Reply → Type 0) (rests : W → W → Type 0)
    (asks : W → Question → W → Reply → Type 0) : Type 0 where
  pub good : (w : W) → sound w → SoundTable (view w)
  pub starts : (w w' : W) (n N count : ℕ) (y : Reply) → makes w n N count w' y → Starts sound view n N (words w) count w w' y
  pub performs : (w w' : W) (c : Call) (y : Reply) → calls w c w' y → Performs sound view c w w' y
  pub quiet : (w w' : W) → rests w w' → Quiet sound view w w'
  pub answers : (w w' : W) (q : Question) (y : Reply) → asks w q w' y → Answers sound view q w w' y
