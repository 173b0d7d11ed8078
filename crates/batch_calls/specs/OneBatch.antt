-- ONE ANSWER: on the same words and lists the contract allows one reply and one list of answers, and leaves only the arrangement of the
-- places in the order list free. Words need not be sound, nor states in range, nor is that decided. Assumes nothing.
use Rattle.std.specs.Prelude.{◌≡◌, ◌≢◌, List, ℕ, length, drop}
use Rattle.book.specs.Table.{Reply}

-- two replies y, z, two ends v, w of the order and two ends a, b of the answers
pub record OneBatch (states v w a b : List ℕ) (y z : Reply) : Type 0 where
  pub reply : y ≡ z
  pub answers : a ≡ b
  -- of the order: its length, the entries past the states, and all of it where the question is refused
  pub size : length v ≡ length w
  pub past : drop (length states) v ≡ drop (length states) w
  pub refused : y.number ≢ 0 → v ≡ w
