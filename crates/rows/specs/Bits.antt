-- Marks as bits of words: setting the mark of one row changes no other. Assumes nothing.
use Rattle.std.specs.Prelude.{◌≡◌, ◌≢◌, List, Bool, true, ℕ, ◌/◌, ◌%◌, ◌^◌, eqb, get_or}

-- how many words hold a mark of each row
abbrev pub MARK_WORDS : ℕ
MARK_WORDS = 1875

-- bit k of a word
abbrev pub bit : ℕ → ℕ → ℕ
bit w k = w / 2 ^ k % 2

-- whether row i is marked: bit i % 32 of word i / 32
unfoldable pub is_on : List ℕ → ℕ → Bool
is_on m i = eqb (bit (get_or m (i / 32) 0) (i % 32)) 1

-- row i is marked
abbrev pub On : List ℕ → ℕ → Type 0
On m i = is_on m i ≡ true

-- row i was marked, and no other
pub record Sets (m m' : List ℕ) (i : ℕ) : Type 0 where
  pub has : On m' i
  pub other : (j : ℕ) → j ≢ i → is_on m' j ≡ is_on m j
