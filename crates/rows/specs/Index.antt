-- The lookup index: chains of rows, one for each bucket, along which ranks fall. Assumes nothing.
use Rattle.std.specs.Prelude.{◌≡◌, Bool, true, cond, ℕ, zero, suc, ◌+◌, ◌*◌, ◌/◌, ◌%◌, ◌<◌}
use Rattle.layout.specs.Places.{LOW, HIGH, LEVEL, NEXT, RANK}
use Rattle.layout.specs.View.{View}
use Rattle.rows.specs.Used.{used}

-- the sum of a row's three words, each times a number, below 2^32
unfoldable pub hash : ℕ → ℕ → ℕ → ℕ
hash l lo hi = (2654435761 * lo % 4294967296 + (2246822519 * hi % 4294967296 + 3266489917 * l % 4294967296)) % 4294967296

-- the bucket of a row's three words in a table of N rows
unfoldable pub bucket : ℕ → ℕ → ℕ → ℕ → ℕ
bucket N l lo hi = hash l lo hi * N / 4294967296

-- the bucket of row i
abbrev pub key_of : View → ℕ → ℕ
key_of W i = bucket W.rows (W.cell i LEVEL) (W.cell i LOW) (W.cell i HIGH)

-- a link that counts: p where it is one more than a used row, else 0. What else stands in a head is harmless.
unfoldable pub live : (ℕ → Bool) → ℕ → ℕ
live u zero = 0
live u (suc j) = cond (u j) (suc j) 0

-- row j has these three words
pub record Has (W : View) (j l lo hi : ℕ) : Type 0 where
  pub level : W.cell j LEVEL ≡ l
  pub low : W.cell j LOW ≡ lo
  pub high : W.cell j HIGH ≡ hi

-- the walk from link p along a chain meets row i first of all rows that have these three words
pub data Hit (W : View) (l lo hi : ℕ) : ℕ → ℕ → Type 0 where
  stop : {j : ℕ} → Has W j l lo hi → Hit W l lo hi (suc j) j
  skip : {j i : ℕ} → (Has W j l lo hi → ⊥) → Hit W l lo hi (W.cell j NEXT) i → Hit W l lo hi (suc j) i

-- a link from a row of rank k: 0, or one more than a used row of lesser rank
abbrev pub Down : View → ℕ → ℕ → Type 0
Down W k zero = Unit {0}
Down W k (suc j) = (used W j ≡ true) × (W.cell j RANK < k)

-- the index: links lead to earlier used rows, and the lookup of each used row finds it
pub record Index (W : View) : Type 0 where
  pub nexts : (i : ℕ) → used W i ≡ true → Down W (W.cell i RANK) (W.cell i NEXT)
  pub found : (i : ℕ) → used W i ≡ true → Hit W (W.cell i LEVEL) (W.cell i LOW) (W.cell i HIGH) (live (used W) (W.head (key_of W i))) i

-- a link that counts is 0 or one more than a used row
abbrev pub Link : (ℕ → Bool) → ℕ → Type 0
Link u zero = Unit {0}
Link u (suc j) = u j ≡ true
