-- The remembered pairs: each is apart. A pair that was never written is 0 and 0, and nothing is apart from everything. Assumes nothing.
use Rattle.std.specs.Prelude.{◌≡◌, ◌⊎◌, List, ℕ, ◌+◌, ◌*◌, get_or}
use Rattle.diagram.specs.Rows.{Rows}
use Rattle.soundness.specs.Apart.{Apart}

-- how many words the remembered pairs have
abbrev pub PAIR_WORDS : ℕ
PAIR_WORDS = 1024

-- each remembered pair is apart
pub record Right (m : ℕ) (rows : Rows) (s : ℕ) (memo : List ℕ) : Type 0 where
  pub pair : (k : ℕ) → Apart m rows s (get_or memo (2 * k) 0) (get_or memo (2 * k + 1) 0)

-- a and b are a remembered pair
pub record Seen (memo : List ℕ) (a b : ℕ) : Type 0 where
  pub at : ℕ
  pub first : get_or memo (2 * at) 0 ≡ a
  pub second : get_or memo (2 * at + 1) 0 ≡ b

-- each pair is as it was, or is a and b
pub record Puts (memo memo' : List ℕ) (a b : ℕ) : Type 0 where
  pub pair : (k : ℕ) → ((get_or memo' (2 * k) 0 ≡ get_or memo (2 * k) 0) × (get_or memo' (2 * k + 1) 0 ≡ get_or memo (2 * k + 1) 0))
      ⊎ ((get_or memo' (2 * k) 0 ≡ a) × (get_or memo' (2 * k + 1) 0 ≡ b))
