-- One state more in the order: there is room for a state that is not in it, and with it the order holds the marked ones again.
-- Assumes nothing.
use Rattle.std.specs.Prelude.{◌≡◌, ◌≢◌, ℕ, suc, ◌<◌}
use Rattle.coins.specs.Marks.{Marks}

-- state s with the mark m at the end
pub record Added (M N : Marks) (s m : ℕ) : Type 0 where
  pub count : N.count ≡ suc M.count
  pub before : (i : ℕ) → i < M.count → N.at i ≡ M.at i
  pub last : N.at M.count ≡ s
  pub mark : N.mark s ≡ m
  pub others : (t : ℕ) → t ≢ s → N.mark t ≡ M.mark t
