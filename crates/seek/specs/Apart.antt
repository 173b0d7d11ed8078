-- Two sets that share no state, found by a walk over pairs of arrows: each step follows both at the lesser of their levels.
-- Assumes nothing.
use Rattle.std.specs.Prelude.{◌≡◌, ◌≢◌, Bool, true, false, cond, ℕ, ◌≤◌, ◌<◌}
use Rattle.layout.specs.Places.{LEVEL}
use Rattle.layout.specs.View.{View}
use Rattle.layout.specs.Arrows.{is_row, row_of}
use Rattle.rows.specs.Mark.{depth}
use Rattle.book.specs.States.{pair_val}
use Rattle.seek.specs.Walk.{HoldsPre, holds_at}
use Rattle.seek.specs.Search.{in_both}

-- the level of the row that an arrow leads to, and 32 where it leads to none
abbrev pub level_at : View → ℕ → ℕ
level_at W a = cond (is_row a) (W.cell (row_of a) LEVEL) 32

-- x is the arrow that is followed from a where the bit at level l is known
pub record Followed (W : View) (a l : ℕ) (high : Bool) (x : ℕ) : Type 0 where
  pub pre : HoldsPre W x
  pub same : (s t : ℕ) → pair_val s t l ≡ high → holds_at W x s t ≡ holds_at W a s t
  pub most : depth W x ≤ depth W a
  pub less : l ≢ 32 → l ≡ level_at W a → depth W x < depth W a

-- where the answer is yes, no state is in both sets
abbrev pub Apart : View → ℕ → ℕ → Bool → Type 0
Apart W a b r = r ≡ true → (s : ℕ) → in_both W a b s ≡ false
