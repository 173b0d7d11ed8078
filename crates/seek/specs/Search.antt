-- The search for the least state that passes a test. Assumes nothing.
use Rattle.std.specs.Prelude.{Bool, ◌&&◌, ℕ}
use Rattle.layout.specs.View.{View}
use Rattle.seek.specs.Walk.{holds_at}

-- state s is in the sets of both arrows
abbrev pub in_both : View → ℕ → ℕ → ℕ → Bool
in_both W a b s = holds_at W a s 0 && holds_at W b s 0

-- t is a next state of s by the relation's arrow r, and in the set of arrow b
abbrev pub next_in : View → ℕ → ℕ → ℕ → ℕ → Bool
next_in W r s b t = holds_at W r s t && holds_at W b t 0
