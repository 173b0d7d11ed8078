-- `first_in`: no state at a place before i is in the set. Assumes nothing.
use Rattle.std.proofs.Common.{◌≡◌, ◌≤◌, ◌<◌, ℕ, false}
use Rattle.layout.specs.View.{view}
use Rattle.coin_search.specs.Words.{state_at}
use Rattle.coin_search.specs.Hall.{in_set}
use Rattle.coin_search.proofs.first_in.Given as goal

abbrev pub invariant-loop-i : goal.invariant-loop-i
invariant-loop-i l = (j : ℕ) → l.from ≤ j → j < l.i → in_set (view l.rows l.words) l.a (state_at l.work j) ≡ false
