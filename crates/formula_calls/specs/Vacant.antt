-- "13, valid while a register or relation is filled": nothing is filled, as the roots' words say it. Assumes nothing.
use Rattle.std.specs.Prelude.{◌≡◌, List, ℕ, ◌≤◌, ◌<◌}
use Rattle.layout.specs.Places.{FIRST_REGISTER, ROOTS_END}
use Rattle.layout.specs.View.{header_of}

-- every register and relation with a word before `end` is empty
abbrev pub VacantTo : List ℕ → ℕ → Type 0
VacantTo ws end = (k : ℕ) → FIRST_REGISTER ≤ k → k < end → header_of ws k ≡ 0

-- every one is
abbrev pub Vacant : List ℕ → Type 0
Vacant ws = VacantTo ws ROOTS_END
