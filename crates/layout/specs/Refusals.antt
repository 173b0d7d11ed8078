-- Document 01's table of causes. Assumes nothing.
use Rattle.std.specs.Prelude.{ℕ, Bool, ◌&&◌, ◌||◌, leb}
use Rattle.layout.specs.declared.Refusal.{Refusal}
use Rattle.layout.specs.declared.Refusal.TheVariants.{Sizes, Unsound, Occupied, Range, Syntax, Unbound, Vacuous, Odd, Empty, Full}
use Rattle.layout.specs.declared.Refusal.TheVariants.{Spent, NoRun, Short, Unlisted, NoAnswer}

abbrev pub refusal_number : Refusal → ℕ
-- "fresh: n, N or slice length"
refusal_number Sizes = 1
-- "table unsound"
refusal_number Unsound = 2
-- "valid while a register or relation is filled"
refusal_number Occupied = 13
-- "register, relation or state number out of range"
refusal_number Range = 3
-- "bytes not a formula for this call"
refusal_number Syntax = 4
-- "variable unbound, or bound inside itself"
refusal_number Unbound = 5
-- "a binder's variable occurs nowhere free in its body"
refusal_number Vacuous = 12
-- "variable read odd"
refusal_number Odd = 6
-- "register or relation named is empty"
refusal_number Empty = 7
-- "step needs more than N rows"
refusal_number Full = 8
-- "rounds used up"
refusal_number Spent = 9
-- "no run exists"
refusal_number NoRun = 10
-- "the list is too short for the run"
refusal_number Short = 11
-- "the list is not 1 to 8 long or has no account at that place"
refusal_number Unlisted = 14
-- "the state is in the goal or outside the set, or the press is no guest move"
refusal_number NoAnswer = 15

-- "Kept: all words": 1 to 7, and of document 02's numbers 12, 13 and 14
abbrev pub keeps_all : ℕ → Bool
keeps_all k = (leb 1 k && leb k 7) || (leb 12 k && leb k 14)
