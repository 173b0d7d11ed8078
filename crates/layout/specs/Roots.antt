-- The roots in the header: each register and relation is empty, or holds an arrow. Assumes nothing.
use Rattle.std.specs.Prelude.{Bool, false, cond, not, List, ℕ, ◌+◌, ltb, eqb}
use Rattle.layout.specs.Places.{REGISTERS, RELATIONS, FIRST_REGISTER, FIRST_RELATION}
use Rattle.layout.specs.View.{header_of}

-- a root's word is 0 where it is empty, and else its arrow + 1
abbrev pub filled_word : ℕ → Bool
filled_word w = not (eqb w 0)

-- "each register is empty or an arrow", "each relation is empty or any arrow"; there is none past the last
unfoldable pub filled_root : List ℕ → ℕ → ℕ → ℕ → Bool
filled_root ws start total k = cond (ltb k total) (filled_word (header_of ws (start + k))) false

abbrev pub filled_register : List ℕ → ℕ → Bool
filled_register ws r = filled_root ws FIRST_REGISTER REGISTERS r

abbrev pub filled_relation : List ℕ → ℕ → Bool
filled_relation ws t = filled_root ws FIRST_RELATION RELATIONS t
