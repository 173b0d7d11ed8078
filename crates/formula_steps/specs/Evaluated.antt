-- A root stored after an evaluation, and the collection afterwards. Assumes nothing.
use Rattle.std.specs.Prelude.{◌≡◌, ℕ, suc, ◌+◌}
use Rattle.diagram.specs.Collect.{Collects}
use Rattle.layout.specs.Places.{VALID, FIRST_REGISTER, FIRST_RELATION}
use Rattle.layout.specs.View.{View, put_header}
use Rattle.rows.specs.Used.{rows_of}
use Rattle.rows.specs.Sound.{Good}
use Rattle.rows.specs.Filled.{filled}
use Rattle.operations.specs.Work.{OpFrame}

-- register r holds arrow a
abbrev pub register_stored : View → ℕ → ℕ → View
register_stored X r a = put_header X (FIRST_REGISTER + r) (suc a)

-- relation t holds arrow a
abbrev pub relation_stored : View → ℕ → ℕ → View
relation_stored X t a = put_header X (FIRST_RELATION + t) (suc a)

-- V is arrow a
abbrev pub valid_stored : View → ℕ → View
valid_stored X a = put_header X VALID (suc a)

-- what the collection afterwards leaves of a table: nothing was freed, or what V, the registers and the relations do not need
pub data Tidied (Y Z : View) : Type 0 where
  as_it_was : Z ≡ Y → Tidied Y Z
  freed : Good Z → OpFrame Y Z → Collects (rows_of Y) (rows_of Z) (filled Y) → Tidied Y Z
