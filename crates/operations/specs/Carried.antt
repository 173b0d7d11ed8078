-- SHIFT of an arrow that carries a NOT is NOT of SHIFT of the arrow without: it is worked out and remembered for that one, and the mark is
-- carried on the way out. Assumes nothing.
use Rattle.std.specs.Prelude.{◌≡◌, Bool, ℕ, Option, Some, None, Result, Ok, Err}
use Rattle.diagram.specs.Rows.{carry}
use Rattle.table.specs.declared.Full.{Full}
use Rattle.table.specs.Full.{rows_out}

-- r is the answer c, with a NOT where b; that the rows ran out stays
abbrev pub CarriedMade : Bool → Result ℕ Full → Result ℕ Full → Type 0
CarriedMade b (Ok x) r = r ≡ Ok (carry b x)
CarriedMade b (Err _) r = r ≡ Err rows_out

-- what was found, with a NOT where b
abbrev pub carried_found : Bool → Option ℕ → Option ℕ
carried_found b (Some v) = Some (carry b v)
carried_found b None = None
