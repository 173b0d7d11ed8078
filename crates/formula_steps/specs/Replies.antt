-- What set, relation and valid return: document 01's number, rounds and node number, and the peak; "Returned: number, zeros" of a refusal.
-- Assumes nothing.
use Rattle.std.specs.Prelude.{Result, Ok, Err}
use Rattle.layout.specs.declared.Refusal.{Refusal}
use Rattle.layout.specs.Refusals.{refusal_number}
use Rattle.book.specs.Table.{Reply}
use Rattle.book.specs.Leaves.{plain}
use Rattle.formula_steps.specs.declared.Stored.{Stored}
use Rattle.formula_steps.specs.declared.Loaded.{Loaded}

-- set "returns node number and rounds"; "Each answered relation or set call also returns its peak"
abbrev pub stored_reply : Result Stored Refusal → Reply
stored_reply (Ok s) = record { number = 0; rounds = s.rounds; peak = s.peak; value = s.number }
stored_reply (Err x) = plain (refusal_number x)

abbrev pub loaded_reply : Result Loaded Refusal → Reply
loaded_reply (Ok s) = record { number = 0; rounds = 0; peak = s.peak; value = 0 }
loaded_reply (Err x) = plain (refusal_number x)

-- valid returns nothing
abbrev pub confined_reply : Result (Unit {0}) Refusal → Reply
confined_reply (Ok _) = plain 0
confined_reply (Err x) = plain (refusal_number x)
