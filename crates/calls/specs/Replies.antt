-- What each answer returns: document 01's number, rounds, peak and value; "Returned: number, zeros" of a refusal. Assumes nothing.
use Rattle.std.specs.Prelude.{ℕ, Result, Ok, Err}
use Rattle.layout.specs.Refusals.{refusal_number}
use Rattle.layout.specs.declared.Refusal.{Refusal}
use Rattle.book.specs.Table.{Reply}
use Rattle.book.specs.Leaves.{plain, valued}

abbrev pub started_reply : Result (Unit {0}) Refusal → Reply
started_reply (Ok _) = plain 0
started_reply (Err r) = plain (refusal_number r)

abbrev pub cleared_reply : Result (Unit {0}) Refusal → Reply
cleared_reply (Ok _) = plain 0
cleared_reply (Err r) = plain (refusal_number r)

-- "returns the rows still needed by registers and relations"
abbrev pub collected_reply : Result ℕ Refusal → Reply
collected_reply (Ok k) = valued k
collected_reply (Err r) = plain (refusal_number r)

abbrev pub answer_reply : Result ℕ Refusal → Reply
answer_reply (Ok x) = valued x
answer_reply (Err r) = plain (refusal_number r)
