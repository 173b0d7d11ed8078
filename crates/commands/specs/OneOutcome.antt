-- ONE ANSWER of a record's command: two outcomes that its contract allows on the same words are one, node numbers above 1 aside.
-- The words that are left are those of `call-one` (contract, OneAnswer) and, of fresh, `fresh-words-one` (calls, Fresh). Assumes nothing.
use Rattle.std.specs.Prelude.{◌≡◌, min}
use Rattle.commands.specs.declared.Outcome.{Outcome}

pub record OneOutcome (x z : Outcome) : Type 0 where
  pub operation : x.operation ≡ z.operation
  pub number : x.number ≡ z.number
  pub rounds : x.rounds ≡ z.rounds
  pub value : x.value ≡ z.value
  pub peak : x.peak ≡ z.peak
  -- of a node number only whether it is 0, 1 or above
  pub node : min x.node 2 ≡ min z.node 2
