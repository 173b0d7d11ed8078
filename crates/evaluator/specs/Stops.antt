-- The refusal of an evaluation that answers no value: 8 where the rows ran out, 9 where the rounds did. Assumes nothing.
use Rattle.layout.specs.declared.Refusal.{Refusal}
use Rattle.layout.specs.declared.Refusal.TheVariants as refusal
use Rattle.evaluator.specs.declared.Stopped.{Stopped}
use Rattle.evaluator.specs.declared.Stopped.TheVariants as stopped

-- "8 …", "9 …": why an evaluation has no value, as a refusal
abbrev pub stopped_refusal : Stopped → Refusal
stopped_refusal stopped.Full = refusal.Full
stopped_refusal stopped.Spent = refusal.Spent
