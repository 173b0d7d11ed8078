-- What a walk that may give up decides. Assumes nothing.
use Rattle.soundness.specs.declared.Walk.{Walk}
use Rattle.soundness.specs.declared.Walk.TheVariants.{Met, Missed, Long}

-- a walk says whether P holds, or that it grew too long
pub data WalkSays (P : Type 0) : Walk → Type 0 where
  met : P → WalkSays P Met
  missed : (P → ⊥) → WalkSays P Missed
  long : WalkSays P Long
