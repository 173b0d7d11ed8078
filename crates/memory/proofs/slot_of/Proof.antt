-- `slot_of` meets its contract: the masked hash is at most the mask. Assumes nothing.
use native.Mathlib.Omega.{arith}
use lib.Bits.{and_le_r}
use Prim.Native.Nat.{◌-◌, ◌+◌, ◌*◌, ◌/◌, ◌%◌}
use borrow.Author.Rules.{rules}
use Rattle.memory.proofs.slot_of.Statement.{statement}
use Rattle.memory.proofs.slot_of.Tie as tie

pub slot_of_spec : {M : Type 1} → statement M
slot_of_spec =
    tie.close
    (tie.spec (λ c. search rules) (λ c. search rules) (λ c. search rules) (λ c. search rules) (λ c. search rules)
    (λ c. let h = and_le_r ((2654435761 * c.args.x % 4294967296 + 2246822519 * c.args.y % 4294967296) / 32768)
    (c.args.slots - 1) in let p = c.requires in record { fits = omega arith })
    (λ c. let h = and_le_r ((2654435761 * c.args.x % 4294967296 + 2246822519 * c.args.y % 4294967296) / 32768)
    (c.args.slots - 1) in let p = c.requires in omega arith))
