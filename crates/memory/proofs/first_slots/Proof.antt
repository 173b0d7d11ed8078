-- `first_slots` meets its contract: the number of slots doubles only while twice as many have room. Assumes nothing.
use Prim.Native.Nat.{◌-◌, ◌*◌, ◌≤◌}
use native.Mathlib.Omega.{arith}
use Rattle.memory.proofs.first_slots.Statement.{statement}
use Rattle.memory.proofs.first_slots.Tie as tie

abbrev invariant_loop : tie.invariant-loop-slots
invariant_loop rows used slots₀ slots = (1 ≤ slots) × (3 * slots ≤ 2 * rows)

abbrev decreases_loop : tie.decreases-loop-slots
decreases_loop rows used slots₀ slots = 2 * rows - slots

pub first_slots_spec : {M : Type 1} → statement M
first_slots_spec =
    tie.close
    (tie.spec
    invariant_loop
    decreases_loop
    (λ c. let p = c.requires in omega arith)
    (λ c. omega arith)
    (λ c. omega arith)
    (λ c. let p = c.requires in omega arith)
    (λ c. let p = c.requires in omega arith)
    (λ c. let p = c.requires in let v = c.loop-slots.invariant in omega arith)
    (λ c. let p = c.requires in let v = c.loop-slots.invariant in omega arith)
    (λ c. let p = c.requires in omega arith)
    (λ c. let v = c.loop-slots.invariant in omega arith)
    (λ c. let p = c.requires in let v = c.loop-slots.invariant in omega arith)
    (λ c. let v = c.loop-slots.invariant in let t = c.if-slots-rows.false in omega arith)
    (λ c. let v = c.loop-slots.invariant in let t = c.if-slots-rows.false in omega arith)
    (λ c. let v = c.loop-slots.invariant in omega arith))
