-- `set_cells` meets its contract: what is remembered with its arrow, or what `set_table` makes. Assumes nothing.
use Rattle.soundness.proofs.TablesLaws.{set_found, set_more}
use mathlib.Core.Path.{refl}
use Prim.Native.Nat.{◌%◌}
use native.Mathlib.Omega.{arith}
use borrow.Author.Rules.{rules}
use Rattle.soundness.proofs.tables.set_cells.Statement.{statement}
use Rattle.soundness.proofs.tables.set_cells.Tie as tie

pub set_cells_spec : {M : Type 1} → statement M
set_cells_spec =
    tie.close
    (tie.spec
    (λ c. search rules)
    (λ c. search rules)
    (λ c. let h = c.requires.size in omega arith)
    (λ c. set_found (c.args.at % 1024) c.requires refl (omega arith))
    (λ c κs. c.requires.asked)
    (λ c. search rules)
    (λ c. search rules)
    (λ c. search rules)
    (λ c. let h = c.requires.size in omega arith)
    (λ c. search rules)
    (λ c. set_more c.requires
    (let h = c.requires.size in omega arith) c.set_table-table.ensures refl refl))
