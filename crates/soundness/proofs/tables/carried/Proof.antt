-- `carried` meets its contract: NOT exchanges the halves. Assumes nothing.
use Rattle.soundness.specs.Tables.{carried_cells}
use mathlib.Core.Path.{sym, ap, ◌∙◌}
use mathlib.Core.Bool.{Bool}
use borrow.Author.Rules.{rules}
use Rattle.soundness.proofs.tables.carried.Statement.{statement}
use Rattle.soundness.proofs.tables.carried.Tie as tie

pub carried_spec : {M : Type 1} → statement M
carried_spec =
    tie.close
    (tie.spec (λ c κs. search rules) (λ c. search rules) (λ c. search rules)
    (λ c. ap (λ (b : Bool). carried_cells b c.args.table) (sym c.if-is_marked.true ∙ c.is_marked.ensures))
    (λ c. ap (λ (b : Bool). carried_cells b c.args.table) (sym c.if-is_marked.false ∙ c.is_marked.ensures)))
