-- `disjoint` meets its contract: a low half that is not 0 has a cell. Assumes nothing.
use Rattle.soundness.proofs.TablesLaws.{disjoint-yes, disjoint-no}
use Rattle.rows.specs.Says.{holds, fails}
use Rattle.soundness.proofs.tables.disjoint.Statement.{statement}
use Rattle.soundness.proofs.tables.disjoint.Tie as tie

pub disjoint_spec : {M : Type 1} → statement M
disjoint_spec = tie.close (tie.spec (λ c. fails (disjoint-no _ _ c.if-x-y-ne0.true)) (λ c. holds (disjoint-yes _ _ c.if-x-y-ne0.false)))
