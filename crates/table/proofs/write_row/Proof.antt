-- `write_row` meets its contract: three stores are three changes of the view. Assumes nothing.
use borrow.Author.Rules.{rules}
use Rattle.table.proofs.AddLaws.{put-by}
use Rattle.table.proofs.write_row.Statement.{statement}
use Rattle.table.proofs.write_row.Tie as tie

pub write_row_spec : {M : Type 1} → statement M
write_row_spec =
    tie.close
    (tie.spec
    (λ c κs. search rules)
    (λ c κs. search rules)
    (λ c κs. search rules)
    (λ c κs. search rules)
    (λ c. search rules)
    (λ c. put-by _ _ _ _ _
    c.put.ensures
    c.put-2.ensures
    c.put-3.ensures c.put-4.ensures))
