-- `make_empty` meets its contract: heads, then the header, are written. Assumes nothing.
use Rattle.layout.specs.View.{view}
use Rattle.table.proofs.Fresh.{emptied-by}
use borrow.Author.Rules.{rules}
use Rattle.table.proofs.make_empty.Statement.{statement}
use Rattle.table.proofs.make_empty.Tie as tie

pub make_empty_spec : {M : Type 1} → statement M
make_empty_spec =
    tie.close
    (tie.spec
    (λ c κs. search rules)
    (λ c κs. search rules)
    (λ c κs. search rules)
    (λ c. search rules)
    (λ c. emptied-by
    (view c.args.rows
    c.args.words.now) _ _
    c.empty_heads.ensures
    c.header-header.ensures c.write_header.ensures))
