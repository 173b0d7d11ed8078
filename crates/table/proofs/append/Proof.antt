-- `append` meets its contract: each store is one change of the view. Assumes nothing.
use mathlib.Core.Path.{◌∙◌}
use native.Mathlib.Omega.{arith}
use borrow.Author.Rules.{rules}
use Rattle.layout.specs.View.{view}
use Rattle.table.proofs.AppendLaws.{append-by}
use Rattle.table.proofs.append.Statement.{statement}
use Rattle.table.proofs.append.Tie as tie

pub append_spec : {M : Type 1} → statement M
append_spec =
    tie.close
    (tie.spec
    (λ c κs. search rules)
    (λ c κs. search rules)
    (λ c κs. search rules)
    (λ c κs. search rules)
    (λ c κs. search rules)
    (λ c κs. search rules)
    (λ c. let p =
    c.requires in omega arith)
    (λ c κs. let p =
    c.requires in let b =
    c.row_bucket-b.ensures.1 in let x =
    c.put_listed.auto.words in let y =
    c.put-2.auto.words in let z =
    c.put.auto.words in omega arith)
    (λ c. let p =
    c.requires in let e =
    c.header_word-used.ensures in omega arith)
    (λ c κs. let p =
    c.requires in let w =
    c.put_head.auto.words in let x =
    c.put_listed.auto.words in let y =
    c.put-2.auto.words in let z =
    c.put.auto.words in omega arith)
    (λ c. c.put_header.auto.words ∙ c.put_head.auto.words
    ∙ c.put_listed.auto.words
    ∙ c.put-2.auto.words
    ∙ c.put.auto.words)
    (λ c. append-by
    (view c.args.rows
    c.args.words.now) _
    c.row_bucket-b.ensures.0
    c.first-next.ensures
    c.header_word-used.ensures
    c.put.ensures
    c.put-2.ensures
    c.put_listed.ensures
    c.put_head.ensures c.put_header.ensures))
