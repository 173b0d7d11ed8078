-- `recall_row` meets its contract: the kind is asked for, and the word for the arrow holds an answer. Assumes nothing.
use Rattle.layout.specs.Arrows.{is_marked}
use Rattle.memory.proofs.Store.{recalled}
use borrow.Author.Rules.{rules}
use Rattle.memory.proofs.recall_row.Statement.{statement}
use Rattle.memory.proofs.recall_row.Tie as tie

pub recall_row_spec : {M : Type 1} → statement M
recall_row_spec =
    tie.close
    (tie.spec (λ c κs. search rules) (λ c. search rules) (λ c κs. search rules) (λ c κs. search rules) (λ c. search rules)
    (λ c. search rules)
    (λ c. recalled (is_marked c.args.a) _
    c.get-key.ensures c.get.ensures c.if-key-kind.false
    c.held_for-word.ensures c.if-word-eq0.false))
