-- `relation_steps` hands the evaluation on to its storing, and that to the collection afterwards. Assumes nothing.
use Rattle.formula_steps.proofs.Load.{relation-asks, relation_storing, relation_tidying, relation_done}
use borrow.Author.Rules.{rules}
use Rattle.formula_steps.proofs.relation_steps.Statement.{statement}
use Rattle.formula_steps.proofs.relation_steps.Tie as tie

pub relation_steps_spec : {M : Type 1} → statement M
relation_steps_spec =
    tie.close
    (tie.spec
    (λ c κs. search rules)
    (λ c κs. search rules)
    (λ c κs. search rules)
    (λ c κs.
    relation-asks c.requires
    c.header_word-total.ensures c.header_word.ensures)
    (λ c κs.
    relation_storing c.requires
    c.header_word-total.ensures
    c.header_word.ensures _
    c.evaluate_relation-done.ensures)
    (λ c κs.
    relation_tidying
    c.requires
    c.header_word-total.ensures
    c.header_word.ensures _
    c.evaluate_relation-done.ensures _
    c.store_relation-answer.ensures.1)
    (λ c. search rules)
    (λ c.
    relation_done
    c.requires
    c.header_word-total.ensures
    c.header_word.ensures _ c.evaluate_relation-done.ensures _
    c.store_relation-answer.ensures.1
    c.store_relation-answer.ensures.0 _ c.tidy.ensures))
