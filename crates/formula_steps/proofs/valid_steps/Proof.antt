-- `valid_steps` hands the evaluation on to its storing, and that to the collection afterwards. Assumes nothing.
use Rattle.formula_steps.proofs.Load.{valid-asks, valid_storing, valid_tidying, valid_done}
use borrow.Author.Rules.{rules}
use Rattle.formula_steps.proofs.valid_steps.Statement.{statement}
use Rattle.formula_steps.proofs.valid_steps.Tie as tie

pub valid_steps_spec : {M : Type 1} → statement M
valid_steps_spec =
    tie.close
    (tie.spec
    (λ c κs. search rules)
    (λ c κs. search rules)
    (λ c κs. search rules)
    (λ c κs.
    valid-asks c.requires
    c.header_word-total.ensures c.header_word.ensures)
    (λ c κs.
    valid_storing c.requires
    c.header_word-total.ensures
    c.header_word.ensures _
    c.evaluate_pairs-done.ensures)
    (λ c κs.
    valid_tidying
    c.requires
    c.header_word-total.ensures
    c.header_word.ensures _
    c.evaluate_pairs-done.ensures _
    c.store_valid-answer.ensures.1)
    (λ c. search rules)
    (λ c.
    valid_done
    c.requires
    c.header_word-total.ensures
    c.header_word.ensures _ c.evaluate_pairs-done.ensures _
    c.store_valid-answer.ensures.1
    c.store_valid-answer.ensures.0 _ c.tidy.ensures))
