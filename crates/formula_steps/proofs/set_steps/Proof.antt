-- `set_steps` hands the evaluation on to its storing, and that to the collection afterwards. Assumes nothing.
use Rattle.formula_steps.proofs.Store.{set-asks, set_storing, set_tidying, set_done}
use borrow.Author.Rules.{rules}
use Rattle.formula_steps.proofs.set_steps.Statement.{statement}
use Rattle.formula_steps.proofs.set_steps.Tie as tie

pub set_steps_spec : {M : Type 1} → statement M
set_steps_spec =
    tie.close
    (tie.spec
    (λ c κs. search rules)
    (λ c κs. search rules)
    (λ c κs. search rules)
    (λ c κs. search rules)
    (λ c κs. search rules)
    (λ c κs. set-asks c.requires
    c.header_word-rows.ensures
    c.args.most
    c.rows_under.ensures c.rounds_under.ensures
    c.header_word.ensures)
    (λ c κs. set_storing
    c.requires
    c.header_word-rows.ensures
    c.args.most c.rows_under.ensures
    c.rounds_under.ensures _
    c.evaluate_set-done.ensures)
    (λ c κs. set_tidying
    c.requires
    c.header_word-rows.ensures
    c.args.most
    c.rows_under.ensures
    c.rounds_under.ensures _
    c.evaluate_set-done.ensures _
    c.store_set-answer.ensures.1)
    (λ c. search rules)
    (λ c. set_done
    c.requires
    c.header_word-rows.ensures
    c.args.most
    c.rows_under.ensures
    c.rounds_under.ensures _ c.evaluate_set-done.ensures _
    c.store_set-answer.ensures.1
    c.store_set-answer.ensures.0 _ c.tidy.ensures))
