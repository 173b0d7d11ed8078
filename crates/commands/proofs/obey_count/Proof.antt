-- `obey_count` is the reply of `count_unchecked` as an outcome. Assumes nothing.
use mathlib.Core.Path.{ap, sym, ◌∙◌}
use Rattle.book.specs.Leaves.{plain}
use Rattle.calls.specs.Replies.{answer_reply}
use Rattle.commands.proofs.Obeyed.{count-told}
use borrow.Author.Rules.{rules}
use Rattle.commands.proofs.obey_count.Statement.{statement}
use Rattle.commands.proofs.obey_count.Tie as tie

pub obey_count_spec : {M : Type 1} → statement M
obey_count_spec =
    tie.close
    (tie.spec
    (λ c κs. c.requires)
    (λ c. search rules)
    (λ c κs. search rules)
    (λ c. search rules)
    (λ c κs. search rules)
    (λ c κs. search rules)
    (λ c. search rules)
    (λ c. count-told _ c.count_unchecked.ensures (ap answer_reply c.in-Ok.is)
    c.plain.ensures)
    (λ c. search rules)
    (λ c. count-told _ c.count_unchecked.ensures
    (ap answer_reply c.in-Err.is ∙ ap plain (sym c.from.ensures))
    c.plain-in-Err.ensures))
