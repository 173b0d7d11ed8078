-- `obey_clear` is the reply of `clear_unchecked` as an outcome. Assumes nothing.
use mathlib.Core.Path.{ap, sym, ◌∙◌}
use Rattle.book.specs.Leaves.{plain}
use Rattle.calls.specs.Replies.{cleared_reply}
use Rattle.commands.proofs.Obeyed.{call-told}
use borrow.Author.Rules.{rules}
use Rattle.commands.proofs.obey_clear.Statement.{statement}
use Rattle.commands.proofs.obey_clear.Tie as tie

pub obey_clear_spec : {M : Type 1} → statement M
obey_clear_spec =
    tie.close
    (tie.spec
    (λ c κs. c.requires)
    (λ c. search rules)
    (λ c κs. search rules)
    (λ c. search rules)
    (λ c κs. search rules)
    (λ c κs. search rules)
    (λ c. search rules)
    (λ c. call-told _ tt c.clear_unchecked.ensures
    (ap cleared_reply c.in-Ok.is) c.plain.ensures)
    (λ c. search rules)
    (λ c. call-told _ tt c.clear_unchecked.ensures
    (ap cleared_reply c.in-Err.is ∙ ap plain (sym c.from.ensures))
    c.plain-in-Err.ensures))
