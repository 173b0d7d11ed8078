-- `obey_unsound` takes the command apart: fresh has its function, and every other one is refused by check 2. Assumes nothing.
use Rattle.commands.proofs.Obeyed.{obeys_as, call-refused, count-refused}
use borrow.Author.Rules.{rules}
use Rattle.commands.proofs.obey_unsound.Statement.{statement}
use Rattle.commands.proofs.obey_unsound.Tie as tie

pub obey_unsound_spec : {M : Type 1} → statement M
obey_unsound_spec =
    tie.close
    (tie.spec
    (λ c. search rules)
    (λ c κs. search rules)
    (λ c. search rules)
    (λ c κs. search rules)
    (λ c. search rules)
    (λ c κs. search rules)
    (λ c. search rules)
    (λ c κs. search rules)
    (λ c. search rules)
    (λ c κs. search rules)
    (λ c. search rules)
    (λ c κs. search rules)
    (λ c. search rules)
    (λ c. λ bs size. obeys_as bs size c.in-Fresh.is
    c.obey_fresh.ensures)
    (λ c. λ bs size. obeys_as bs size c.in-Relation.is
    (call-refused c.requires _ c.unsound.ensures))
    (λ c. λ bs size. obeys_as bs size c.in-Set.is
    (call-refused c.requires _ c.unsound-in-Set.ensures))
    (λ c. λ bs size. obeys_as bs size c.in-Clear.is
    (call-refused c.requires _ c.unsound-in-Clear.ensures))
    (λ c. λ bs size. obeys_as bs size c.in-Count.is
    (count-refused c.requires _ c.unsound-in-Count.ensures))
    (λ c. λ bs size. obeys_as bs size c.in-Collect.is
    (call-refused c.requires _ c.unsound-in-Collect.ensures)))
