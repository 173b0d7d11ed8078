-- `count_outside` meets its contract: there are words enough for the marks. Assumes nothing.
use Rattle.counting.proofs.CountsLaws.{few-room, all_room}
use borrow.Author.Rules.{rules}
use Rattle.counting.proofs.count_outside.Statement.{statement}
use Rattle.counting.proofs.count_outside.Tie as tie

pub count_outside_spec : {M : Type 1} → statement M
count_outside_spec =
    tie.close
    (tie.spec
    (λ c. search rules)
    (λ c κs. (c.requires, few-room c.if-rows-le-ROWS.true))
    (λ c. search rules)
    (λ c. search rules)
    (λ c κs. (c.requires, all_room c.requires.sound))
    (λ c. search rules))
