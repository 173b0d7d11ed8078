-- `count_live` meets its contract: there are words enough for the marks. Assumes nothing.
use Rattle.counting.proofs.CountsLaws.{few-room, all_room}
use borrow.Author.Rules.{rules}
use Rattle.counting.proofs.count_live.Statement.{statement}
use Rattle.counting.proofs.count_live.Tie as tie

pub count_live_spec : {M : Type 1} → statement M
count_live_spec =
    tie.close
    (tie.spec
    (λ c. search rules)
    (λ c κs. (
      c.requires.0,
      c.requires.1,
      few-room c.if-rows-le-ROWS.true,
    ))
    (λ c. search rules)
    (λ c. search rules)
    (λ c κs. (
      c.requires.0,
      c.requires.1,
      all_room c.requires.0.sound,
    ))
    (λ c. search rules))
