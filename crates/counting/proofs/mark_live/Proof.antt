-- `mark_live` meets its contract: the base's marks are copied, and what the arrows reach beside it is marked and counted. Assumes nothing.
use mathlib.Core.Path.{◌∙◌}
use native.Mathlib.Omega.{arith}
use Rattle.counting.proofs.CountsLaws.{room-base, base_copied, live-marked}
use Rattle.counting.proofs.Peak.{live-le}
use borrow.Author.Rules.{rules}
use Rattle.counting.proofs.mark_live.Statement.{statement}
use Rattle.counting.proofs.mark_live.Tie as tie

pub mark_live_spec : {M : Type 1} → statement M
mark_live_spec =
    tie.close
    (tie.spec
    (λ c κs. (c.requires.1.size, c.requires.2.most))
    (λ c. let l = c.requires.1.size in omega arith)
    (λ c κs.
    record {
      base = rw c.copy_marks.auto.marks
          (room-base c.requires.0.sound
          c.requires.2);
      arrow = c.requires.0.arrows;
    })
    (λ c. let l =
    live-le c.requires.0
    (live-marked
    (base_copied
    c.requires.0.sound
    c.requires.1
    c.requires.2
    c.copy_marks.ensures)
    c.requires.1.number
    c.list_new.ensures).number in omega arith)
    (λ c. c.list_new.auto.marks ∙ c.copy_marks.auto.marks)
    (λ c. live-marked
    (base_copied
    c.requires.0.sound
    c.requires.1
    c.requires.2
    c.copy_marks.ensures)
    c.requires.1.number
    c.list_new.ensures))
