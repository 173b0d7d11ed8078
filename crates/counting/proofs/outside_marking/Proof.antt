-- `outside_marking` meets its contract: what is marked beside the base is what the arrow reaches beside it. Assumes nothing.
use mathlib.Core.Path.{◌∙◌}
use Rattle.counting.proofs.CountsLaws.{room-base, base_copied, outside-counted}
use borrow.Author.Rules.{rules}
use Rattle.counting.proofs.outside_marking.Statement.{statement}
use Rattle.counting.proofs.outside_marking.Tie as tie

pub outside_marking_spec : {M : Type 1} → statement M
outside_marking_spec =
    tie.close
    (tie.spec
    (λ c κs. (c.requires.0.counts.base.size, c.requires.1.most))
    (λ c κs.
    record {
      base = rw c.copy_marks.auto.marks
          (room-base c.requires.0.sound
          c.requires.1);
      arrow = c.requires.0.arrow;
    })
    (λ c. c.mark_new.auto.marks ∙ c.copy_marks.auto.marks)
    (λ c. outside-counted
    (base_copied c.requires.0.sound
    c.requires.0.counts.base
    c.requires.1
    c.copy_marks.ensures) c.mark_new.ensures))
