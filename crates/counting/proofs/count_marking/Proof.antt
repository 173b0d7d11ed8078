-- `count_marking` meets its contract: the base is counted, and what the arrows reach beside it. Assumes nothing.
use mathlib.Core.Path.{◌∙◌}
use mathlib.Core.List.Memᴰ.{append_left}
use mathlib.Core.List.Memᴰ.{append_right}
use native.Mathlib.Omega.{arith}
use Rattle.counting.proofs.CountsLaws.{room-base, base_copied}
use Rattle.counting.proofs.Peak.{live-counted, live-le}
use borrow.Author.Rules.{rules}
use Rattle.counting.proofs.count_marking.Statement.{statement}
use Rattle.counting.proofs.count_marking.Tie as tie

pub count_marking_spec : {M : Type 1} → statement M
count_marking_spec =
    tie.close
    (tie.spec
    (λ c κs.
    (c.requires.1.size, c.requires.2.most))
    (λ c. let l = c.requires.1.size in omega arith)
    (λ c κs.
    record {
      base = rw c.copy_marks.auto.marks
          (room-base c.requires.0.sound
          c.requires.2);
      arrow =
          λ a h. c.requires.0.arrows a
          (append_left c.args.more.now h);
    })
    (λ c κs.
    record {
      base = rw (
        c.list_new-first.auto.marks,
        c.copy_marks.auto.marks,
      )
          (room-base
          c.requires.0.sound
          c.requires.2);
      arrow =
          λ a h. c.requires.0.arrows a
          (append_right
          c.args.roots.now h);
    })
    (λ c. let l =
    live-le
    c.requires.0
    (live-counted _ _
    (base_copied
    c.requires.0.sound
    c.requires.1
    c.requires.2
    c.copy_marks.ensures)
    c.requires.1.number c.list_new-first.ensures
    c.list_new-second.ensures) in omega arith)
    (λ c. let l =
    live-le
    c.requires.0
    (live-counted _ _
    (base_copied
    c.requires.0.sound
    c.requires.1
    c.requires.2
    c.copy_marks.ensures)
    c.requires.1.number c.list_new-first.ensures
    c.list_new-second.ensures) in omega arith)
    (λ c. c.list_new-second.auto.marks ∙ c.list_new-first.auto.marks
    ∙ c.copy_marks.auto.marks)
    (λ c. live-counted _ _
    (base_copied
    c.requires.0.sound
    c.requires.1
    c.requires.2
    c.copy_marks.ensures)
    c.requires.1.number c.list_new-first.ensures
    c.list_new-second.ensures))
