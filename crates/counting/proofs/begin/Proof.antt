-- `begin` meets its contract: what is marked is what registers and relations reach, and it is counted. Assumes nothing.
use native.Mathlib.Omega.{arith}
use Rattle.counting.proofs.BeginLaws.{blank-size, blank-marks, filled-pre, marked-size, front_size, written-size, begun}
use Rattle.counting.proofs.begin.Statement.{statement}
use Rattle.counting.proofs.begin.Tie as tie

pub begin_spec : {M : Type 1} → statement M
begin_spec =
    tie.close
    (tie.spec
    (λ c. let l = blank-size c.requires.1 in omega arith)
    (λ c. blank-marks c.requires.1)
    (λ c κs. filled-pre c.requires.0 c.requires.1)
    (λ c. let l = marked-size c.requires.0
    c.requires.1 c.mark_filled.auto.marks
    c.mark_filled.ensures in omega arith)
    (λ c. front_size c.requires.0
    c.requires.1 c.mark_filled.auto.marks
    c.mark_filled.ensures)
    (λ c κs. let l = front_size c.requires.0
    c.requires.1 c.mark_filled.auto.marks
    c.mark_filled.ensures in
    let z = c.requires.0.good.sizes in
    (c.requires.0.good.ranked, omega arith, z.room))
    (λ c. let l = marked-size c.requires.0
    c.requires.1
    c.mark_filled.auto.marks c.mark_filled.ensures in
    omega arith)
    (λ c. written-size c.requires.0
    c.requires.1
    c.mark_filled.auto.marks c.mark_filled.ensures _)
    (λ c. begun c.requires.0
    c.requires.1
    c.mark_filled.auto.marks c.mark_filled.ensures
    c.count_marks-number.ensures))
