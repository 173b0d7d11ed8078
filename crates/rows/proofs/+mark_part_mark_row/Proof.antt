-- `mark_part` and `mark_row` meet their contracts: a row is marked after both its arrows, and 2n minus the level falls. Assumes nothing.
use borrow.Author.Rules.{rules}
use mathlib.Core.Path.{refl, sym, ◌∙◌}
use native.Mathlib.Omega.{arith}
use Prim.Native.Nat.{◌+◌, ◌*◌, ℕ, ◌<◌}
use Rattle.layout.specs.View.{view}
use Rattle.rows.proofs.MarkLaws.{step, marks_constant, marks_again, marks-row, called}
use Rattle.rows.specs.Mark.{depth}
use Rattle.rows.proofs.Says.{test_yes, test_no}
use borrow.Fn.Kinds.{In}
use borrow.Fn.PlainCycle.{Measures, is, falls, and}
use Rattle.rows.proofs.+mark_part_mark_row.{statement}
use Rattle.rows.proofs.+mark_part_mark_row.Tie.{close}
use Rattle.rows.proofs.mark_part.Reads as mark-part
use Rattle.rows.proofs.mark_part.Kinds as mark-part-kinds
use Rattle.rows.proofs.+mark_part_mark_row.Lts-mark_part as mark-part-lts
use Rattle.rows.proofs.mark_row.Reads as mark-row
use Rattle.rows.proofs.mark_row.Kinds as mark-row-kinds
use Rattle.rows.proofs.+mark_part_mark_row.Lts-mark_row as mark-row-lts
use Rattle.layout.proofs.get.Reads as get-reads
use Rattle.layout.proofs.is_row.Reads as is-row-reads
use Rattle.layout.proofs.row_of.Reads as row-of-reads
use Rattle.rows.proofs.marked.Reads as marked-reads
use Rattle.rows.proofs.set_mark.Reads as set-mark-reads

abbrev μ-mark-part : Measures 2 mark-part-kinds.ps ℕ
μ-mark-part κs a = 2 * depth (view a.1.0 a.0.now) a.1.1.1.0 + 1

abbrev μ-mark-row : Measures 2 mark-row-kinds.ps ℕ
μ-mark-row κs a = 2 * depth (view a.1.0 a.0.now) a.1.1.1.0

abbrev mark_part-at : ℕ → In 2 mark-part-kinds.ps
mark_part-at t = and 2 mark-part-kinds.ps (is 2 mark-part-kinds.ps μ-mark-part t) mark-part.Pre

abbrev mark_part-below : ℕ → In 2 mark-part-kinds.ps
mark_part-below t =
    and 2 mark-part-kinds.ps (falls 2 mark-part-kinds.ps ◌<◌ μ-mark-part t) mark-part.Pre

abbrev mark_row-at : ℕ → In 2 mark-row-kinds.ps
mark_row-at t = and 2 mark-row-kinds.ps (is 2 mark-row-kinds.ps μ-mark-row t) mark-row.Pre

abbrev mark_row-below : ℕ → In 2 mark-row-kinds.ps
mark_row-below t =
    and 2 mark-row-kinds.ps (falls 2 mark-row-kinds.ps ◌<◌ μ-mark-row t) mark-row.Pre

pub +mark_part_mark_row_spec : {M : Type 1} → statement M
+mark_part_mark_row_spec = close μ-mark-part μ-mark-row (λ t. mark-part-lts.spec (
  is-row-reads.Asked,
  is-row-reads.Learnt,
  row-of-reads.Asked,
  row-of-reads.Learnt,
  marked-reads.Asked,
  marked-reads.Learnt,
  mark_row-below t,
  mark-row.Post,
)
    (mark_part-at t)
    mark-part.Post
    (λ c κs. search rules)
    (λ c. marks_constant _ _ _ (test_no c.is_row.ensures c.if-not-is_row.true-raw))
    (λ c κs. test_yes c.is_row.ensures c.if-not-is_row.false-raw)
    (λ c κs. let s = step _ c.requires.1
    (test_yes c.is_row.ensures c.if-not-is_row.false-raw) c.row_of.ensures in
    let b = c.requires.1.base.room in let r = s.row in omega arith)
    (λ c. search rules)
    (λ c. marks_again _ _ _
    (test_yes c.is_row.ensures c.if-not-is_row.false-raw)
    c.row_of.ensures (sym c.marked.ensures ∙ c.if-marked.true))
    (λ c κs. (
      rw (← c.requires.0) (omega arith),
      (
        c.requires.1,
        test_yes c.is_row.ensures
            c.if-not-is_row.false-raw,
      ),
    ))
    (λ c. search rules)
    (λ c. c.mark_row.ensures))
    λ t. mark-row-lts.spec (
      row-of-reads.Asked,
      row-of-reads.Learnt,
      get-reads.Asked,
      get-reads.Learnt,
      mark_part-below t,
      mark-part.Post,
      set-mark-reads.Asked,
      set-mark-reads.Learnt,
    )
    (mark_row-at t)
    mark-row.Post
    (λ c κs. c.requires.1.1)
    (λ c κs. let s = step _ c.requires.1.0 c.requires.1.1
    c.row_of-i.ensures in
    let w = c.requires.1.0.base.words in let h = s.row in (h, omega arith, w))
    (λ c κs. let s = step _ c.requires.1.0 c.requires.1.1
    c.row_of-i.ensures in
    called s.low s.low-less c.requires.0 c.get.ensures refl)
    (λ c κs. let s = step _ c.requires.1.0
    c.requires.1.1
    c.row_of-i.ensures in
    let w = c.requires.1.0.base.words in
    let h = s.row in (h, omega arith, w))
    (λ c κs. let s = step _ c.requires.1.0
    c.requires.1.1
    c.row_of-i.ensures in
    called s.high s.high-less c.requires.0
    c.get-2.ensures c.mark_part.auto.marks)
    (λ c κs. let s = step _
    c.requires.1.0
    c.requires.1.1
    c.row_of-i.ensures in
    let b =
    c.requires.1.0.base.room in let r =
    s.row in
    omega (
      arith,
      c.mark_part.auto.marks,
      c.mark_part-2.auto.marks,
    ))
    (λ c. c.set_mark.auto.marks ∙ c.mark_part-2.auto.marks
    ∙ c.mark_part.auto.marks)
    (λ c. marks-row _
    c.requires.1.1
    c.row_of-i.ensures
    c.set_mark.ensures
    c.mark_part.ensures
    c.get.ensures
    c.mark_part-2.ensures
    c.get-2.ensures)
