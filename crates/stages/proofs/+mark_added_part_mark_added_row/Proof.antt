-- `mark_added_part` and `mark_added_row` meet their contracts: a row is marked and counted after both its arrows, and 2n minus the level
-- falls. Assumes nothing.
use borrow.Author.Rules.{rules}
use mathlib.Core.Path.{refl, sym, ◌∙◌}
use native.Mathlib.Omega.{arith}
use Prim.Native.Nat.{◌+◌, ◌*◌, ℕ, ◌<◌}
use Rattle.layout.specs.View.{view}
use Rattle.rows.specs.Mark.{depth}
use Rattle.rows.proofs.Says.{test_yes, test_no}
use Rattle.counting.proofs.News.{still-off}
use Rattle.stages.proofs.AddedCounts.{added_constant, added_again, added-get, added_in, added-low, added-high, added-count-asks}
use Rattle.stages.proofs.AddedCounts.{added-row as added-done}
use borrow.Fn.Kinds.{In}
use borrow.Fn.PlainCycle.{Measures, is, falls, and}
use Rattle.stages.proofs.+mark_added_part_mark_added_row.{statement}
use Rattle.stages.proofs.+mark_added_part_mark_added_row.Tie.{close}
use Rattle.stages.proofs.mark_added_part.Reads as mark-added-part
use Rattle.stages.proofs.mark_added_part.Kinds as mark-added-part-kinds
use Rattle.stages.proofs.+mark_added_part_mark_added_row.Lts-mark_added_part as mark-added-part-lts
use Rattle.stages.proofs.mark_added_row.Reads as added-row
use Rattle.stages.proofs.mark_added_row.Kinds as mark-added-row-kinds
use Rattle.stages.proofs.+mark_added_part_mark_added_row.Lts-mark_added_row as mark-added-row-lts
use Rattle.layout.proofs.get.Reads as get-reads
use Rattle.layout.proofs.is_row.Reads as is-row-reads
use Rattle.layout.proofs.row_of.Reads as row-of-reads
use Rattle.rows.proofs.marked.Reads as marked-reads
use Rattle.rows.proofs.set_mark.Reads as set-mark-reads
use Rattle.stages.proofs.count_one.Reads as count-one-reads

abbrev μ-mark-added-part : Measures 3 mark-added-part-kinds.ps ℕ
μ-mark-added-part κs a = 2 * depth (view a.1.0 a.0.now) a.1.1.1.1.0 + 1

abbrev μ-added-row : Measures 3 mark-added-row-kinds.ps ℕ
μ-added-row κs a = 2 * depth (view a.1.0 a.0.now) a.1.1.1.1.0

abbrev mark_added_part-at : ℕ → In 3 mark-added-part-kinds.ps
mark_added_part-at t =
    and 3 mark-added-part-kinds.ps (is 3 mark-added-part-kinds.ps μ-mark-added-part t) mark-added-part.Pre

abbrev mark_added_part-below : ℕ → In 3 mark-added-part-kinds.ps
mark_added_part-below t =
    and 3 mark-added-part-kinds.ps (falls 3 mark-added-part-kinds.ps ◌<◌ μ-mark-added-part t) mark-added-part.Pre

abbrev mark_added_row-at : ℕ → In 3 mark-added-row-kinds.ps
mark_added_row-at t = and 3 mark-added-row-kinds.ps (is 3 mark-added-row-kinds.ps μ-added-row t) added-row.Pre

abbrev mark_added_row-below : ℕ → In 3 mark-added-row-kinds.ps
mark_added_row-below t =
    and 3 mark-added-row-kinds.ps (falls 3 mark-added-row-kinds.ps ◌<◌ μ-added-row t) added-row.Pre

pub +mark_added_part_mark_added_row_spec : {M : Type 1} → statement M
+mark_added_part_mark_added_row_spec = close μ-mark-added-part μ-added-row (λ t. mark-added-part-lts.spec (
  is-row-reads.Asked,
  is-row-reads.Learnt,
  row-of-reads.Asked,
  row-of-reads.Learnt,
  marked-reads.Asked,
  marked-reads.Learnt,
  mark_added_row-below t,
  added-row.Post,
)
    (mark_added_part-at t)
    mark-added-part.Post
    (λ c κs. search rules)
    (λ c. added_constant _ _ _ _ (test_no c.is_row.ensures c.if-not-is_row.true-raw))
    (λ c κs. (test_yes c.is_row.ensures c.if-not-is_row.false-raw))
    (λ c κs. let l = added_in c.requires.1
    (test_yes c.is_row.ensures c.if-not-is_row.false-raw) c.row_of.ensures in
    let z = c.requires.1.room in omega (arith, l, z))
    (λ c. search rules)
    (λ c. added_again _ _ _ _
    (test_yes c.is_row.ensures c.if-not-is_row.false-raw)
    c.row_of.ensures (sym c.marked.ensures ∙ c.if-marked.true))
    (λ c κs. (
      rw (← c.requires.0) (omega arith),
      (
        c.requires.1,
        (test_yes c.is_row.ensures
            c.if-not-is_row.false-raw),
        (still-off _ _ c.row_of.ensures c.marked.ensures
            c.if-marked.false),
      ),
    ))
    (λ c. search rules)
    (λ c. search rules)
    (λ c. search rules))
    λ t. mark-added-row-lts.spec (
      row-of-reads.Asked,
      row-of-reads.Learnt,
      get-reads.Asked,
      get-reads.Learnt,
      mark_added_part-below t,
      mark-added-part.Post,
      set-mark-reads.Asked,
      set-mark-reads.Learnt,
      count-one-reads.Asked,
      count-one-reads.Learnt,
    )
    (mark_added_row-at t)
    added-row.Post
    (λ c κs. c.requires.1.1)
    (λ c κs. added-get c.requires.1.0
    c.requires.1.1 c.row_of-i.ensures _ (omega arith))
    (λ c κs. added-low c.requires.1.0
    c.requires.1.1 c.row_of-i.ensures
    c.requires.0 c.get.ensures)
    (λ c κs. added-get
    c.requires.1.0
    c.requires.1.1
    c.row_of-i.ensures _ (omega arith))
    (λ c κs. added-high
    c.requires.1.0 c.requires.1.1 c.row_of-i.ensures
    c.requires.0
    c.mark_added_part.ensures
    c.mark_added_part.auto.reached
    c.mark_added_part.auto.added c.get-2.ensures)
    (λ c κs. let l =
    added_in
    c.requires.1.0
    c.requires.1.1
    c.row_of-i.ensures in
    let z = c.mark_added_part-2.auto.reached
    ∙ c.mark_added_part.auto.reached in omega (arith, l, z))
    (λ c κs. added-get
    c.requires.1.0
    c.requires.1.1
    c.row_of-i.ensures _ (omega arith))
    (λ c κs. added-count-asks _
    c.requires.1.0
    c.requires.1.1
    c.row_of-i.ensures
    c.requires.1.2
    c.mark_added_part.ensures
    c.get.ensures
    c.mark_added_part-2.ensures
    c.get-2.ensures c.get-3.ensures
    (c.mark_added_part-2.auto.added
    ∙ c.mark_added_part.auto.added
    ∙ c.requires.1.0.counts-size))
    (λ c. c.set_mark.auto.marks
    ∙ c.mark_added_part-2.auto.reached
    ∙ c.mark_added_part.auto.reached)
    (λ c. c.count_one.auto.counts
    ∙ c.mark_added_part-2.auto.added
    ∙ c.mark_added_part.auto.added)
    (λ c. added-done _
    c.requires.1.0
    c.requires.1.1
    c.row_of-i.ensures
    c.requires.1.2
    c.mark_added_part.ensures
    c.get.ensures
    c.mark_added_part-2.ensures
    c.get-2.ensures
    c.set_mark.ensures c.get-3.ensures
    c.count_one.ensures)
