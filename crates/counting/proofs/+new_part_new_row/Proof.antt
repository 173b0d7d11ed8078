-- `new_part` and `new_row` meet their contracts: a row is marked after both its arrows, and 2n minus the level falls. Assumes nothing.
use borrow.Author.Rules.{rules}
use mathlib.Core.Path.{refl, sym, ◌∙◌}
use native.Mathlib.Omega.{arith}
use Prim.Native.Nat.{◌+◌, ◌*◌, ℕ, ◌<◌}
use Rattle.layout.specs.View.{view}
use Rattle.rows.proofs.MarkLaws.{step, called}
use Rattle.rows.specs.Mark.{depth}
use Rattle.counting.proofs.News.{constant_new, again_new, row_new, new-le, still-off}
use Rattle.rows.proofs.Says.{test_yes, test_no}
use borrow.Fn.Kinds.{In}
use borrow.Fn.PlainCycle.{Measures, is, falls, and}
use Rattle.counting.proofs.+new_part_new_row.{statement}
use Rattle.counting.proofs.+new_part_new_row.Tie.{close}
use Rattle.counting.proofs.new_part.Reads as new-part
use Rattle.counting.proofs.new_part.Kinds as new-part-kinds
use Rattle.counting.proofs.+new_part_new_row.Lts-new_part as new-part-lts
use Rattle.counting.proofs.new_row.Reads as new_row
use Rattle.counting.proofs.new_row.Kinds as new-row-kinds
use Rattle.counting.proofs.+new_part_new_row.Lts-new_row as new-row-lts
use Rattle.layout.proofs.get.Reads as get-reads
use Rattle.layout.proofs.is_row.Reads as is-row-reads
use Rattle.layout.proofs.row_of.Reads as row-of-reads
use Rattle.rows.proofs.marked.Reads as marked-reads
use Rattle.rows.proofs.set_mark.Reads as set-mark-reads

abbrev μ-new-part : Measures 2 new-part-kinds.ps ℕ
μ-new-part κs a = 2 * depth (view a.1.0 a.0.now) a.1.1.1.0 + 1

abbrev μ-new-row : Measures 2 new-row-kinds.ps ℕ
μ-new-row κs a = 2 * depth (view a.1.0 a.0.now) a.1.1.1.0

abbrev new_part-at : ℕ → In 2 new-part-kinds.ps
new_part-at t = and 2 new-part-kinds.ps (is 2 new-part-kinds.ps μ-new-part t) new-part.Pre

abbrev new_part-below : ℕ → In 2 new-part-kinds.ps
new_part-below t =
    and 2 new-part-kinds.ps (falls 2 new-part-kinds.ps ◌<◌ μ-new-part t) new-part.Pre

abbrev new_row-at : ℕ → In 2 new-row-kinds.ps
new_row-at t = and 2 new-row-kinds.ps (is 2 new-row-kinds.ps μ-new-row t) new_row.Pre

abbrev new_row-below : ℕ → In 2 new-row-kinds.ps
new_row-below t =
    and 2 new-row-kinds.ps (falls 2 new-row-kinds.ps ◌<◌ μ-new-row t) new_row.Pre

pub +new_part_new_row_spec : {M : Type 1} → statement M
+new_part_new_row_spec = close μ-new-part μ-new-row (λ t. new-part-lts.spec (
  is-row-reads.Asked,
  is-row-reads.Learnt,
  row-of-reads.Asked,
  row-of-reads.Learnt,
  marked-reads.Asked,
  marked-reads.Learnt,
  new_row-below t,
  new_row.Post,
)
    (new_part-at t)
    new-part.Post
    (λ c κs. search rules)
    (λ c. constant_new _ _ _ (test_no c.is_row.ensures c.if-not-is_row.true-raw))
    (λ c κs. test_yes c.is_row.ensures c.if-not-is_row.false-raw)
    (λ c κs. let s = step _ c.requires.1
    (test_yes c.is_row.ensures c.if-not-is_row.false-raw) c.row_of.ensures in
    let b = c.requires.1.base.room in let r = s.row in omega arith)
    (λ c. search rules)
    (λ c. again_new _ _ _
    (test_yes c.is_row.ensures c.if-not-is_row.false-raw)
    c.row_of.ensures (sym c.marked.ensures ∙ c.if-marked.true))
    (λ c κs. (
      rw (← c.requires.0) (omega arith),
      (
        c.requires.1,
        test_yes c.is_row.ensures
            c.if-not-is_row.false-raw,
        still-off _ _ c.row_of.ensures c.marked.ensures c.if-marked.false,
      ),
    ))
    (λ c. search rules)
    (λ c. search rules))
    λ t. new-row-lts.spec (
      row-of-reads.Asked,
      row-of-reads.Learnt,
      get-reads.Asked,
      get-reads.Learnt,
      new_part-below t,
      new-part.Post,
      set-mark-reads.Asked,
      set-mark-reads.Learnt,
    )
    (new_row-at t)
    new_row.Post
    (λ c κs. c.requires.1.1)
    (λ c κs. let s = step _ c.requires.1.0 c.requires.1.1
    c.row_of-i.ensures in
    let w = c.requires.1.0.base.words in let h = s.row in (h, omega arith, w))
    (λ c κs. let s = step _ c.requires.1.0 c.requires.1.1
    c.row_of-i.ensures in
    called s.low s.low-less c.requires.0 c.get.ensures refl)
    (λ c κs. let s = step _ c.requires.1.0
    c.requires.1.1
    c.row_of-i.ensures in
    let w = c.requires.1.0.base.words in
    let h = s.row in (h, omega arith, w))
    (λ c κs. let s = step _ c.requires.1.0
    c.requires.1.1
    c.row_of-i.ensures in
    called s.high s.high-less c.requires.0
    c.get-2.ensures c.new_part-low.auto.marks)
    (λ c κs. let s = step _
    c.requires.1.0
    c.requires.1.1
    c.row_of-i.ensures in
    let b =
    c.requires.1.0.base.room in let r =
    s.row in
    omega (
      arith,
      c.new_part-low.auto.marks,
      c.new_part-high.auto.marks,
    ))
    (λ c. let l =
    new-le c.requires.1.0
    (row_new _
    c.requires.1.0
    c.requires.1.1
    c.row_of-i.ensures
    c.requires.1.2 c.set_mark.ensures
    c.new_part-low.ensures
    c.get.ensures
    c.new_part-high.ensures
    c.get-2.ensures) in omega arith)
    (λ c. let l =
    new-le c.requires.1.0
    (row_new _
    c.requires.1.0
    c.requires.1.1
    c.row_of-i.ensures
    c.requires.1.2 c.set_mark.ensures
    c.new_part-low.ensures
    c.get.ensures
    c.new_part-high.ensures
    c.get-2.ensures) in omega arith)
    (λ c. c.set_mark.auto.marks ∙ c.new_part-high.auto.marks
    ∙ c.new_part-low.auto.marks)
    (λ c. row_new _
    c.requires.1.0
    c.requires.1.1
    c.row_of-i.ensures
    c.requires.1.2 c.set_mark.ensures
    c.new_part-low.ensures
    c.get.ensures
    c.new_part-high.ensures
    c.get-2.ensures)
