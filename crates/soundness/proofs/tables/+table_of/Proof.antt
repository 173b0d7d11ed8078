-- `table_of` meets its contract: a remembered table is right, and a row's table is joined from those of its arrows, which lead to greater
-- levels. Assumes nothing.
use borrow.Author.Rules.{rules}
use Rattle.soundness.proofs.CellsLaws.{tabled-nothing, tabled-everything}
use Rattle.soundness.proofs.TablesLaws.{far_to, led, recalled, asked-arrow, row-asked, made_table}
use Rattle.layout.proofs.Arrows.{row-yes}
use Rattle.layout.specs.View.{view}
use native.Mathlib.Omega.{arith}
use mathlib.Core.Path.{refl}
use mathlib.Core.Logic.{inl, inr}
use Prim.Native.Nat.{ℕ, ◌<◌}
use borrow.Fn.Kinds.{In}
use borrow.Fn.PlainCycle.{Measures, is, falls, and}
use Rattle.soundness.proofs.tables.+table_of.{statement}
use Rattle.soundness.proofs.tables.+table_of.Tie.{close}
use Rattle.soundness.proofs.tables.table_of.Reads as table-of
use Rattle.soundness.proofs.tables.table_of.Kinds as table-of-kinds
use Rattle.soundness.proofs.tables.+table_of.Lts-table_of as table-of-lts
use Rattle.layout.proofs.get.Reads as get-reads
use Rattle.layout.proofs.row_of.Reads as row-of-reads
use Rattle.soundness.proofs.tables.carried.Reads as carried-reads
use Rattle.soundness.proofs.tables.keep.Reads as keep-reads
use Rattle.soundness.proofs.tables.recall.Reads as recall-reads
use Rattle.soundness.proofs.tables.row_table.Reads as row-table-reads

abbrev μ-table-of : Measures 2 table-of-kinds.ps ℕ
μ-table-of κs a = far_to (view a.1.0 a.0.now) a.1.1.1.1.1.0

abbrev table_of-at : ℕ → In 2 table-of-kinds.ps
table_of-at t = and 2 table-of-kinds.ps (is 2 table-of-kinds.ps μ-table-of t) table-of.Pre

abbrev table_of-below : ℕ → In 2 table-of-kinds.ps
table_of-below t =
    and 2 table-of-kinds.ps (falls 2 table-of-kinds.ps ◌<◌ μ-table-of t) table-of.Pre

pub +table_of_spec : {M : Type 1} → statement M
+table_of_spec = close μ-table-of λ t. table-of-lts.spec (
  row-of-reads.Asked,
  row-of-reads.Learnt,
  recall-reads.Asked,
  recall-reads.Learnt,
  carried-reads.Asked,
  carried-reads.Learnt,
  get-reads.Asked,
  get-reads.Learnt,
  table_of-below t,
  table-of.Post,
  row-table-reads.Asked,
  row-table-reads.Learnt,
  keep-reads.Asked,
  keep-reads.Learnt,
)
    (table_of-at t)
    table-of.Post
    (λ c. record { tabled = tabled-nothing _ c.if-a-eq-NOTHING.true; known = c.requires.1.known })
    (λ c. record { tabled = tabled-everything _ c.if-a-eq-EVERYTHING.true; known = c.requires.1.known })
    (λ c κs. row-yes _ (let x = c.if-a-eq-NOTHING.false in let y = c.if-a-eq-EVERYTHING.false in omega arith))
    (λ c κs. let r = led c.requires.1 c.if-a-eq-NOTHING.false
    c.if-a-eq-EVERYTHING.false c.row_of-i.ensures in
    let h = r.place in
    let e = c.requires.1.size in
    (r.below, c.requires.1.good.sizes.room, omega arith))
    (λ c κs. search rules)
    (λ c. search rules)
    (λ c. recalled c.requires.1
    (led c.requires.1
    c.if-a-eq-NOTHING.false c.if-a-eq-EVERYTHING.false
    c.row_of-i.ensures) c.recall-known.ensures c.if-known-ne0.true
    c.carried.ensures)
    (λ c κs. let r = led c.requires.1
    c.if-a-eq-NOTHING.false c.if-a-eq-EVERYTHING.false
    c.row_of-i.ensures in
    (r.below, omega arith, c.requires.1.good.sizes.room))
    (λ c κs. asked-arrow c.requires.1
    (led c.requires.1
    c.if-a-eq-NOTHING.false
    c.if-a-eq-EVERYTHING.false c.row_of-i.ensures)
    c.requires.0 (inl c.get.ensures) refl
    c.requires.1.known)
    (λ c κs. let r = led c.requires.1
    c.if-a-eq-NOTHING.false
    c.if-a-eq-EVERYTHING.false
    c.row_of-i.ensures in (
      r.below,
      omega arith,
      c.requires.1.good.sizes.room,
    ))
    (λ c κs. asked-arrow
    c.requires.1
    (led c.requires.1 c.if-a-eq-NOTHING.false
    c.if-a-eq-EVERYTHING.false
    c.row_of-i.ensures)
    c.requires.0
    (inr c.get-2.ensures) c.table_of-low.auto.memo
    c.table_of-low.ensures.known)
    (λ c κs. row-asked
    c.requires.1
    (led c.requires.1
    c.if-a-eq-NOTHING.false c.if-a-eq-EVERYTHING.false c.row_of-i.ensures)
    c.get.ensures
    c.get-2.ensures
    c.table_of-low.ensures.tabled
    c.table_of-high.ensures.tabled)
    (λ c κs. let r =
    led c.requires.1
    c.if-a-eq-NOTHING.false
    c.if-a-eq-EVERYTHING.false
    c.row_of-i.ensures in
    let h = r.place in
    let e = c.table_of-high.auto.memo in
    let f = c.table_of-low.auto.memo in
    let g = c.requires.1.size in (
      r.below,
      c.requires.1.good.sizes.room,
      omega arith,
    ))
    (λ c κs. search rules)
    (λ c. search rules)
    (λ c. let r =
    led c.requires.1
    c.if-a-eq-NOTHING.false
    c.if-a-eq-EVERYTHING.false
    c.row_of-i.ensures in
    let h = r.place in
    let e = c.table_of-high.auto.memo in
    let f = c.table_of-low.auto.memo in
    let g = c.requires.1.size in
    made_table r (omega arith) c.table_of-high.ensures.known
    c.row_table-table.ensures c.keep.ensures c.carried-2.ensures)
