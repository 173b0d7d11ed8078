-- `set_table` meets its contract: a row's table is joined from those of its arrows, which lead to greater levels. Assumes nothing.
use borrow.Author.Rules.{rules}
use Rattle.soundness.proofs.CellsLaws.{tabled-nothing, tabled-everything}
use Rattle.soundness.proofs.TablesLaws.{far_to, set_led, set-asked, set-row-asked, carried-tabled}
use Rattle.layout.proofs.Arrows.{row-yes}
use Rattle.layout.specs.View.{view}
use native.Mathlib.Omega.{arith}
use mathlib.Core.Logic.{inl, inr}
use Prim.Native.Nat.{ℕ, ◌<◌}
use borrow.Fn.Kinds.{In}
use borrow.Fn.PlainCycle.{Measures, is, falls, and}
use Rattle.soundness.proofs.tables.set_table.Reads as set-table
use Rattle.soundness.proofs.tables.set_table.Kinds as set-table-kinds
use Rattle.soundness.proofs.tables.+set_table.Lts-set_table as set-table-lts
use Rattle.layout.proofs.get.Reads as get-reads
use Rattle.layout.proofs.row_of.Reads as row-of-reads
use Rattle.soundness.proofs.tables.carried.Reads as carried-reads
use Rattle.soundness.proofs.tables.row_table.Reads as row-table-reads
use Rattle.soundness.proofs.tables.+set_table.{statement}
use Rattle.soundness.proofs.tables.+set_table.Tie.{close}

abbrev μ-set-table : Measures 1 set-table-kinds.ps ℕ
μ-set-table κs a = far_to (view a.1.0 a.0.now) a.1.1.1.1.0

abbrev set_table-at : ℕ → In 1 set-table-kinds.ps
set_table-at t = and 1 set-table-kinds.ps (is 1 set-table-kinds.ps μ-set-table t) set-table.Pre

abbrev set_table-below : ℕ → In 1 set-table-kinds.ps
set_table-below t =
    and 1 set-table-kinds.ps (falls 1 set-table-kinds.ps ◌<◌ μ-set-table t) set-table.Pre

pub +set_table_spec : {M : Type 1} → statement M
+set_table_spec = close μ-set-table λ t. set-table-lts.spec (
  row-of-reads.Asked,
  row-of-reads.Learnt,
  get-reads.Asked,
  get-reads.Learnt,
  set_table-below t,
  set-table.Post,
  row-table-reads.Asked,
  row-table-reads.Learnt,
  carried-reads.Asked,
  carried-reads.Learnt,
)
    (set_table-at t)
    set-table.Post
    (λ c. tabled-nothing _ c.if-b-eq-NOTHING.true)
    (λ c. tabled-everything _ c.if-b-eq-EVERYTHING.true)
    (λ c κs. row-yes _ (let x = c.if-b-eq-NOTHING.false in let y = c.if-b-eq-EVERYTHING.false in omega arith))
    (λ c κs. let r = set_led c.requires.1 c.if-b-eq-NOTHING.false c.if-b-eq-EVERYTHING.false
    c.row_of-i.ensures in (r.below, omega arith, c.requires.1.good.sizes.room))
    (λ c κs. set-asked c.requires.1
    (set_led c.requires.1 c.if-b-eq-NOTHING.false c.if-b-eq-EVERYTHING.false
    c.row_of-i.ensures)
    c.requires.0 (inl c.get.ensures))
    (λ c κs. let r = set_led c.requires.1 c.if-b-eq-NOTHING.false
    c.if-b-eq-EVERYTHING.false c.row_of-i.ensures in
    (r.below, omega arith, c.requires.1.good.sizes.room))
    (λ c κs. set-asked c.requires.1
    (set_led c.requires.1 c.if-b-eq-NOTHING.false
    c.if-b-eq-EVERYTHING.false c.row_of-i.ensures)
    c.requires.0 (inr c.get-2.ensures))
    (λ c κs. set-row-asked c.requires.1
    (set_led c.requires.1
    c.if-b-eq-NOTHING.false c.if-b-eq-EVERYTHING.false
    c.row_of-i.ensures)
    c.get.ensures c.get-2.ensures c.set_table-low.ensures c.set_table-high.ensures)
    (λ c κs. search rules)
    (λ c. let r = set_led c.requires.1
    c.if-b-eq-NOTHING.false
    c.if-b-eq-EVERYTHING.false
    c.row_of-i.ensures in
    carried-tabled _ r.leads c.row_table.ensures c.carried.ensures)
