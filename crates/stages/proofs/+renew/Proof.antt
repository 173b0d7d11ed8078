-- `renew` meets its contract: rows are only added, and 2n minus the level falls. Assumes nothing.
use borrow.Author.Rules.{rules}
use mathlib.Core.Path.{◌∙◌}
use native.Mathlib.Omega.{arith}
use Rattle.layout.specs.View.{view}
use Rattle.rows.specs.Used.{rows_of}
use Rattle.operations.proofs.Open.{depth}
use Rattle.rows.proofs.Says.{test_yes}
use Rattle.stages.proofs.Renews.{renew_in, renew-none, renew-row, renew-low, renew-high, renew-asks, renew-last}
use Prim.Native.Nat.{ℕ, ◌<◌}
use borrow.Fn.Kinds.{In}
use borrow.Fn.PlainCycle.{Measures, is, falls, and}
use Rattle.stages.proofs.+renew.{statement}
use Rattle.stages.proofs.+renew.Tie.{close}
use Rattle.stages.proofs.renew.Reads as renew
use Rattle.stages.proofs.renew.Kinds as renew-kinds
use Rattle.stages.proofs.+renew.Lts-renew as renew-lts
use Rattle.layout.proofs.is_row.Reads as is-row-reads
use Rattle.layout.proofs.row_of.Reads as row-of-reads
use Rattle.operations.proofs.exists_odd.Reads as exists-odd-reads
use Rattle.operations.proofs.node_at.Reads as node-at-reads
use Rattle.rows.proofs.marked.Reads as marked-reads
use Rattle.rows.proofs.set_mark.Reads as set-mark-reads

abbrev μ-renew : Measures 2 renew-kinds.ps ℕ
μ-renew κs a = depth a.1.1.0 (rows_of (view a.1.0 a.0.now)) a.1.1.1.1.1.0

abbrev renew-at : ℕ → In 2 renew-kinds.ps
renew-at t = and 2 renew-kinds.ps (is 2 renew-kinds.ps μ-renew t) renew.Pre

abbrev renew-below : ℕ → In 2 renew-kinds.ps
renew-below t = and 2 renew-kinds.ps (falls 2 renew-kinds.ps ◌<◌ μ-renew t) renew.Pre

pub +renew_spec : {M : Type 1} → statement M
+renew_spec = close μ-renew λ t. renew-lts.spec (
  is-row-reads.Asked,
  is-row-reads.Learnt,
  marked-reads.Asked,
  marked-reads.Learnt,
  row-of-reads.Asked,
  row-of-reads.Learnt,
  node-at-reads.Asked,
  node-at-reads.Learnt,
  renew-below t,
  renew.Post,
  set-mark-reads.Asked,
  set-mark-reads.Learnt,
  exists-odd-reads.Asked,
  exists-odd-reads.Learnt,
)
    (renew-at t)
    renew.Post
    (λ c κs. search rules)
    (λ c. renew-none c.requires.1)
    (λ c κs. let l = renew_in c.requires.1 in
    let z = c.requires.1.room in omega (arith, l, z))
    (λ c. search rules)
    (λ c. renew-none c.requires.1)
    (λ c κs. test_yes c.is_row.ensures c.if-not-is_row.false-raw)
    (λ c κs. renew-row c.requires.1
    (test_yes c.is_row.ensures
    c.if-not-is_row.false-raw) c.row_of.ensures)
    (λ c κs. renew-low c.requires.1
    (test_yes c.is_row.ensures
    c.if-not-is_row.false-raw) c.row_of.ensures
    c.node_at-n.ensures
    c.requires.0)
    (λ c κs. renew-high
    c.requires.1
    (test_yes
    c.is_row.ensures
    c.if-not-is_row.false-raw) c.row_of.ensures
    c.node_at-n.ensures
    c.requires.0 c.renew.ensures
    c.renew.auto.seen)
    (λ c κs. let l =
    renew_in
    c.requires.1 in
    let z = c.renew-2.auto.seen
    ∙ c.renew.auto.seen in
    omega (arith, l, z))
    (λ c κs. renew-asks
    c.requires.1
    c.renew.ensures c.renew-2.ensures)
    (λ c. c.exists_odd.auto.words
    ∙ c.renew-2.auto.words
    ∙ c.renew.auto.words)
    (λ c. c.set_mark.auto.marks
    ∙ c.renew-2.auto.seen
    ∙ c.renew.auto.seen)
    (λ c. renew-last
    c.requires.1 c.renew.ensures
    c.renew-2.ensures
    c.exists_odd.ensures)
