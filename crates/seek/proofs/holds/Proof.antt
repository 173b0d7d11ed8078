use borrow.Author.Rules.{rules}
use mathlib.Core.Path.{◌≡◌, refl, sym, ◌∙◌}
use mathlib.Core.Bool.{true, false}
use native.Mathlib.Omega.{arith}
use Rattle.layout.specs.View.{view}
use Rattle.rows.specs.Mark.{depth}
use Rattle.seek.specs.Walk.{HoldsPre, holds_at}
use Rattle.seek.proofs.Walk.{walk-row, walk-child, walk_end}
use Rattle.seek.proofs.holds.Statement.{statement}
use Rattle.seek.proofs.holds.Tie as tie
use Rattle.seek.proofs.holds.Reads as reads
use Rattle.seek.proofs.holds.Lts as lts
use Rattle.layout.proofs.get.Reads as get-reads
use Rattle.layout.proofs.is_row.Reads as is-row-reads
use Rattle.layout.proofs.row_of.Reads as row-of-reads
use Rattle.seek.proofs.level_bit.Reads as level-bit-reads
use Rattle.states.proofs.side.Reads as side-reads

abbrev invariant_loop : tie.invariant-loop-i
invariant_loop words rows a s t x₀ x = HoldsPre (view rows words) x × (holds_at (view rows words) x s t ≡ holds_at (view rows words) a s t)

abbrev decreases_loop : tie.decreases-loop-i
decreases_loop words rows a s t x₀ x = depth (view rows words) x

pub holds_spec : {M : Type 1} → statement M
holds_spec =
    tie.close
    (tie.spec
    invariant_loop
    decreases_loop
    (λ c. (c.requires, refl))
    (λ c κs. search rules)
    (λ c κs. sym c.is_row.ensures ∙ c.loop-i-test.true)
    (λ c κs.
    (let w =
    walk-row
    (view c.args.rows c.args.words.now) _
    c.loop-i.invariant.0 (sym c.is_row.ensures ∙ c.loop-i-test.true) c.row_of-i.ensures in
    let b = c.loop-i.invariant.0.mark.base in omega arith))
    (λ c κs. let w =
    walk-row
    (view c.args.rows
    c.args.words.now) _ c.loop-i.invariant.0
    (sym c.is_row.ensures ∙ c.loop-i-test.true) c.row_of-i.ensures in
    let e = c.get.ensures in let q = c.loop-i.invariant.0.bits in omega arith)
    (λ c κs.
    (let w =
    walk-row
    (view c.args.rows
    c.args.words.now) _
    c.loop-i.invariant.0
    (sym c.is_row.ensures ∙ c.loop-i-test.true)
    c.row_of-i.ensures in
    let b = c.loop-i.invariant.0.mark.base in omega arith))
    (λ c. (walk-child
    (view c.args.rows
    c.args.words.now)
    c.args.s
    c.args.t _ true
    c.loop-i.invariant.0
    (sym c.is_row.ensures ∙ c.loop-i-test.true)
    c.row_of-i.ensures
    (rw c.get.ensures at (sym c.level_bit.ensures ∙ c.if-level_bit.true))
    c.side-x.ensures).less)
    (λ c. let d =
    walk-child
    (view c.args.rows
    c.args.words.now)
    c.args.s
    c.args.t _ true
    c.loop-i.invariant.0
    (sym c.is_row.ensures ∙ c.loop-i-test.true)
    c.row_of-i.ensures
    (rw c.get.ensures at (sym c.level_bit.ensures ∙ c.if-level_bit.true))
    c.side-x.ensures in (d.pre, d.same ∙ c.loop-i.invariant.1))
    (λ c κs.
    (let w =
    walk-row
    (view c.args.rows
    c.args.words.now) _
    c.loop-i.invariant.0
    (sym c.is_row.ensures ∙ c.loop-i-test.true)
    c.row_of-i.ensures in
    let b = c.loop-i.invariant.0.mark.base in omega arith))
    (λ c. (walk-child
    (view c.args.rows
    c.args.words.now)
    c.args.s
    c.args.t _ false
    c.loop-i.invariant.0
    (sym c.is_row.ensures ∙ c.loop-i-test.true)
    c.row_of-i.ensures
    (rw c.get.ensures at (sym c.level_bit.ensures ∙ c.if-level_bit.false))
    c.side-x-else-level_bit.ensures).less)
    (λ c. let d =
    walk-child
    (view c.args.rows
    c.args.words.now)
    c.args.s
    c.args.t _ false
    c.loop-i.invariant.0
    (sym c.is_row.ensures ∙ c.loop-i-test.true)
    c.row_of-i.ensures
    (rw c.get.ensures at (sym c.level_bit.ensures ∙ c.if-level_bit.false))
    c.side-x-else-level_bit.ensures in (d.pre, d.same ∙ c.loop-i.invariant.1))
    (λ c. walk_end (view c.args.rows c.args.words.now)
    c.args.s c.args.t _
    (sym c.is_row.ensures ∙ c.loop-i-test.false) ∙ c.loop-i.invariant.1))
