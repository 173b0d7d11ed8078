-- `follow_at` meets its contract: an arrow of another level stays, one of this level is followed. Assumes nothing.
use mathlib.Core.Bool.{true, false}
use native.Mathlib.Omega.{arith}
use Rattle.layout.specs.View.{view}
use Rattle.rows.proofs.Says.{test_yes, test_no}
use Rattle.seek.proofs.Walk.{walk-row}
use Rattle.seek.proofs.ApartLaws.{stays, stays_constant, follows}
use Rattle.layout.proofs.is_row.Reads as is-row-reads
use Rattle.layout.proofs.row_of.Reads as row-of-reads
use Rattle.seek.proofs.level_of.Reads as level-of-reads
use Rattle.states.proofs.side.Reads as side-reads
use borrow.Author.Rules.{rules}
use Rattle.seek.proofs.follow_at.Statement.{statement}
use Rattle.seek.proofs.follow_at.Tie as tie
use Rattle.seek.proofs.follow_at.Reads as reads
use Rattle.seek.proofs.follow_at.Lts as lts

pub follow_at_spec : {M : Type 1} → statement M
follow_at_spec =
    tie.close
    (tie.spec
    (λ c κs. search rules)
    (λ c. stays (view c.args.rows c.args.words.now) _ _
    c.requires c.level_of.ensures c.if-level_of-l.true)
    (λ c κs. search rules)
    (λ c. stays_constant
    (view c.args.rows c.args.words.now) _ _
    c.requires (test_no c.is_row.ensures c.if-not-is_row.true-raw))
    (λ c κs. test_yes c.is_row.ensures c.if-not-is_row.false-raw)
    (λ c κs. let w =
    walk-row
    (view c.args.rows
    c.args.words.now) _
    c.requires
    (test_yes c.is_row.ensures c.if-not-is_row.false-raw) c.row_of-i.ensures in
    let b = c.requires.mark.base in omega arith)
    (λ c. follows
    (view c.args.rows
    c.args.words.now) true _
    c.requires
    (test_yes c.is_row.ensures c.if-not-is_row.false-raw)
    c.row_of-i.ensures c.level_of.ensures
    c.if-level_of-l.false c.if-high.true c.side.ensures)
    (λ c κs. let w =
    walk-row
    (view c.args.rows
    c.args.words.now) _
    c.requires
    (test_yes c.is_row.ensures c.if-not-is_row.false-raw) c.row_of-i.ensures in
    let b = c.requires.mark.base in omega arith)
    (λ c. follows
    (view c.args.rows
    c.args.words.now) false _
    c.requires
    (test_yes c.is_row.ensures c.if-not-is_row.false-raw)
    c.row_of-i.ensures c.level_of.ensures
    c.if-level_of-l.false c.if-high.false c.side-2.ensures))
