-- `half` meets its contract: the arrow is everything, is at another level, or its row is read. Assumes nothing.
use mathlib.Core.Path.{sym}
use native.Mathlib.Omega.{arith}
use Rattle.layout.specs.View.{view}
use Rattle.layout.proofs.Arrows.{row-no}
use Rattle.soundness.proofs.Contained.{is_row_lem, row_at}
use Rattle.soundness.proofs.ListsLaws.{half-stays, half-read-other, half-read}
use borrow.Author.Rules.{rules}
use Rattle.soundness.proofs.within.half.Statement.{statement}
use Rattle.soundness.proofs.within.half.Tie as tie

pub half_spec : {M : Type 1} → statement M
half_spec =
    tie.close
    (tie.spec
    (λ c. let c1 = c.before.before in let t = c.if-a-eq-EVERYTHING.true in
    sym (half-stays (view c1.args.rows c1.args.words.now) _ _ _ (row-no _ (omega arith))))
    (λ c κs. is_row_lem _ c.requires.1.some c.if-a-eq-EVERYTHING.false)
    (λ c κs. let c1 = c.before.before.before in let r = row_at (view c1.args.rows c1.args.words.now) _ c1.requires.0
    c1.requires.1.arrow (is_row_lem _ c1.requires.1.some c.if-a-eq-EVERYTHING.false) in let h = r.row in let e = c.row_of-i.ensures in
    (omega arith, omega arith, c1.requires.0.sizes.room))
    (λ c. let c1 = c.before.before.before.before.before in
    half-read-other (view c1.args.rows c1.args.words.now) _ _ (is_row_lem _ c1.requires.1.some
    c.if-a-eq-EVERYTHING.false) c.row_of-i.ensures c.get.ensures c.if-get-level.true)
    (λ c κs. let c1 = c.before.before.before.before.before in
    let r = row_at (view c1.args.rows c1.args.words.now) _ c1.requires.0 c1.requires.1.arrow (is_row_lem _ c1.requires.1.some
    c.if-a-eq-EVERYTHING.false) in let h = r.row in let e = c.row_of-i.ensures in let s = c1.requires.2 in
    (omega arith, omega arith, c1.requires.0.sizes.room))
    (λ c κs. search rules)
    (λ c. let c1 = c.before.before.before.before in let c2 = c1.before.before.before in
    half-read (view c2.args.rows c2.args.words.now) _ _ (is_row_lem _ c2.requires.1.some c1.if-a-eq-EVERYTHING.false)
    c1.row_of-i.ensures c.get.ensures c.if-get-level.false c.get-2.ensures
    c.carry.ensures))
