-- `shift_known` meets its contract: a constant, or what the row remembers for the arrow without a NOT. Assumes nothing.
use native.Mathlib.Omega.{arith}
use Rattle.rows.proofs.Says.{test_yes, test_no}
use Rattle.layout.specs.View.{view}
use Rattle.rows.specs.Used.{rows_of}
use Rattle.operations.proofs.Work.{ready-wf}
use Rattle.operations.proofs.Open.{row_at}
use Rattle.operations.proofs.Rows.{shift_constant}
use Rattle.operations.proofs.Carried.{shift_remembered}
use borrow.Author.Rules.{rules}
use Rattle.operations.proofs.shift_known.Statement.{statement}
use Rattle.operations.proofs.shift_known.Tie as tie

pub shift_known_spec : {M : Type 1} → statement M
shift_known_spec =
    tie.close
    (tie.spec (λ c κs. search rules)
    (λ c. shift_constant c.requires.0 _ (test_no c.is_row.ensures c.if-not-is_row.true-raw))
    (λ c κs. test_yes c.is_row.ensures c.if-not-is_row.false-raw)
    (λ c κs. let r = c.requires.0 in
    let R = row_at {rows = rows_of (view c.args.rows c.args.words.now)} _ c.requires.1 (test_yes c.is_row.ensures c.if-not-is_row.false-raw)
    c.row_of.ensures in ((ready-wf r).bounded _ R.used, r.good.sizes.room, omega arith)) (λ c κs. search rules)
    (λ c. let r = c.requires.0 in
    let t = test_yes c.is_row.ensures c.if-not-is_row.false-raw in
    let R = row_at {rows = rows_of (view c.args.rows c.args.words.now)} _ c.requires.1 t c.row_of.ensures in
    shift_remembered _ c.recall_row-found.result r R t c.recall_row-found.ensures c.carry_found.ensures))
