-- `exists_known` meets its contract: the function does not read x, or what the row remembers. Assumes nothing.
use native.Mathlib.Omega.{arith}
use Rattle.rows.proofs.Says.{test_yes, test_no}
use Rattle.layout.specs.View.{view}
use Rattle.rows.specs.Used.{rows_of}
use Rattle.operations.proofs.Work.{ready-wf}
use Rattle.operations.proofs.Open.{row_at, reaches}
use Rattle.operations.proofs.Rows.{exists_constant, exists-past, exists_known_lem}
use borrow.Author.Rules.{rules}
use Rattle.operations.proofs.exists_known.Statement.{statement}
use Rattle.operations.proofs.exists_known.Tie as tie

pub exists_known_spec : {M : Type 1} → statement M
exists_known_spec =
    tie.close
    (tie.spec
    (λ c κs. search rules)
    (λ c. exists_constant c.requires.0 _ _ c.requires.2 c.requires.1
    (test_no c.is_row.ensures c.if-not-is_row.true-raw))
    (λ c κs. test_yes c.is_row.ensures c.if-not-is_row.false-raw)
    (λ c κs. let r = c.requires.0 in
    let R = row_at {rows = rows_of (view c.args.rows c.args.words.now)} _ c.requires.1 (test_yes c.is_row.ensures c.if-not-is_row.false-raw)
    c.row_of-i.ensures in ((ready-wf r).bounded _ R.used, omega arith, r.good.sizes.room))
    (λ c. let r = c.requires.0 in
    let R = row_at {rows = rows_of (view c.args.rows c.args.words.now)} _ c.requires.1
    (test_yes c.is_row.ensures c.if-not-is_row.false-raw)
    c.row_of-i.ensures in
    exists-past r _ _ c.requires.1 R c.get-level.ensures
    (let t = c.if-level-x.true in omega arith))
    (λ c. let r = c.requires.0 in
    let e = r.levels-is in
    let n = r.good.sizes.n_max in let h = c.requires.2 in omega arith)
    (λ c κs. let r = c.requires.0 in
    let R = row_at {rows = rows_of (view c.args.rows c.args.words.now)} _ c.requires.1
    (test_yes c.is_row.ensures c.if-not-is_row.false-raw)
    c.row_of-i.ensures in (
      (ready-wf r).bounded _ R.used,
      r.good.sizes.room,
      let e = r.levels-is in
          let n = r.good.sizes.n_max in let h = c.requires.2 in omega arith,
    ))
    (λ c. let r = c.requires.0 in
    let R = row_at {rows = rows_of (view c.args.rows c.args.words.now)} _ c.requires.1
    (test_yes c.is_row.ensures c.if-not-is_row.false-raw)
    c.row_of-i.ensures in
    exists_known_lem _ r R
    (reaches _ (test_yes c.is_row.ensures c.if-not-is_row.false-raw)
    c.row_of-i.ensures c.get-level.ensures (let t = c.if-level-x.false in omega arith))
    c.recall_row.ensures))
