-- `ref_ok` meets its contract: a root is empty, holds a constant, or holds an arrow to a row that must be used. Assumes nothing.
use Rattle.layout.specs.View.{view}
use Rattle.rows.specs.Used.{rows_of}
use Rattle.rows.proofs.Used.{arrow_constant, arrow_of, of_arrow}
use Rattle.rows.proofs.Roots.{ref-empty, ref-arrow, arrow-ref}
use Rattle.rows.specs.Says.{holds}
use Rattle.rows.proofs.Says.{says_map, says_is, test_yes, test_no}
use borrow.Author.Rules.{rules}
use Rattle.soundness.proofs.ref_ok.Statement.{statement}
use Rattle.soundness.proofs.ref_ok.Tie as tie

pub ref_ok_spec : {M : Type 1} → statement M
ref_ok_spec =
    tie.close
    (tie.spec (λ c. holds (ref-empty (rows_of (view c.args.rows c.args.words.now)) _ c.if-r-eq0.true)) (λ c. search rules) (λ c κs. search rules)
    (λ c. holds
    (arrow-ref (rows_of (view c.args.rows c.args.words.now)) _ c.if-r-eq0.false (arrow_constant (rows_of (view c.args.rows c.args.words.now)) _ (test_no c.is_row.ensures c.if-not-is_row.true-raw))))
    (λ c κs. test_yes c.is_row.ensures c.if-not-is_row.false-raw) (λ c κs. search rules)
    (λ c. says_map
    (λ u. arrow-ref (rows_of (view c.args.rows c.args.words.now)) _ c.if-r-eq0.false
    (arrow_of (rows_of (view c.args.rows c.args.words.now)) _ (test_yes c.is_row.ensures c.if-not-is_row.false-raw) c.row_of.ensures
    u)) (λ q. of_arrow (rows_of (view c.args.rows c.args.words.now)) _ (test_yes c.is_row.ensures c.if-not-is_row.false-raw)
    c.row_of.ensures (ref-arrow (rows_of (view c.args.rows c.args.words.now)) _ c.if-r-eq0.false q)) (says_is c.used_row.ensures)))
