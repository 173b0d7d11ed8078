-- `lead_ok` meets its contract: an arrow to no row leads nowhere; one to a row needs a used row of a greater level. Assumes nothing.
use native.Mathlib.Omega.{arith}
use Rattle.layout.specs.View.{view}
use Rattle.rows.specs.Says.{holds, fails}
use Rattle.rows.proofs.Says.{says_pass, says_fail, says_is, test_yes, test_no}
use Rattle.rows.proofs.Lookup.{used_row}
use Rattle.soundness.proofs.Checks.{leads_constant, leads_of, of_leads}
use borrow.Author.Rules.{rules}
use Rattle.soundness.proofs.lead_ok.Statement.{statement}
use Rattle.soundness.proofs.lead_ok.Tie as tie

pub lead_ok_spec : {M : Type 1} → statement M
lead_ok_spec =
    tie.close
    (tie.spec
    (λ c κs. search rules)
    (λ c. holds (leads_constant (view c.args.rows c.args.words.now) _ _ (test_no c.is_row.ensures c.if-not-is_row.true-raw)))
    (λ c κs. test_yes c.is_row.ensures c.if-not-is_row.false-raw)
    (λ c κs. search rules)
    (λ c. fails
    (λ q. says_fail c.if-not-used_row.true-raw (says_is c.used_row.ensures)
    (of_leads (view c.args.rows c.args.words.now) _ _ (test_yes c.is_row.ensures c.if-not-is_row.false-raw)
    c.row_of-i.ensures q).0))
    (λ c κs. let u =
    used_row
    (view c.args.rows
    c.args.words.now) _
    (says_pass c.if-not-used_row.false-raw (says_is c.used_row.ensures)) in
    let r = c.requires in omega arith)
    (λ c. fails
    (λ q. let z = of_leads (view c.args.rows c.args.words.now) _ _
    (test_yes c.is_row.ensures
    c.if-not-is_row.false-raw) c.row_of-i.ensures q in
    let e = c.get.ensures in let t = c.if-get-above.true in omega arith))
    (λ c. let e = c.get.ensures in
    let t = c.if-get-above.false in
    holds (leads_of (view c.args.rows c.args.words.now) _ _
    (test_yes c.is_row.ensures
    c.if-not-is_row.false-raw) c.row_of-i.ensures
    (says_pass c.if-not-used_row.false-raw (says_is c.used_row.ensures), omega arith))))
