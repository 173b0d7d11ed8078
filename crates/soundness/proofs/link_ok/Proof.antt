-- `link_ok` meets its contract: a link that is 0 is in order; another needs a used row of a lesser rank. Assumes nothing.
use native.Mathlib.Omega.{arith}
use borrow.Author.Rules.{rules}
use Rattle.layout.specs.View.{view}
use Rattle.rows.specs.Says.{holds, fails}
use Rattle.rows.proofs.Says.{says_pass, says_fail, says_is}
use Rattle.rows.proofs.Lookup.{used_row}
use Rattle.soundness.proofs.Checks.{down_of, of_down}
use Rattle.soundness.proofs.link_ok.Statement.{statement}
use Rattle.soundness.proofs.link_ok.Tie as tie

pub link_ok_spec : {M : Type 1} → statement M
link_ok_spec =
    tie.close
    (tie.spec
    (λ c. holds (rw c.if-p-eq0.true tt))
    (λ c. search rules)
    (λ c κs. search rules)
    (λ c. fails
    (λ q. says_fail c.if-not-used_row.true-raw (says_is c.used_row.ensures) (of_down (view c.args.rows c.args.words.now) _ _ c.if-p-eq0.false q).0))
    (λ c κs. let u = used_row (view c.args.rows c.args.words.now) _
    (says_pass c.if-not-used_row.false-raw (says_is c.used_row.ensures)) in
    let r = c.requires in omega arith)
    (λ c. fails
    (λ q. let z = of_down (view c.args.rows c.args.words.now) _ _ c.if-p-eq0.false q in
    let e = c.get.ensures in let t = c.if-get-below.true in omega arith))
    (λ c. let e = c.get.ensures in
    let t = c.if-get-below.false in
    holds (down_of (view c.args.rows c.args.words.now) _ _ c.if-p-eq0.false
    (says_pass c.if-not-used_row.false-raw (says_is c.used_row.ensures), omega arith))))
