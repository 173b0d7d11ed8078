-- `table_ok` meets its contract: each part decides one condition of `Good`. Assumes nothing.
use native.Mathlib.Omega.{arith}
use Rattle.layout.specs.View.{view}
use Rattle.rows.specs.Says.{fails}
use Rattle.rows.proofs.Says.{says_pass, says_fail}
use Rattle.rows.proofs.Sound.{room_of}
use Rattle.soundness.proofs.Decided.{of_good, ready_of, index-tells}
use Rattle.soundness.proofs.table_ok.Statement.{statement}
use Rattle.soundness.proofs.table_ok.Tie as tie

pub table_ok_spec : {M : Type 1} → statement M
table_ok_spec =
    tie.close
    (tie.spec
    (λ c κs. let z = c.requires.0 in omega arith)
    (λ c. fails (λ q. let l = q.ranked.count-le in let e = c.header_word-used.ensures in let t = c.if-used-rows.true in omega arith))
    (λ c κs. let z = c.requires.0 in omega arith)
    (λ c κs. let z = c.requires.0 in let t = c.if-used-rows.false in omega arith)
    (λ c. fails
    (λ q. let e = c.header_word-used.ensures in
    says_fail c.if-not-list_ok.true-raw c.list_ok.ensures
    (λ k h. (of_good
    (view c.args.rows
    c.args.words.now) q).list k (omega arith))))
    (λ c. let z = c.requires.0 in
    let e = c.header_word-bits.ensures in omega arith)
    (λ c κs. (
      c.if-used-rows.false,
      room_of
          (view c.args.rows
          c.args.words.now) c.requires.0
          (let e = c.header_word-used.ensures in let t = c.if-used-rows.false in omega arith),
      says_pass c.if-not-list_ok.false-raw c.list_ok.ensures,
    ))
    (λ c. fails
    (λ q. let e = c.header_word-used.ensures in
    says_fail c.if-not-rows_ok.true-raw c.rows_ok.ensures
    (λ k h. rw c.header_word-bits.ensures
    ((of_good
    (view c.args.rows
    c.args.words.now) q).rows k (omega arith)))))
    (λ c κs. ready_of
    (view c.args.rows
    c.args.words.now)
    c.requires.0
    c.header_word-used.ensures c.if-used-rows.false
    (says_pass c.if-not-list_ok.false-raw c.list_ok.ensures)
    (λ k h. rw c.header_word-bits.ensures at
    (says_pass c.if-not-rows_ok.false-raw c.rows_ok.ensures k h)))
    (λ c. index-tells
    (view c.args.rows
    c.args.words.now)
    c.requires.0
    c.requires.1
    c.requires.2
    c.header_word-used.ensures
    c.if-used-rows.false
    (says_pass c.if-not-list_ok.false-raw c.list_ok.ensures)
    (λ k h. rw c.header_word-bits.ensures at
    (says_pass c.if-not-rows_ok.false-raw c.rows_ok.ensures k h)) c.index_ok.ensures))
