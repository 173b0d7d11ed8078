-- `member` meets its contract: each test is one check, in order; the rest is the walk. Assumes nothing.
use native.Mathlib.Omega.{arith}
use Rattle.rows.proofs.Says.{says_pass, says_fail}
use mathlib.Core.Bool.{true, false}
use Rattle.contract.proofs.Checked.{ask-unsound}
use Rattle.calls.proofs.Questions.{member-range, member_out, member-empty, walk-pre, member-told}
use borrow.Author.Rules.{rules}
use Rattle.calls.proofs.member.Statement.{statement}
use Rattle.calls.proofs.member.Tie as tie

pub member_spec : {M : Type 1} → statement M
member_spec =
    tie.close
    (tie.spec
    (λ c κs. search rules)
    (λ c. ask-unsound _ (says_fail c.if-not-sound.true-raw c.sound.ensures) _)
    (λ c. member-range _ (says_pass c.if-not-sound.false-raw c.sound.ensures) _ _ c.if-r-ge-REGISTERS.true)
    (λ c κs. let z = (says_pass c.if-not-sound.false-raw c.sound.ensures).good.sizes in omega arith)
    (λ c. let z = (says_pass c.if-not-sound.false-raw c.sound.ensures).good.sizes in
    let e = c.header_word-n.ensures in omega arith)
    (λ c. member_out _ (says_pass c.if-not-sound.false-raw c.sound.ensures) _
    c.header_word-n.ensures _ c.if-r-ge-REGISTERS.false c.if-s-n-ne0.true)
    (λ c. search rules)
    (λ c κs. let z = (says_pass c.if-not-sound.false-raw c.sound.ensures).good.sizes in
    let t = c.if-r-ge-REGISTERS.false in omega arith)
    (λ c. member-empty _
    (says_pass c.if-not-sound.false-raw
    c.sound.ensures) _ c.if-r-ge-REGISTERS.false
    c.header_word-x.ensures c.header_word-n.ensures _ c.if-s-n-ne0.false
    c.if-x-eq0.true)
    (λ c κs. let z = (says_pass c.if-not-sound.false-raw
    c.sound.ensures).good.sizes in omega arith)
    (λ c. search rules)
    (λ c κs. walk-pre _
    (says_pass c.if-not-sound.false-raw
    c.sound.ensures) _
    c.if-r-ge-REGISTERS.false c.header_word-x.ensures c.if-x-eq0.false
    c.header_word-rows.ensures)
    (λ c. member-told _
    (says_pass c.if-not-sound.false-raw
    c.sound.ensures) _
    c.if-r-ge-REGISTERS.false c.header_word-x.ensures
    c.if-x-eq0.false c.header_word-n.ensures
    c.header_word-rows.ensures _ c.if-s-n-ne0.false true c.walk.ensures
    c.if-walk.true)
    (λ c. member-told _
    (says_pass c.if-not-sound.false-raw
    c.sound.ensures) _
    c.if-r-ge-REGISTERS.false c.header_word-x.ensures
    c.if-x-eq0.false c.header_word-n.ensures
    c.header_word-rows.ensures _ c.if-s-n-ne0.false false c.walk.ensures
    c.if-walk.false))
