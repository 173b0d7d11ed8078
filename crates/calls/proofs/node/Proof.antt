-- `node` meets its contract: each test is one check, in order; the register's word is the number + 1. Assumes nothing.
use native.Mathlib.Omega.{arith}
use Rattle.rows.proofs.Says.{says_pass, says_fail}
use Rattle.contract.proofs.Checked.{ask-unsound}
use Rattle.calls.proofs.Questions.{node-range, node-empty, node-told}
use borrow.Author.Rules.{rules}
use Rattle.calls.proofs.node.Statement.{statement}
use Rattle.calls.proofs.node.Tie as tie

pub node_spec : {M : Type 1} → statement M
node_spec =
    tie.close
    (tie.spec
    (λ c κs. search rules)
    (λ c. ask-unsound _ (says_fail c.if-not-sound.true-raw c.sound.ensures) _)
    (λ c. node-range _ (says_pass c.if-not-sound.false-raw c.sound.ensures) _ c.if-r-ge-REGISTERS.true)
    (λ c. search rules)
    (λ c κs. let z = (says_pass c.if-not-sound.false-raw c.sound.ensures).good.sizes in
    let t = c.if-r-ge-REGISTERS.false in omega arith)
    (λ c. search rules)
    (λ c. node-told _ (says_pass c.if-not-sound.false-raw c.sound.ensures) _
    c.if-r-ge-REGISTERS.false c.header_word-x.ensures c.if-x-ne0.true)
    (λ c. node-empty _ (says_pass c.if-not-sound.false-raw c.sound.ensures) _
    c.if-r-ge-REGISTERS.false c.header_word-x.ensures c.if-x-ne0.false))
