-- `sound` meets its contract: words of the wrong sizes or of another layout are no sound table, and the rest is `table_ok` and `roots_ok`.
-- Assumes nothing.
use mathlib.Core.Path.{sym, ◌∙◌}
use native.Mathlib.Omega.{arith}
use borrow.Author.Rules.{rules}
use Rattle.rows.specs.Says.{fails}
use Rattle.rows.proofs.Says.{says_pass, says_fail}
use Rattle.soundness.proofs.sound.Statement.{statement}
use Rattle.soundness.proofs.sound.Tie as tie

pub sound_spec : {M : Type 1} → statement M
sound_spec =
    tie.close
    (tie.spec
    (λ c κs. search rules)
    (λ c. fails (λ q. says_fail c.if-not-sizes_ok.true-raw c.sizes_ok.ensures q.good.sizes))
    (λ c κs. let s = says_pass c.if-not-sizes_ok.false-raw c.sizes_ok.ensures in omega arith)
    (λ c. fails (λ q. c.if-header_word-ne-CURRENT.true (c.header_word.ensures ∙ q.good.layout_is)))
    (λ c κs. let s = says_pass c.if-not-sizes_ok.false-raw c.sizes_ok.ensures in omega arith)
    (λ c κs. let s = says_pass c.if-not-sizes_ok.false-raw c.sizes_ok.ensures in (
      rw c.header_word-rows.ensures s,
      sym c.header_word-rows.ensures,
      sym c.header_word.ensures ∙ c.if-header_word-ne-CURRENT.false,
    ))
    (λ c. fails (λ q. says_fail c.if-not-table_ok.true-raw c.table_ok.ensures (rw c.header_word-rows.ensures q.good)))
    (λ c κs. says_pass c.if-not-table_ok.false-raw c.table_ok.ensures)
    (λ c. rw c.header_word-rows.ensures at c.roots_ok.ensures))
