-- `unfilled`: a filled root is one, and after the last none is left. Assumes nothing.
use Rattle.std.proofs.Common.{◌∙◌, arith}
use Rattle.rows.specs.Says.{holds, fails}
use Rattle.formula_calls.proofs.unfilled.Goals as goal

pub returns-then-header_word-ne0 : goal.returns-then-header_word-ne0
returns-then-header_word-ne0 c =
    fails (λ v. c.if-header_word-ne0.true (c.header_word.ensures ∙ v _ (omega arith) c.loop-k-test.true))

pub returns : goal.returns
returns c = holds (λ h lo hi. c.loop-k.invariant h lo (omega arith))
