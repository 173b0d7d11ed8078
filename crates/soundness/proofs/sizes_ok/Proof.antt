-- `sizes_ok` meets its contract: with a header, the rest is `sizes_fit`. Assumes nothing.
use native.Mathlib.Omega.{arith}
use borrow.Author.Rules.{rules}
use Rattle.rows.specs.Says.{fails}
use Rattle.soundness.proofs.sizes_ok.Statement.{statement}
use Rattle.soundness.proofs.sizes_ok.Tie as tie

pub sizes_ok_spec : {M : Type 1} → statement M
sizes_ok_spec =
    tie.close
    (tie.spec
    (λ c. fails (λ q. omega arith))
    (λ c κs. search rules)
    (λ c κs. search rules)
    (λ c κs. search rules)
    (λ c. rw (c.header_word.ensures, c.header_word-2.ensures) at c.sizes_fit.ensures))
