-- `same_row` meets its contract: each test decides one of the three words. Assumes nothing.
use mathlib.Core.Path.{sym, ◌∙◌}
use borrow.Author.Rules.{rules}
use Rattle.rows.specs.Says.{holds, fails}
use Rattle.rows.proofs.same_row.Statement.{statement}
use Rattle.rows.proofs.same_row.Tie as tie

pub same_row_spec : {M : Type 1} → statement M
same_row_spec =
    tie.close
    (tie.spec
    (λ c κs. search rules)
    (λ c. fails (λ q. c.if-get-level.true (c.get.ensures ∙ q.level)))
    (λ c κs. search rules)
    (λ c. fails (λ q. c.if-get-low.true (c.get-2.ensures ∙ q.low)))
    (λ c κs. search rules)
    (λ c. fails (λ q. c.if-get-high.true (c.get-3.ensures ∙ q.high)))
    (λ c. holds
    (record {
      level =
          sym c.get.ensures ∙ c.if-get-level.false;
      low =
          sym c.get-2.ensures ∙ c.if-get-low.false;
      high =
          sym c.get-3.ensures ∙ c.if-get-high.false;
    })))
