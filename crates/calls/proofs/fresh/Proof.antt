-- `fresh` meets its contract: its two tests decide the sizes and the list's length, and the rest is `make_empty`. Assumes nothing.
use mathlib.Core.Path.{refl}
use Rattle.rows.proofs.Says.{says_pass, says_fail}
use Rattle.calls.proofs.FreshLaws.{test_fails, test_holds, fresh-refused, fresh_unlisted, fresh-ready}
use borrow.Author.Rules.{rules}
use Rattle.calls.proofs.fresh.Statement.{statement}
use Rattle.calls.proofs.fresh.Tie as tie

pub fresh_spec : {M : Type 1} → statement M
fresh_spec =
    tie.close
    (tie.spec
    (λ c κs. search rules)
    (λ c. (fresh-refused _ _ _ _ (says_fail c.if-not-sizes_fit.true-raw c.sizes_fit.ensures), refl))
    (λ c κs. search rules)
    (λ c. (
      fresh_unlisted _ _ _ _ (says_pass c.if-not-sizes_fit.false-raw c.sizes_fit.ensures)
          (test_fails c.if-not-is_lent.true-raw c.is_lent.ensures),
      refl,
    ))
    (λ c κs. (says_pass c.if-not-sizes_fit.false-raw c.sizes_fit.ensures).room)
    (λ c. search rules)
    (λ c. (
      fresh-ready _ _ _ _ _
          (says_pass c.if-not-sizes_fit.false-raw
          c.sizes_fit.ensures)
          (test_holds c.if-not-is_lent.false-raw c.is_lent.ensures)
          c.make_empty.ensures,
      c.make_empty.ensures,
    )))
