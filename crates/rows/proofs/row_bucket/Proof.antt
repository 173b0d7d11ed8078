-- `row_bucket` meets its contract: it is the bucket of the row's three words. Assumes nothing.
use borrow.Author.Rules.{rules}
use Rattle.rows.proofs.row_bucket.Statement.{statement}
use Rattle.rows.proofs.row_bucket.Tie as tie

pub row_bucket_spec : {M : Type 1} → statement M
row_bucket_spec =
    tie.close
    (tie.spec
    (λ c κs. search rules)
    (λ c κs. search rules)
    (λ c κs. search rules)
    (λ c κs. search rules)
    (λ c. (
      rw (c.get-level.ensures, c.get-low.ensures, c.get-high.ensures) at
          c.bucket_of.ensures.0,
      c.bucket_of.ensures.1,
    )))
