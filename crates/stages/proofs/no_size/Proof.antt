-- `no_size` meets its contract: a row of the table has a mark. Assumes nothing.
use native.Mathlib.Omega.{arith}
use Rattle.rows.proofs.Says.{test_yes}
use borrow.Author.Rules.{rules}
use Rattle.stages.proofs.no_size.Statement.{statement}
use Rattle.stages.proofs.no_size.Tie as tie

pub no_size_spec : {M : Type 1} → statement M
no_size_spec =
    tie.close
    (tie.spec
    (λ c. search rules)
    (λ c κs. search rules)
    (λ c. search rules)
    (λ c κs. test_yes c.is_row.ensures c.if-not-is_row.false-raw)
    (λ c κs. let l = c.requires.1
    (test_yes c.is_row.ensures c.if-not-is_row.false-raw) in
    let e = c.row_of.ensures in let s = c.requires.0 in omega (arith, l, e, s))
    (λ c. search rules))
