-- `size_of` meets its contract: nothing is beside the base, the size is remembered, or it is counted. Assumes nothing.
use native.Mathlib.Omega.{arith}
use Rattle.rows.proofs.Says.{test_yes, test_no}
use Rattle.counting.proofs.Bound.{size_constant, size-row, size-base, size-seen, size-counted}
use borrow.Author.Rules.{rules}
use Rattle.counting.proofs.size_of.Statement.{statement}
use Rattle.counting.proofs.size_of.Tie as tie

pub size_of_spec : {M : Type 1} → statement M
size_of_spec =
    tie.close
    (tie.spec
    (λ c κs. search rules)
    (λ c. size_constant c.requires (test_no c.is_row.ensures c.if-not-is_row.true-raw))
    (λ c κs. test_yes c.is_row.ensures c.if-not-is_row.false-raw)
    (λ c κs. let l = size-row c.requires
    (test_yes c.is_row.ensures c.if-not-is_row.false-raw) c.row_of.ensures in
    let s = c.requires.counts.base.size in omega arith)
    (λ c. search rules)
    (λ c. size-base c.requires
    (test_yes c.is_row.ensures c.if-not-is_row.false-raw)
    c.row_of.ensures c.marked.ensures c.if-marked.true)
    (λ c κs. search rules)
    (λ c. let q = c.place-at.ensures in omega arith)
    (λ c. let q = c.place-at.ensures in
    let s = c.requires.counts.base.size in omega arith)
    (λ c. let q = c.place-at.ensures in omega arith)
    (λ c. let q = c.place-at.ensures in omega arith)
    (λ c. let q = c.place-at.ensures in
    let s =
    c.requires.counts.base.size in
    omega arith)
    (λ c. search rules)
    (λ c. size-seen c.requires
    c.place-at.ensures c.if-counts-at.true)
    (λ c κs. c.requires)
    (λ c κs.
    c.requires.counts.base.size)
    (λ c. search rules)
    (λ c. size-counted
    c.requires c.count_outside-size.ensures c.remember.ensures))
