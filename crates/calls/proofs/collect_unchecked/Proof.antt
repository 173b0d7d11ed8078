-- `collect_unchecked` meets its contract: it is `collect_rows`. Assumes nothing.
use native.Mathlib.Omega.{arith}
use Rattle.calls.proofs.Changes.{collect-done}
use borrow.Author.Rules.{rules}
use Rattle.calls.proofs.collect_unchecked.Statement.{statement}
use Rattle.calls.proofs.collect_unchecked.Tie as tie

pub collect_unchecked_spec : {M : Type 1} → statement M
collect_unchecked_spec =
    tie.close
    (tie.spec
    (λ c κs. let z = c.requires.good.sizes in omega arith)
    (λ c κs. rw c.header_word-rows.ensures c.requires)
    (λ c. search rules)
    (λ c. collect-done _ _ c.requires
    c.header_word-rows.ensures c.collect_rows.ensures))
