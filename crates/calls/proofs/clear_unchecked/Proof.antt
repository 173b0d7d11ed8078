-- `clear_unchecked` meets its contract: one test is check 3; one word is then written. Assumes nothing.
use native.Mathlib.Omega.{arith}
use Rattle.calls.proofs.Changes.{clear-range, clear-done}
use borrow.Author.Rules.{rules}
use Rattle.calls.proofs.clear_unchecked.Statement.{statement}
use Rattle.calls.proofs.clear_unchecked.Tie as tie

pub clear_unchecked_spec : {M : Type 1} → statement M
clear_unchecked_spec =
    tie.close
    (tie.spec
    (λ c. clear-range _ _ c.requires c.if-r-ge-REGISTERS.true)
    (λ c κs. let z = c.requires.good.sizes in omega arith)
    (λ c. search rules)
    (λ c κs. let z = c.requires.good.sizes in
    let e = c.header_word-rows.ensures in let t = c.if-r-ge-REGISTERS.false in omega arith)
    (λ c. search rules)
    (λ c. clear-done _ _ _ c.requires
    c.if-r-ge-REGISTERS.false c.header_word-rows.ensures
    c.put_header.ensures))
