-- `count_unchecked` meets its contract: each test is one check, in order; the rest is `count_states`. Assumes nothing.
use native.Mathlib.Omega.{arith}
use Rattle.calls.proofs.Questions.{count-range, count-empty, walk-pre, count-told}
use borrow.Author.Rules.{rules}
use Rattle.calls.proofs.count_unchecked.Statement.{statement}
use Rattle.calls.proofs.count_unchecked.Tie as tie

pub count_unchecked_spec : {M : Type 1} → statement M
count_unchecked_spec =
    tie.close
    (tie.spec
    (λ c. count-range _ c.requires _ c.if-r-ge-REGISTERS.true)
    (λ c. search rules)
    (λ c κs. let z = c.requires.good.sizes in let t = c.if-r-ge-REGISTERS.false in omega arith)
    (λ c. count-empty _ c.requires _ c.if-r-ge-REGISTERS.false c.header_word-x.ensures
    c.if-x-eq0.true)
    (λ c κs. let z = c.requires.good.sizes in omega arith)
    (λ c κs. let z = c.requires.good.sizes in omega arith)
    (λ c. search rules)
    (λ c κs. (
      walk-pre _ c.requires _ c.if-r-ge-REGISTERS.false
          c.header_word-x.ensures c.if-x-eq0.false c.header_word-rows.ensures,
      c.header_word-n.ensures,
    ))
    (λ c. count-told _ c.requires _
    c.if-r-ge-REGISTERS.false c.header_word-x.ensures
    c.if-x-eq0.false c.header_word-n.ensures c.header_word-rows.ensures
    c.count_states.ensures))
