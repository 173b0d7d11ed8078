-- `admit` meets its contract: a state with no mark is added. Assumes nothing.
use native.Mathlib.Omega.{arith}
use Rattle.coin_search.proofs.AddsLaws.{admit-marked, add-asks, admit-one}
use borrow.Author.Rules.{rules}
use Rattle.coin_search.proofs.admit.Statement.{statement}
use Rattle.coin_search.proofs.admit.Tie as tie
use Rattle.coin_search.proofs.admit.Reads as reads
use Rattle.coin_search.proofs.admit.Lts as lts

pub admit_spec : {M : Type 1} → statement M
admit_spec =
    tie.close
    (tie.spec
    (λ c κs. let r = c.requires.0.room in let l = c.requires.1 in omega arith)
    (λ c. search rules)
    (λ c. admit-marked c.requires.0 c.mark_of.ensures c.if-mark_of-ne0.true)
    (λ c κs. add-asks c.requires.0 c.requires.1 c.mark_of.ensures c.if-mark_of-ne0.false)
    (λ c. search rules)
    (λ c. admit-one
    c.requires.0 c.requires.1 c.mark_of.ensures c.if-mark_of-ne0.false c.add.ensures))
