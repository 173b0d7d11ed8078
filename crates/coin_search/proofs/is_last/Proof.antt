-- `is_last` reads only places of the order. Assumes nothing.
use native.Mathlib.Omega.{arith}
use borrow.Author.Rules.{rules}
use Rattle.coin_search.proofs.is_last.Statement.{statement}
use Rattle.coin_search.proofs.is_last.Tie as tie
use Rattle.coin_search.proofs.is_last.Reads as reads
use Rattle.coin_search.proofs.is_last.Lts as lts

pub is_last_spec : {M : Type 1} → statement M
is_last_spec =
    tie.close
    (tie.spec
    (λ c. search rules)
    (λ c. search rules)
    (λ c κs. let t = c.if-next-count.false in let p = c.requires.0.places in omega arith)
    (λ c κs. let c1 = c.before.before.before in let e = c.state_at.ensures in let s = c1.requires.0.states _ c.if-next-count.false in omega arith)
    (λ c. search rules))
