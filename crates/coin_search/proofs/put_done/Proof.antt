-- `put_done` meets its contract: the arrow and its goals. Assumes nothing.
use native.Mathlib.Omega.{arith}
use borrow.Author.Rules.{rules}
use Rattle.coin_search.proofs.put_done.Statement.{statement}
use Rattle.coin_search.proofs.put_done.Tie as tie
use Rattle.coin_search.proofs.put_done.Reads as reads
use Rattle.coin_search.proofs.put_done.Lts as lts

pub put_done_spec : {M : Type 1} → statement M
put_done_spec =
    tie.close
    (tie.spec
    (λ c. search rules)
    (λ c. search rules)
    (λ c κs. let s = c.requires.0 in let q = c.requires.1 in (omega arith, omega arith))
    (λ c. search rules)
    (λ c. search rules))
