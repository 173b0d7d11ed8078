-- `put_pair` meets its contract: two stores. Assumes nothing.
use lib.ListN.{length-set}
use native.Mathlib.Omega.{arith}
use borrow.Author.Rules.{rules}
use Rattle.coin_search.proofs.put_pair.Statement.{statement}
use Rattle.coin_search.proofs.put_pair.Tie as tie
use Rattle.coin_search.proofs.put_pair.Reads as reads
use Rattle.coin_search.proofs.put_pair.Lts as lts

pub put_pair_spec : {M : Type 1} → statement M
put_pair_spec =
    tie.close
    (tie.spec
    (λ c. search rules)
    (λ c. search rules)
    (λ c. search rules)
    (λ c. let l = c.requires.1 in let z = length-set c.args.notes.now c.args.at c.args.x in omega arith)
    (λ c. search rules)
    (λ c. search rules))
