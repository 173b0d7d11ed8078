use Rattle.coin_search.proofs.Words.{mark-put}
use borrow.Author.Rules.{rules}
use Rattle.coin_search.proofs.put_mark.Statement.{statement}
use Rattle.coin_search.proofs.put_mark.Tie as tie
use Rattle.coin_search.proofs.put_mark.Reads as reads
use Rattle.coin_search.proofs.put_mark.Lts as lts

pub put_mark_spec : {M : Type 1} → statement M
put_mark_spec =
    tie.close
    (tie.spec
    (λ c. search rules)
    (λ c. search rules)
    (λ c. search rules)
    (λ c. search rules)
    (λ c. search rules)
    (λ c. search rules)
    (λ c. search rules)
    (λ c. mark-put _ _ _ c.requires.0))
