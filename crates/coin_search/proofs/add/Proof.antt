use mathlib.Core.Path.{refl}
use Rattle.coin_search.proofs.Words.{add_post}
use borrow.Author.Rules.{rules}
use Rattle.coin_search.proofs.add.Statement.{statement}
use Rattle.coin_search.proofs.add.Tie as tie
use Rattle.coin_search.proofs.add.Reads as reads
use Rattle.coin_search.proofs.add.Lts as lts
use Rattle.coin_search.proofs.put_mark.Reads as put-mark-reads
use Rattle.coin_search.proofs.put_state.Reads as put-state-reads

pub add_spec : {M : Type 1} → statement M
add_spec =
    tie.close
    (tie.spec (λ c κs. search rules) (λ c κs. search rules) (λ c. search rules) (λ c. search rules)
    (λ c. (add_post c.put_mark.ensures c.put_state.ensures, refl)))
