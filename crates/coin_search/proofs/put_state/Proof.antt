use native.Mathlib.Omega.{arith}
use Rattle.coin_search.proofs.Words.{state-put}
use borrow.Author.Rules.{rules}
use Rattle.coin_search.proofs.put_state.Statement.{statement}
use Rattle.coin_search.proofs.put_state.Tie as tie
use Rattle.coin_search.proofs.put_state.Reads as reads
use Rattle.coin_search.proofs.put_state.Lts as lts

pub put_state_spec : {M : Type 1} → statement M
put_state_spec =
    tie.close
    (tie.spec
    (λ c. search rules)
    (λ c. search rules)
    (λ c. search rules)
    (λ c. record { fits = omega (arith, c.slice_known-1.given c.args.i) })
    (λ c. search rules)
    (λ c. search rules)
    (λ c. search rules)
    (λ c. state-put _ _ _ c.requires.0 c.requires.1))
