-- `iterate_rounds` meets its contract: after forgetting, the table holds the scene of its own book. Assumes nothing.
use mathlib.Core.Path.{refl}
use Rattle.game_steps.proofs.Start.{rounds-begin, rounds-ask, rounds-done}
use borrow.Author.Rules.{rules}
use Rattle.game_steps.proofs.iterate_rounds.Statement.{statement}
use Rattle.game_steps.proofs.iterate_rounds.Tie as tie
use Rattle.game_steps.proofs.iterate_rounds.Reads as reads
use Rattle.game_steps.proofs.iterate_rounds.Lts as lts

pub iterate_rounds_spec : {M : Type 1} → statement M
iterate_rounds_spec =
    tie.close
    (tie.spec
    (λ c κs. search rules)
    (λ c. search rules)
    (λ c κs. (
      rounds-begin c.requires
          c.forget.ensures,
      refl,
    ))
    (λ c. search rules)
    (λ c. search rules)
    (λ c κs. (rounds-ask c.requires c.forget.ensures, c.begin.ensures))
    (λ c. search rules)
    (λ c. rounds-done c.requires c.forget.ensures
    c.iterate.ensures))
