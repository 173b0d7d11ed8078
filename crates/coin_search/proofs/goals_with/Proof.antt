-- `goals_with` meets its contract: the goals, or with those that stand at the place of the key. Assumes nothing.
use native.Mathlib.Omega.{arith}
use Rattle.coin_search.proofs.NotesLaws.{with_none, with_kept}
use borrow.Author.Rules.{rules}
use Rattle.coin_search.proofs.goals_with.Statement.{statement}
use Rattle.coin_search.proofs.goals_with.Tie as tie
use Rattle.coin_search.proofs.goals_with.Reads as reads
use Rattle.coin_search.proofs.goals_with.Lts as lts

pub goals_with_spec : {M : Type 1} → statement M
goals_with_spec =
    tie.close
    (tie.spec
    (λ c. search rules)
    (λ c. search rules)
    (λ c. let s = c.requires.0 in let l = c.requires.1 in omega arith)
    (λ c. with_none _ _ _ _)
    (λ c. search rules)
    (λ c. search rules)
    (λ c. let s = c.requires.0 in let l = c.requires.1 in omega arith)
    (λ c. with_kept _ _ _ _ c.if-notes-at.false))
