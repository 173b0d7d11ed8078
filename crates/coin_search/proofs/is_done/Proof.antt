-- `is_done` meets its contract: it answers yes only where arrow and goal stand. Assumes nothing.
use mathlib.Core.Path.{sym}
use mathlib.Core.Bool.{true≢false}
use native.Mathlib.Omega.{arith}
use Rattle.coin_search.proofs.NotesLaws.{done-met}
use borrow.Author.Rules.{rules}
use Rattle.coin_search.proofs.is_done.Statement.{statement}
use Rattle.coin_search.proofs.is_done.Tie as tie
use Rattle.coin_search.proofs.is_done.Reads as reads
use Rattle.coin_search.proofs.is_done.Lts as lts

pub is_done_spec : {M : Type 1} → statement M
is_done_spec =
    tie.close
    (tie.spec
    (λ c. search rules)
    (λ c. search rules)
    (λ c. let s = c.requires.0 in let q = c.requires.1 in omega arith)
    (λ c. λ e. absurd (true≢false (sym e)))
    (λ c. search rules)
    (λ c. search rules)
    (λ c. let c1 = c.before.before.before in let s = c1.requires.0 in let q = c1.requires.1 in omega arith)
    (λ c. let c1 = c.before.before.before in let q = c1.requires.2 in omega arith)
    (λ c. λ e. done-met _ _ _ _ c.if-notes-at.false e))
