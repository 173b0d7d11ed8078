use native.Mathlib.Omega.{arith}
use Rattle.coin_search.proofs.Choice.{best_skip, best_first, best_less, best_keep}
use borrow.Author.Rules.{rules}
use Rattle.coin_search.proofs.better.Statement.{statement}
use Rattle.coin_search.proofs.better.Tie as tie
use Rattle.coin_search.proofs.better.Reads as reads
use Rattle.coin_search.proofs.better.Lts as lts
use Rattle.coin_search.proofs.next_mark.Reads as next-mark-reads

pub better_spec : {M : Type 1} → statement M
better_spec =
    tie.close
    (tie.spec
    (λ c. search rules)
    (λ c. search rules)
    (λ c κs. search rules)
    (λ c. (
      best_skip c.requires.0
          c.requires.5 c.next_mark-m.ensures c.if-m-eq0.true,
      c.requires.6,
    ))
    (λ c. (
      best_first c.requires.0
          c.requires.5 c.next_mark-m.ensures
          c.if-m-eq0.false c.if-best-eq-RELATIONS.true,
      let l = c.requires.0 in
          omega arith,
    ))
    (λ c. search rules)
    (λ c. search rules)
    (λ c κs. search rules)
    (λ c. (
      best_less c.requires.0
          c.requires.5
          c.next_mark-m.ensures c.if-m-eq0.false
          c.if-best-eq-RELATIONS.false c.next_mark-least.ensures c.if-m-least.true,
      let l = c.requires.0 in omega arith,
    ))
    (λ c. (
      best_keep c.requires.0
          c.requires.5
          c.next_mark-m.ensures c.if-m-eq0.false
          c.if-best-eq-RELATIONS.false c.next_mark-least.ensures (λ h. let q = c.if-m-least.false in omega arith),
      c.requires.6,
    )))
