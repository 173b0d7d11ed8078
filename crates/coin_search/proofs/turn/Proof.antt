-- `turn` meets its contract: the walk from the relation's arrow, unless it was done. Assumes nothing.
use mathlib.Core.Path.{refl}
use native.Mathlib.Omega.{arith}
use lib.Pow.{pow_pos}
use Rattle.coin_search.proofs.Nodes.{power_is}
use Rattle.coin_search.proofs.TurnLaws.{place_in, state_in, below_eight, price_in, root-some, key_small, done-asks, turn-done}
use Rattle.coin_search.proofs.TurnLaws.{gather-asks, expand-asks, turn-ends}
use borrow.Author.Rules.{rules}
use Rattle.coin_search.proofs.turn.Statement.{statement}
use Rattle.coin_search.proofs.turn.Tie as tie
use Rattle.coin_search.proofs.turn.Reads as reads
use Rattle.coin_search.proofs.turn.Lts as lts

pub turn_spec : {M : Type 1} → statement M
turn_spec =
    tie.close
    (tie.spec
    (λ c κs. place_in c.requires.0)
    (λ c. search rules)
    (λ c κs. (
      let l = below_eight c.requires.0 in omega arith,
      c.requires.1,
    ))
    (λ c. let y = root-some c.requires.0 c.header_word-root.ensures in omega arith)
    (λ c. let b = c.requires.2.bits.small in omega arith)
    (λ c. let b = c.requires.2.bits.small in let e =
    power_is c.args.low (omega arith) in let p = pow_pos c.args.low in omega arith)
    (λ c. let b = c.requires.2.bits.small in omega arith)
    (λ c κs. done-asks c.requires.0 c.state_at-t.ensures refl refl c.header_word-root.ensures c.requires.2)
    (λ c. search rules)
    (λ c. search rules)
    (λ c. (
      turn-done c.requires.0 c.state_at-t.ensures refl refl c.header_word-root.ensures c.requires.2 c.is_done.ensures c.if-is_done.true,
      c.requires.2,
    ))
    (λ c κs. state_in c.requires.0 c.state_at-t.ensures)
    (λ c κs. gather-asks c.requires.0 c.state_at-t.ensures c.mark_of-m.ensures refl c.header_word-root.ensures c.requires.2)
    (λ c κs. price_in c.requires.0)
    (λ c. record {
      fits = let k = key_small c.requires.0 c.state_at-t.ensures
          c.mark_of-m.ensures c.step_cost.ensures in omega arith;
    })
    (λ c κs. expand-asks c.requires.0 c.state_at-t.ensures c.mark_of-m.ensures c.step_cost.ensures c.header_word-root.ensures c.requires.2)
    (λ c κs. (
      c.expand-most.ensures.1.masks.size,
      (done-asks c.requires.0 c.state_at-t.ensures refl refl c.header_word-root.ensures c.requires.2).1,
    ))
    (λ c. search rules)
    (λ c. search rules)
    (λ c. turn-ends c.requires.0 c.state_at-t.ensures c.mark_of-m.ensures c.step_cost.ensures c.header_word-root.ensures c.requires.2 c.gather.ensures c.expand-most.ensures c.put_done.ensures))
