-- `settle` meets its contract: the state of one bit is added and noted. Assumes nothing.
use native.Mathlib.Omega.{arith}
use Rattle.coin_search.proofs.Nodes.{power_is, node-few}
use Rattle.coin_search.proofs.NotesLaws.{settle-even, made-small, settle-past, made-below, note-asks, settle-ends}
use borrow.Author.Rules.{rules}
use Rattle.coin_search.proofs.settle.Statement.{statement}
use Rattle.coin_search.proofs.settle.Tie as tie
use Rattle.coin_search.proofs.settle.Reads as reads
use Rattle.coin_search.proofs.settle.Lts as lts

pub settle_spec : {M : Type 1} → statement M
settle_spec =
    tie.close
    (tie.spec
    (λ c. (
      settle-even c.requires.0 c.requires.1 c.requires.2 c.args.j c.requires.3 c.args.left c.if-left-eq0.true,
      c.requires.1,
    ))
    (λ c. search rules)
    (λ c. record {
      fits = let s = made-small c.requires.0 c.requires.1 c.requires.2 c.args.j c.requires.3 in omega arith;
    })
    (λ c. search rules)
    (λ c. (
      settle-past c.requires.0 c.requires.1 c.requires.2 c.args.j c.requires.3 c.args.left c.if-u-wave.true,
      c.requires.1,
    ))
    (λ c κs. (
      c.requires.0,
      made-below c.requires.0
          c.requires.1 c.requires.2 c.args.j c.requires.3 c.if-u-wave.false,
    ))
    (λ c. search rules)
    (λ c. record {
      fits = let b = c.requires.1.bits.small in let f = node-few c.args.wave.low c.args.s c.requires.2 b in let e = power_is c.args.wave.low (omega arith) in omega arith;
    })
    (λ c κs. note-asks c.requires.0 c.requires.1 c.requires.2 c.args.j c.requires.3 c.if-u-wave.false c.admit-most.ensures)
    (λ c. search rules)
    (λ c. search rules)
    (λ c. settle-ends c.requires.0 c.requires.1 c.requires.2 c.args.j c.requires.3 c.if-u-wave.false c.admit-most.ensures c.args.left c.if-left-eq0.false c.note_mark.ensures))
