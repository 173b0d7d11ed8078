-- `spent_key` meets its contract: three parts of a word. Assumes nothing.
use Prim.Native.Nat.{◌/◌}
use native.Mathlib.Omega.{arith}
use lib.Pow.{shr_le}
use borrow.Author.Rules.{rules}
use Rattle.coin_search.proofs.spent_key.Statement.{statement}
use Rattle.coin_search.proofs.spent_key.Tie as tie
use Rattle.coin_search.proofs.spent_key.Reads as reads
use Rattle.coin_search.proofs.spent_key.Lts as lts

pub spent_key_spec : {M : Type 1} → statement M
spent_key_spec =
    tie.close
    (tie.spec
    (λ c. search rules)
    (λ c. search rules)
    (λ c. search rules)
    (λ c. search rules)
    (λ c. record {
      fits = let m = shr_le c.args.wave.lower (c.args.level / 2) in let l = c.requires.1 in omega arith;
    })
    (λ c. record {
      fits = let m = shr_le c.args.wave.lower (c.args.level / 2) in let l = c.requires.1 in let n = c.requires.2 in omega arith;
    })
    (λ c. search rules))
