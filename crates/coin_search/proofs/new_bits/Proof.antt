-- `new_bits` meets its contract: all are known, or the mask without what is known. Assumes nothing.
use mathlib.Core.Path.{refl}
use native.Mathlib.Omega.{arith}
use Rattle.coin_search.proofs.NotesLaws.{new_none, new-all, new-mask}
use borrow.Author.Rules.{rules}
use Rattle.coin_search.proofs.new_bits.Statement.{statement}
use Rattle.coin_search.proofs.new_bits.Tie as tie
use Rattle.coin_search.proofs.new_bits.Reads as reads
use Rattle.coin_search.proofs.new_bits.Lts as lts

pub new_bits_spec : {M : Type 1} → statement M
new_bits_spec =
    tie.close
    (tie.spec
    (λ c. search rules)
    (λ c. let c1 = c.before.before.before in let p = c1.requires.place in let z = c1.requires.masked.size in omega arith)
    (λ c. let c1 = c.before.before.before.before in new_none c1.requires refl c.if-known.true)
    (λ c κs. let c1 = c.before.before.before.before in c1.requires.arrow)
    (λ c. let c1 = c.before.before.before.before.before.before in record { fits = let s = c1.requires.small in omega arith })
    (λ c. let c1 = c.before.before.before.before.before.before.before in new-all c1.requires refl (let e = c.level_of-level.ensures in let t = c.if-level-wave.true in omega arith))
    (λ c κs. let c1 = c.before.before.before.before.before.before.before.before in record {
      arrow = c1.requires.arrow;
      small = c1.requires.small;
      masked = c1.requires.masked;
    })
    (λ c. search rules)
    (λ c. let c1 = c.before.before.before.before in let c2 = c1.before.before in let c3 = c2.before.before.before.before.before in new-mask c3.requires refl (let e = c2.level_of-level.ensures in let t = c1.if-level-wave.false in omega arith) c.mask_of-mask.ensures))
