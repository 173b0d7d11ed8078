-- `wide_apart` meets its contract: a list of zeros has no wrong table. Assumes nothing.
use native.Mathlib.Omega.{arith}
use Rattle.layout.specs.Places.{MAX_ROWS}
use Rattle.soundness.proofs.Contained.{refs-asked}
use borrow.Author.Rules.{rules}
use Rattle.soundness.proofs.within.wide_apart.Statement.{statement}
use Rattle.soundness.proofs.within.wide_apart.Tie as tie

pub wide_apart_spec : {M : Type 1} → statement M
wide_apart_spec =
    tie.close
    (tie.spec (λ c. search rules) (λ c κs. let c1 = c.before.before in
    refs-asked MAX_ROWS c1.requires (let u = c1.requires.good.ranked.count-le in let n = c1.requires.good.sizes.N-max in
    omega arith)) (λ c. search rules))
