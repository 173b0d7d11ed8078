-- `narrow_apart` meets its contract: a list of zeros has no wrong table. Assumes nothing.
use Rattle.soundness.specs.Tables.{FEW}
use Rattle.soundness.proofs.Contained.{refs-asked}
use borrow.Author.Rules.{rules}
use Rattle.soundness.proofs.within.narrow_apart.Statement.{statement}
use Rattle.soundness.proofs.within.narrow_apart.Tie as tie

pub narrow_apart_spec : {M : Type 1} → statement M
narrow_apart_spec =
    tie.close
    (tie.spec (λ c. search rules) (λ c κs. refs-asked FEW c.requires.0 c.requires.1) (λ c. search rules))
