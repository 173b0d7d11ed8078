-- `cube` meets its contract: a bit that clashes, or that no state has, leaves nothing; else all bits from the first on. Assumes nothing.
use Rattle.cubes.proofs.CubeLaws.{cube-beyond, cube_clash, cube-starts, cube-whole}
use borrow.Author.Rules.{rules}
use Rattle.cubes.proofs.cube.Statement.{statement}
use Rattle.cubes.proofs.cube.Tie as tie

pub cube_spec : {M : Type 1} → statement M
cube_spec =
    tie.close
    (tie.spec
    (λ c. cube_clash c.requires _ _ c.if-ones-zeros-ne0.true)
    (λ c. search rules)
    (λ c. cube-beyond c.requires _ _ c.if-ones-levels-ne0.true)
    (λ c κs. cube-starts c.requires _ _ c.if-ones-zeros-ne0.false)
    (λ c. search rules)
    (λ c. cube-whole c.requires _ _
    c.if-ones-levels-ne0.false c.cube_from.ensures))
