-- `cube_from`: the bits after p are a cube, and one row more has bit p. Assumes nothing.
use Rattle.std.proofs.lemmas.Result.{err_from_is_err_and}
use Rattle.cubes.proofs.CubeLaws.{cube-ends, rest-full, rest-asks, rest-made}
use Rattle.cubes.proofs.+cube_from.Goals as goal

pub returns-then-levels-p : goal.returns-then-levels-p
returns-then-levels-p t c = cube-ends c.requires c.if-levels-p.true

pub returns-in_err-a : goal.returns-in_err-a
returns-in_err-a t c =
    let z = err_from_is_err_and c.from_residual.result c.from_residual.ensures.1 in
    rw z.1 (rest-full c.requires c.if-levels-p.false c.in_err-a.ensures)

pub make-requires : goal.make-requires
make-requires t c =
    rest-asks c.requires c.if-levels-p.false c.in_ok-a.ensures c.has.ensures c.unless-low.ensures c.has-2.ensures
    c.unless-high.ensures

pub returns : goal.returns
returns t c =
    rest-made c.requires c.if-levels-p.false c.in_ok-a.ensures c.has.ensures c.unless-low.ensures c.has-2.ensures
    c.unless-high.ensures c.make.ensures
