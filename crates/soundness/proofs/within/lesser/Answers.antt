-- `lesser`: an arrow's level is its row's, and everything is past all levels. Assumes nothing.
use Rattle.std.proofs.Common.{arith}
use Rattle.layout.specs.View.{view}
use Rattle.soundness.proofs.Contained.{is_row_lem, row_at, level-read}
use Rattle.soundness.proofs.within.lesser.Goals as goal

pub row_of-requires : goal.row_of-requires
row_of-requires c = is_row_lem _ c.requires.1.some c.if-a-eq-EVERYTHING.false

pub get-requires : goal.get-requires
get-requires c =
    let n = is_row_lem _ c.requires.1.some c.if-a-eq-EVERYTHING.false in
    let r = row_at (view c.args.rows c.args.words.now) _ c.requires.0 c.requires.1.arrow n in
    let h = r.row in let e = c.row_of.ensures in (omega arith, omega arith, c.requires.0.sizes.room)

pub returns : goal.returns
returns c =
    let n = is_row_lem _ c.requires.1.some c.if-a-eq-EVERYTHING.false in
    let z = level-read (view c.args.rows c.args.words.now) _ c.requires.0 c.requires.1.arrow n c.row_of.ensures c.get.ensures in
    let e = c.min.ensures in omega arith
