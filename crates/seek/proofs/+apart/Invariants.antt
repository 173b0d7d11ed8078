-- `apart`: the depths of the two arrows together fall. Assumes nothing.
use Rattle.std.proofs.Common.{◌+◌}
use Rattle.layout.specs.View.{view}
use Rattle.rows.specs.Mark.{depth}
use Rattle.seek.proofs.+apart.Given as goal

abbrev pub decreases-apart : goal.decreases-apart
decreases-apart l = depth (view l.rows l.words.now) l.a + depth (view l.rows l.words.now) l.b
