-- `odd_part` and `odd_row`: levels grow. Assumes nothing.
use Rattle.std.proofs.Common.{◌+◌, ◌*◌}
use Rattle.layout.specs.View.{view}
use Rattle.rows.specs.Used.{rows_of}
use Rattle.operations.proofs.Open.{depth}
use Rattle.operations.proofs.+odd_part_odd_row.Given as goal

abbrev pub decreases-odd_part : goal.decreases-odd_part
decreases-odd_part l = 2 * depth l.levels (rows_of (view l.rows l.words.now)) l.a + 1

abbrev pub decreases-odd_row : goal.decreases-odd_row
decreases-odd_row l = 2 * depth l.levels (rows_of (view l.rows l.words.now)) l.a
