-- `exists_part` and `exists_row`: levels grow. Assumes nothing.
use Rattle.std.proofs.Common.{◌+◌, ◌*◌}
use Rattle.layout.specs.View.{view}
use Rattle.rows.specs.Used.{rows_of}
use Rattle.operations.proofs.Open.{depth}
use Rattle.operations.proofs.+exists_part_exists_row.Given as goal

abbrev pub decreases-exists_part : goal.decreases-exists_part
decreases-exists_part l = 2 * depth l.levels (rows_of (view l.rows l.words.now)) l.a + 1

abbrev pub decreases-exists_row : goal.decreases-exists_row
decreases-exists_row l = 2 * depth l.levels (rows_of (view l.rows l.words.now)) l.a
