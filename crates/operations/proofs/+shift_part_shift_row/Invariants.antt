-- `shift_part` and `shift_row`: levels grow. Assumes nothing.
use Rattle.std.proofs.Common.{◌+◌, ◌*◌}
use Rattle.layout.specs.View.{view}
use Rattle.rows.specs.Used.{rows_of}
use Rattle.operations.proofs.Open.{depth}
use Rattle.operations.proofs.+shift_part_shift_row.Given as goal

abbrev pub decreases-shift_part : goal.decreases-shift_part
decreases-shift_part l = 2 * depth l.levels (rows_of (view l.rows l.words.now)) l.a + 1

abbrev pub decreases-shift_row : goal.decreases-shift_row
decreases-shift_row l = 2 * depth l.levels (rows_of (view l.rows l.words.now)) l.a
