-- `and_part` and `and_rows`: levels grow. Assumes nothing.
use Rattle.std.proofs.Common.{◌+◌, ◌*◌}
use Rattle.layout.specs.View.{view}
use Rattle.rows.specs.Used.{rows_of}
use Rattle.operations.proofs.Pairs.{depth}
use Rattle.operations.proofs.+and_part_and_rows.Given as goal

abbrev pub decreases-and_part : goal.decreases-and_part
decreases-and_part l = 2 * depth l.levels (rows_of (view l.rows l.words.now)) l.a l.b + 1

abbrev pub decreases-and_rows : goal.decreases-and_rows
decreases-and_rows l = 2 * depth l.levels (rows_of (view l.rows l.words.now)) l.lo l.hi
