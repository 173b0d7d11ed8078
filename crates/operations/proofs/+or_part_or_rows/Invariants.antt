-- `or_part` and `or_rows`: levels grow. Assumes nothing.
use Rattle.std.proofs.Common.{◌+◌, ◌*◌}
use Rattle.layout.specs.View.{view}
use Rattle.rows.specs.Used.{rows_of}
use Rattle.operations.proofs.Pairs.{depth}
use Rattle.operations.proofs.+or_part_or_rows.Given as goal

abbrev pub decreases-or_part : goal.decreases-or_part
decreases-or_part l = 2 * depth l.levels (rows_of (view l.rows l.words.now)) l.a l.b + 1

abbrev pub decreases-or_rows : goal.decreases-or_rows
decreases-or_rows l = 2 * depth l.levels (rows_of (view l.rows l.words.now)) l.lo l.hi
