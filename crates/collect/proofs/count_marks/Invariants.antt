-- `count_marks`: the number of marked rows at the places passed. Assumes nothing.
use Rattle.std.proofs.Common.{◌≡◌}
use Rattle.layout.specs.View.{view}
use Rattle.collect.specs.Counted.{mark_count}
use Rattle.collect.proofs.count_marks.Given as goal

abbrev pub invariant-loop-k : goal.invariant-loop-k
invariant-loop-k l = l.found ≡ mark_count (view l.rows l.words) l.marks l.k
