-- `tables_apart`: the arrows passed have nothing in common with b, and the tables that are remembered are right. Assumes nothing.
use Rattle.std.proofs.Common.{◌+◌}
use Rattle.layout.specs.View.{view}
use Rattle.soundness.specs.Tables.{Known}
use Rattle.soundness.specs.Lists.{ListApart}
use Rattle.soundness.proofs.within.tables_apart.Given as goal

abbrev pub invariant-loop-a : goal.invariant-loop-a
invariant-loop-a l = Known (view l.rows l.words) l.base l.shift 0 l.first
    × ListApart (view l.rows l.words) l.shift l.list l.from (l.from + l.a-index) l.b
