-- `list_new`: what the arrows passed reach is marked and counted. Assumes nothing.
use Rattle.std.proofs.Common.{◌≡◌, length}
use Rattle.layout.specs.View.{view}
use Rattle.rows.specs.Used.{rows_of}
use Rattle.counting.proofs.News.{FirstNew}
use Rattle.counting.proofs.list_new.Given as goal

abbrev pub invariant-loop-a : goal.invariant-loop-a
invariant-loop-a l =
    (length l.marks ≡ length l.fn.marks)
    × FirstNew (rows_of (view l.rows l.words)) l.fn.marks l.marks l.roots l.a-index l.found
