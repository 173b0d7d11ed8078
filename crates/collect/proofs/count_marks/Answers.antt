-- `count_marks`: a turn counts the row at one place more. Assumes nothing.
use Rattle.std.proofs.Common.{◌+◌, arith}
use Rattle.layout.specs.View.{view}
use Rattle.collect.proofs.Counted.{count_none, count-more, count-le}
use Rattle.collect.proofs.count_marks.Goals as goal

pub loop-k-init : goal.loop-k-init
loop-k-init c = count_none _ _

pub overflow_add-found : goal.overflow_add-found
overflow_add-found c =
    let W = view c.args.rows c.args.words.now in
    let q = count-more W c.args.marks.now c.loop-k.k c.loop-k.invariant c.listed.ensures c.mark_of-found.ensures in
    let l = count-le W c.args.marks.now (c.loop-k.k + 1) in
    let t = c.loop-k-test.true in omega arith

pub loop-k-preserved : goal.loop-k-preserved
loop-k-preserved c = count-more _ _ _ c.loop-k.invariant c.listed.ensures c.mark_of-found.ensures
