-- `tables_apart`: an arrow of even levels past the base is told by the cell. Assumes nothing.
use Rattle.std.proofs.Common.{◌≡◌, ◌+◌, ◌≤◌, arith}
use Rattle.layout.specs.View.{view}
use Rattle.rows.specs.Says.{holds, fails}
use Rattle.rows.proofs.Says.{says-yes, says-no}
use Rattle.soundness.proofs.ListsLaws.{part-at, part-size}
use Rattle.soundness.proofs.WalkLaws.{by_tables, apart_more}
use Rattle.soundness.proofs.within.tables_apart.Goals as goal

pub returns-then-not-disjoint : goal.returns-then-not-disjoint
returns-then-not-disjoint c =
    let p = part-at c.args.from c.args.to c.args.list.now c.loop-a-test.true in
    let l : c.args.from ≤ c.args.from + c.loop-a.a-index = omega arith in
    let t = by_tables c.requires c.arrow_cells-x.ensures c.set_cells-y.ensures c.disjoint.ensures in record {
      says = fails (λ q. says-no c.if-not-disjoint.true t (rw p.1 (q _ l p.0)));
      first = c.arrow_cells-x.ensures.known;
      second = c.set_cells-y.ensures.sets;
    }

pub loop-a-preserved : goal.loop-a-preserved
loop-a-preserved c =
    let p = part-at c.args.from c.args.to c.args.list.now c.loop-a-test.true in
    let z : c.args.from + (c.loop-a.a-index + 1) ≡ c.args.from + c.loop-a.a-index + 1 = omega arith in
    let t = by_tables c.requires c.arrow_cells-x.ensures c.set_cells-y.ensures c.disjoint.ensures in (
      c.arrow_cells-x.ensures.known,
      rw z (apart_more (view c.args.rows c.args.words.now) c.args.list.now c.loop-a.invariant.1 p.1 (says-yes c.if-not-disjoint.false t)),
    )

pub returns : goal.returns
returns c =
    let e = part-size c.args.list.now c.requires.order c.requires.within in record {
      says = holds (λ j lo hi. let t = c.loop-a-test.false in c.loop-a.invariant.1 j lo (omega arith));
      first = c.loop-a.invariant.0;
      second = c.set_cells-y.ensures.sets;
    }
