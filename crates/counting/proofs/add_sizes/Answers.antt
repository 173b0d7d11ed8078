-- `add_sizes`: a turn adds one size more. Assumes nothing.
use Rattle.std.proofs.Common.{◌∙◌}
use Rattle.collect.proofs.Lent.{get_or-mem}
use Rattle.counting.proofs.Bound.{summed_more}
use Rattle.counting.proofs.add_sizes.Goals as goal

pub size_of-requires : goal.size_of-requires
size_of-requires c = record {
  sound = c.requires.0.sound;
  arrow = c.requires.0.arrows _ (get_or-mem _ _ c.loop-a-test.true);
  counts = c.loop-a.invariant.1.counts;
}

pub loop-a-preserved : goal.loop-a-preserved
loop-a-preserved c =
    let v = c.loop-a.invariant in (
      c.size_of.auto.counts ∙ v.0,
      summed_more c.requires.0.sound (c.requires.0.arrows _ (get_or-mem _ _ c.loop-a-test.true)) c.loop-a-test.true v.1 c.size_of.ensures,
    )
