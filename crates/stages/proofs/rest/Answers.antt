-- `rest`: nothing, or EXISTS at every odd level where each EXISTS left is sure to fit. Assumes nothing.
use Rattle.operations.proofs.Odd.{grown_trans}
use Rattle.stages.proofs.RestLaws.{pre-grown, base-grown, counts-grown, row_within, sizes-ask, rest-none, rest_at}
use Rattle.stages.proofs.rest.Goals as goal

pub no_size-requires : goal.no_size-requires
no_size-requires c = (c.requires.1.base.size, row_within c.requires.0)

pub sizes_within-requires : goal.sizes_within-requires
sizes_within-requires c = (sizes-ask c.requires.0 _ c.third_of.ensures, c.requires.1)

pub returns-in_default : goal.returns-in_default
returns-in_default c = (
  rest-none c.requires.0 c.exists_odd.ensures.grown,
  counts-grown c.requires.0 c.exists_odd.ensures.grown c.sizes_within.ensures.counts,
)

pub sure-requires : goal.sure-requires
sure-requires c = (
  pre-grown c.requires.0 c.exists_odd.ensures.grown,
  base-grown c.requires.0 c.exists_odd.ensures.grown c.sizes_within.ensures.counts.base,
)

pub returns-then-sure : goal.returns-then-sure
returns-then-sure c = (
  rw (← c.min-most.ensures) (rest_at c.requires.0 c.in-Ok.ensures c.sure.ensures c.if-sure.true),
  counts-grown (pre-grown c.requires.0 c.exists_odd.ensures.grown) c.sure.ensures.grown
      (counts-grown c.requires.0 c.exists_odd.ensures.grown c.sizes_within.ensures.counts),
)

pub returns : goal.returns
returns c = (
  rest-none c.requires.0 (grown_trans c.exists_odd.ensures.grown c.sure.ensures.grown),
  counts-grown (pre-grown c.requires.0 c.exists_odd.ensures.grown) c.sure.ensures.grown
      (counts-grown c.requires.0 c.exists_odd.ensures.grown c.sizes_within.ensures.counts),
)
