-- `every`: box of the current set, diamond of true, which is V, and AND. Assumes nothing.
use Rattle.evaluator.proofs.Outcomes.{handed-on}
use Rattle.evaluator.proofs.Untils.{own-asked, box_halts, true-asked, all_asked, and-asked, and-answered}
use Rattle.evaluator.proofs.every.Goals as goal

pub reach-requires : goal.reach-requires
reach-requires c = (own-asked c.requires.0 _, c.requires.1)

pub returns-in_err-first : goal.returns-in_err-first
returns-in_err-first c =
    rw (handed-on c.from_residual.result c.from_residual.ensures.1 c.in_err-first.was)
    (box_halts c.requires.0 c.reach.ensures.0 (_, c.in_err-first.was), c.reach.ensures.1)

pub root_arrow-valid-requires : goal.root_arrow-valid-requires
root_arrow-valid-requires c = true-asked c.requires.0 c.reach.ensures.0 c.in_ok-first.was

pub reach-second-requires : goal.reach-second-requires
reach-second-requires c = (
  all_asked c.requires.0 c.reach.ensures.0 c.in_ok-first.was c.root_arrow-valid.ensures c.onward-rest.ensures,
  c.reach.ensures.1,
)

pub joined-requires : goal.joined-requires
joined-requires c = (
  and-asked c.requires.0 c.reach.ensures.0 c.in_ok-first.was c.root_arrow-valid.ensures c.onward-rest.ensures
      c.reach-second.ensures.0,
  c.reach-second.ensures.1,
)

pub returns : goal.returns
returns c = (
  and-answered c.requires.0 c.reach.ensures.0 c.in_ok-first.was c.root_arrow-valid.ensures c.onward-rest.ensures
      c.reach-second.ensures.0 c.joined.ensures.0,
  c.joined.ensures.1,
)
