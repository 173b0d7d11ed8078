-- `find_run`: the first pass, then the run where a layer shares a state. Assumes nothing.
use Rattle.std.proofs.Common.{◌≡◌, ap, ◌∙◌}
use Rattle.std.specs.Prelude.{Ok}
use Rattle.std.proofs.lemmas.Result.{err_from_is_err_and}
use Rattle.routes.proofs.Find.{find-full, find_none, find-asks, find_run_lem}
use Rattle.routes.proofs.find_run.Goals as goal

pub write_run-requires : goal.write_run-requires
write_run-requires c = (
  find-asks c.requires.0 c.reach.ensures.0 (c.in_ok-reached.was ∙ ap Ok c.in-Some.is),
  c.reach.ensures.1,
)

pub returns-in_err-reached : goal.returns-in_err-reached
returns-in_err-reached c =
    let p = err_from_is_err_and c.from_residual.result c.from_residual.ensures.1 in
    rw (p.1, p.2) (find-full c.requires.0 c.reach.ensures.0 c.in_err-reached.was)

pub returns-in-Some : goal.returns-in-Some
returns-in-Some c =
    find_run_lem c.requires.0 c.reach.ensures.0 (c.in_ok-reached.was ∙ ap Ok c.in-Some.is) c.args.list.now c.write_run.ensures

pub returns-in-None : goal.returns-in-None
returns-in-None c = find_none c.requires.0 c.reach.ensures.0 (c.in_ok-reached.was ∙ ap Ok c.in-None.is)
