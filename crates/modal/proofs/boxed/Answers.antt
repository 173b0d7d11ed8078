-- `boxed`: NOT, diamond and NOT, each NOT within V, are one chain of steps. Assumes nothing.
use Rattle.std.proofs.lemmas.Result.{err_from_is_err_and}
use Rattle.modal.proofs.Laws.{complement-asks, first-full, diamond-asks, inner_full, last-asks, box-ends}
use Rattle.modal.proofs.boxed.Goals as goal

pub complement-requires : goal.complement-requires
complement-requires c = (complement-asks c.args.count c.requires.0, c.requires.1)

pub returns-in_err-first : goal.returns-in_err-first
returns-in_err-first c =
    let p = err_from_is_err_and c.from_residual.result c.from_residual.ensures.1 in
    rw p.1
    ((first-full c.args.count c.requires.0 c.complement.ensures.0 c.in_err-first.was, c.complement.ensures.1))

pub diamond-requires : goal.diamond-requires
diamond-requires c = (
  diamond-asks c.args.count c.requires.0 c.complement.ensures.0 c.in_ok-first.was,
  c.complement.ensures.1,
)

pub returns-in_err-second : goal.returns-in_err-second
returns-in_err-second c =
    let p = err_from_is_err_and c.from_residual-in_err-second.result c.from_residual-in_err-second.ensures.1 in
    rw p.1 (
      inner_full c.args.count c.requires.0 c.complement.ensures.0 c.in_ok-first.was c.diamond.ensures.0 c.in_err-second.was,
      c.diamond.ensures.1,
    )

pub complement-requires-2 : goal.complement-requires-2
complement-requires-2 c = (
  last-asks c.args.count c.requires.0 c.complement.ensures.0 c.in_ok-first.was c.diamond.ensures.0 c.in_ok-second.was,
  c.diamond.ensures.1,
)

pub returns : goal.returns
returns c = (
  box-ends c.args.count c.requires.0 c.complement.ensures.0 c.in_ok-first.was c.diamond.ensures.0 c.in_ok-second.was
      c.complement-2.ensures.0,
  c.complement-2.ensures.1,
)
