-- `take`: the step's need is that of the table it leaves. Assumes nothing.
use Rattle.std.proofs.lemmas.Result.{err_from_is_err_and}
use Rattle.counting.proofs.Peak.{note-pre, taken-full, taken_at}
use Rattle.counting.proofs.take.Goals as goal

pub returns-in_err-a : goal.returns-in_err-a
returns-in_err-a c =
    let p = err_from_is_err_and c.from_residual.result c.from_residual.ensures.1 in
    rw p.1 (taken-full c.take_counted.ensures c.args.count c.in_err-a.was)

pub note-p-requires : goal.note-p-requires
note-p-requires c = (note-pre c.take_counted.ensures c.in_ok-a.was, c.take_counted.ensures.counts)

pub returns : goal.returns
returns c = taken_at c.take_counted.ensures c.in_ok-a.was c.args.count c.requires.0 c.note-p.ensures
