-- `settle`: few rows are used, or those that are reached are counted. Assumes nothing.
use Rattle.std.proofs.lemmas.Result.{err_from_is_err_and}
use Rattle.steps.proofs.SettleLaws.{settle-full, settle-few, settle_reached, settle-many}
use Rattle.steps.proofs.settle.Goals as goal

pub returns-in_err-a : goal.returns-in_err-a
returns-in_err-a c =
    let p = err_from_is_err_and c.from_residual.result c.from_residual.ensures.1 in
    rw p.1 (settle-full _ c.requires c.in_err-a.was)

pub returns-then-header_word-limit : goal.returns-then-header_word-limit
returns-then-header_word-limit c = settle-few _ c.requires c.in_ok-a.was c.header_word.ensures c.if-header_word-limit.true

pub returns-then-header_word-limit-2 : goal.returns-then-header_word-limit-2
returns-then-header_word-limit-2 c =
    settle_reached _ c.requires c.in_ok-a.was c.clean.ensures c.header_word-2.ensures c.if-header_word-limit-2.true

pub returns : goal.returns
returns c = settle-many _ c.requires c.in_ok-a.was c.clean.ensures c.header_word-2.ensures c.if-header_word-limit-2.false
