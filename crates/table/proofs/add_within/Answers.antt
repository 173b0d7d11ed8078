-- `add_within`: where `limit` rows are used it is full. Assumes nothing.
use Rattle.std.proofs.Common.{arith}
use Rattle.layout.specs.View.{view}
use Rattle.table.proofs.MakeLaws.{add-over}
use Rattle.table.proofs.add_within.Goals as goal

pub returns-then-used-limit : goal.returns-then-used-limit
returns-then-used-limit c =
    add-over (view c.args.rows c.args.words.now) _ _ _ _ c.requires
    (let e = c.header_word-used.ensures in let t = c.if-used-limit.true in omega arith)
