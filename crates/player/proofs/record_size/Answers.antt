-- `record_size`: the size of what `read_record` finds. Assumes nothing.
use Rattle.std.proofs.Common.{sym, ◌∙◌}
use Rattle.player.proofs.Passes.{size-record, size-nothing}
use Rattle.player.proofs.record_size.Goals as goal

pub returns-in-Record : goal.returns-in-Record
returns-in-Record c = size-record _ _ _ (sym c.read_record.ensures ∙ c.in-Record.is)

pub returns-in-End : goal.returns-in-End
returns-in-End c = size-nothing _ c.read_record.ensures c.in-End.is
