-- The answer where the rows ran out. Assumes nothing.
use Rattle.table.specs.declared.Full.{Full}

-- the one value of `Full`
abbrev pub rows_out : Full
rows_out = record {}
