-- `note`: all used rows are at most the peak, or sizes are, or what is live is counted. Assumes nothing.
use Rattle.steps.proofs.CleanLaws.{free-pre}
use Rattle.counting.proofs.Peak.{note-used, note-within, note-counted}
use Rattle.counting.proofs.note.Goals as goal

pub returns-then-header_word-peak : goal.returns-then-header_word-peak
returns-then-header_word-peak c =
    note-used c.requires.0 c.requires.1 c.header_word.ensures c.if-header_word-peak.true

pub sizes_within-requires : goal.sizes_within-requires
sizes_within-requires c = (free-pre c.operands_of-p.ensures.0 c.operands_of-p.ensures.1 c.requires.0, c.requires.1)

pub returns-then-sizes_within : goal.returns-then-sizes_within
returns-then-sizes_within c =
    note-within c.requires.0 c.operands_of-p.ensures.0 c.operands_of-p.ensures.1 c.sizes_within.ensures c.if-sizes_within.true

pub count_live-requires : goal.count_live-requires
count_live-requires c = (
  free-pre c.operands_of-p.ensures.0 c.operands_of-p.ensures.1 c.requires.0,
  c.sizes_within.ensures.counts.base,
)

pub returns : goal.returns
returns c =
    note-counted c.requires.0 c.operands_of-p.ensures.0 c.operands_of-p.ensures.1 _ c.sizes_within.ensures.counts
    c.count_live.ensures c.max.ensures
