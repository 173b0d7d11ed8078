-- The turns made so far are a chain, they are counted down, and it is known whether the words are a sound table.
use Rattle.std.proofs.Common.{length}
use Rattle.rows.specs.Says.{Says}
use Rattle.contract.specs.Seen.{SoundWords}
use Rattle.room_io.specs.Places.{Placed}
use Rattle.room_io.proofs.Pace.{Upto}
use Rattle.room_io.proofs.serve.Given as goal

abbrev pub invariant-loop-turns : goal.invariant-loop-turns
invariant-loop-turns g l = record {
  placed : Placed l.p (length l.input) (length l.output);
  so_far : Upto l.fn.words l.fn.input l.fn.output l.turns l.p l.words l.input l.output;
  known : Says (SoundWords l.words) l.p.sound;
}

abbrev pub decreases-loop-turns : goal.decreases-loop-turns
decreases-loop-turns g l = l.turns
