-- The bytes at hand stand at the front, and what a read brought stands behind them.
use Rattle.std.proofs.Common.{arith}
use Rattle.room_io.proofs.Calls.{sums}
use Rattle.room_io.proofs.Turns.{refilled, read-sound}
use Rattle.room_io.proofs.refill.Goals as goal

pub after_read-requires : goal.after_read-requires
after_read-requires g c =
    sums _ c.read_some-brought.ensures
    (omega (arith, c.read_some-brought.auto.room, c.to_front-held.ensures.0, c.to_front-held.auto.input))

pub returns : goal.returns
returns g c =
    let f = refilled c.args.p c.args.input.now c.to_front-held.new.input c.read_some-brought.new.room
    (omega (arith, c.to_front-held.ensures.0, c.to_front-held.auto.input))
    c.to_front-held.ensures.0 c.to_front-held.ensures.1 c.read_some-brought.auto.room c.read_some-brought.ensures c.after_read.ensures in
    record { refilled = f; sound_value = read-sound f }
