-- An answer uses bytes at hand and writes into the room behind what is unwritten; each arm is one law.
use Rattle.std.proofs.Common.{arith}
use Rattle.rooms.proofs.Replies.{line_said, end_said, more_said, more_same, room-same}
use Rattle.room_io.proofs.Calls.{write_sound}
use Rattle.room_io.proofs.Turns.{turned-line, turned-end, turned_more, turned-room}
use Rattle.room_io.proofs.Known.{known-still}
use Rattle.room_io.proofs.turn.Goals as goal

pub answer-reply-requires : goal.answer-reply-requires
answer-reply-requires g c = c.requires.1

pub overflow_add-result : goal.overflow_add-result
overflow_add-result g c =
    let f = line_said c.answer-reply.ensures.replies c.in-Line.is in
    omega (arith, f.used-within, c.requires.0.order, c.requires.0.within)

pub overflow_add-result-in-Line : goal.overflow_add-result-in-Line
overflow_add-result-in-Line g c =
    let f = line_said c.answer-reply.ensures.replies c.in-Line.is in
    omega (arith, f.written-within, c.requires.0.waiting)

pub overflow_add-result-in-End : goal.overflow_add-result-in-End
overflow_add-result-in-End g c =
    let f = end_said c.answer-reply.ensures.replies c.in-End.is in
    omega (arith, f, c.requires.0.waiting)

pub refill-requires : goal.refill-requires
refill-requires g c =
    let f = more_said c.answer-reply.ensures.replies c.in-More.is in
    (c.requires.0.order, c.requires.0.within, omega (arith, f.1, c.requires.0.order, c.requires.0.within, c.requires.0.enough))

pub returns-in-Line : goal.returns-in-Line
returns-in-Line g c = record {
  turned =
      turned-line _ _ c.args.input.now c.args.output.now c.answer-reply.new.out c.requires.0 c.answer-reply.ensures.replies
      c.answer-reply.auto.out c.in-Line.is;
  says = c.answer-reply.ensures.says;
}

pub returns-in-End : goal.returns-in-End
returns-in-End g c = record {
  turned =
      turned-end _ _ c.args.input.now c.args.output.now c.answer-reply.new.out c.requires.0 c.answer-reply.ensures.replies
      c.answer-reply.auto.out c.in-End.is;
  says = c.answer-reply.ensures.says;
}

pub returns-in-More : goal.returns-in-More
returns-in-More g c = record {
  turned =
      turned_more _ _ c.args.input.now c.args.output.now c.answer-reply.new.out c.requires.0 c.answer-reply.ensures.replies
      c.answer-reply.auto.out c.in-More.is c.refill.auto.input c.refill.ensures.refilled;
  says =
      known-still _ _ (more_same c.answer-reply.ensures.replies c.in-More.is) c.refill.ensures.sound_value c.requires.1;
}

pub returns-in-Room : goal.returns-in-Room
returns-in-Room g c = record {
  turned =
      turned-room _ _ c.args.input.now c.args.output.now c.answer-reply.new.out c.requires.0 c.answer-reply.ensures.replies
      c.answer-reply.auto.out c.in-Room.is c.flush.ensures;
  says =
      known-still _ _ (room-same c.answer-reply.ensures.replies c.in-Room.is) (write_sound c.flush.ensures) c.requires.1;
}
