-- `rooms::answer` meets its contract: each arm is one of what became of the bytes, and the line written is its own.
-- Assumes nothing.
use mathlib.Core.Path.{refl}
use Rattle.commands.specs.declared.Taken.TheVariants.{End, More, Bad}
use Rattle.commands.proofs.After.{taken-says, obeyed-sound}
use Rattle.rooms.proofs.Replies.{replies-room, replies-line, replies-end, replies_bad, replies-more}
use borrow.Author.Rules.{rules}
use Rattle.rooms.proofs.answer.Statement.{statement}
use Rattle.rooms.proofs.answer.Tie as tie

pub answer_spec : {M : Type 1} → statement M
answer_spec =
    tie.close
    (tie.spec
    (λ c. (replies-room _ _ _ _ c.if-out-lt-LINE.true, c.requires))
    (λ c κs. c.requires)
    (λ c. search rules)
    (λ c κs. search rules)
    (λ c κs. search rules)
    (λ c. search rules)
    (λ c κs. search rules)
    (λ c. search rules)
    (λ c. search rules)
    (λ c κs. search rules)
    (λ c. search rules)
    (λ c. search rules)
    (λ c. (
      replies-line _ _ _ _ _ _
          c.if-out-lt-LINE.false
          c.take_record.ensures _ _ _
          c.in-Done.is c.write_line-written.ensures,
      obeyed-sound
          c.args.bytes.now
          c.args.ended _ _ _ c.take_record.ensures
          c.in-Done.is
          c.requires c.sound_after.ensures,
    ))
    (λ c. search rules)
    (λ c. search rules)
    (λ c. (
      replies-end _ _ _ _ _ _ c.if-out-lt-LINE.false
          c.take_record.ensures _
          c.in-End.is c.write_end-written.ensures,
      taken-says
          c.args.bytes.now c.args.ended _ _ _ End c.take_record.ensures
          c.in-End.is
          c.requires,
    ))
    (λ c. search rules)
    (λ c. (
      replies-more _ _ _ _ _ _ c.if-out-lt-LINE.false
          c.take_record.ensures c.in-More.is refl,
      taken-says c.args.bytes.now
          c.args.ended _ _ _ More
          c.take_record.ensures c.in-More.is
          c.requires,
    ))
    (λ c. search rules)
    (λ c. search rules)
    (λ c. (
      replies_bad _ _ _ _ _ _ c.if-out-lt-LINE.false
          c.take_record.ensures _
          c.in-Bad.is c.write_end-written-in-Bad.ensures,
      taken-says
          c.args.bytes.now c.args.ended _ _ _ Bad c.take_record.ensures
          c.in-Bad.is
          c.requires,
    )))
