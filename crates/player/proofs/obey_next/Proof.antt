-- `obey_next` obeys the record that can be read, lists its outcome, and knows whether the words are sound after it. Assumes nothing.
use mathlib.Core.Bool.{true}
use Rattle.commands.specs.declared.Taken.TheVariants.{End, More, Bad}
use Rattle.commands.proofs.After.{obeyed-sound}
use Rattle.player.proofs.Next.{next-done, next-other}
use borrow.Author.Rules.{rules}
use Rattle.player.proofs.obey_next.Statement.{statement}
use Rattle.player.proofs.obey_next.Tie as tie

pub obey_next_spec : {M : Type 1} → statement M
obey_next_spec =
    tie.close
    (tie.spec
    (λ c κs. c.requires.3)
    (λ c. search rules)
    (λ c κs. c.requires.2)
    (λ c κs. search rules)
    (λ c. search rules)
    (λ c. search rules)
    (λ c. search rules)
    (λ c. search rules)
    (λ c. search rules)
    (λ c. (
      next-done
          c.args.bytes.now _ _
          c.requires.0
          c.requires.1
          c.take_record.ensures
          c.in-Done.is c.put_outcome.ensures,
      obeyed-sound
          c.args.bytes.now true _ _ _ c.take_record.ensures
          c.in-Done.is
          c.requires.3
          c.sound_after.ensures,
    ))
    (λ c. search rules)
    (λ c. absurd
    (next-other c.args.bytes.now _ _ End
    c.requires.0
    c.requires.1
    c.take_record.ensures c.in-End.is tt))
    (λ c. search rules)
    (λ c. absurd
    (next-other c.args.bytes.now _ _ More
    c.requires.0
    c.requires.1
    c.take_record.ensures c.in-More.is tt))
    (λ c. search rules)
    (λ c. absurd
    (next-other c.args.bytes.now _ _ Bad
    c.requires.0
    c.requires.1
    c.take_record.ensures c.in-Bad.is tt)))
