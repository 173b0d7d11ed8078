-- `sound_after` is its definition, by its two tests. Assumes nothing.
use Rattle.commands.proofs.After.{after-answered, after-refused}
use borrow.Author.Rules.{rules}
use Rattle.commands.proofs.sound_after.Statement.{statement}
use Rattle.commands.proofs.sound_after.Tie as tie

pub sound_after_spec : {M : Type 1} → statement M
sound_after_spec =
    tie.close
    (tie.spec
    (λ c. search rules)
    (λ c. after-answered _ _ c.if-sound.false c.if-number-eq0.true)
    (λ c. after-refused _ _ c.if-sound.false c.if-number-eq0.false))
