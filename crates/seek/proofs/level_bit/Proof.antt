use mathlib.Core.Path.{◌∙◌}
use Rattle.seek.proofs.Walk.{even-level, odd-level}
use borrow.Author.Rules.{rules}
use Rattle.seek.proofs.level_bit.Statement.{statement}
use Rattle.seek.proofs.level_bit.Tie as tie
use Rattle.seek.proofs.level_bit.Reads as reads
use Rattle.seek.proofs.level_bit.Lts as lts
use Rattle.states.proofs.bit.Reads as bit-reads

pub level_bit_spec : {M : Type 1} → statement M
level_bit_spec =
    tie.close
    (tie.spec (λ c κs. search rules)
    (λ c. c.bit.ensures
    ∙ even-level c.args.s c.args.t c.args.l c.if-l-eq0.true)
    (λ c κs. search rules)
    (λ c. c.bit-2.ensures
    ∙ odd-level c.args.s c.args.t c.args.l c.if-l-eq0.false))
