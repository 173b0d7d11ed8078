-- `records::write_line` meets its contract: a line is its four fields one after the other, each of 11 bytes at most.
-- Assumes nothing.
use native.Mathlib.Omega.{arith}
use Rattle.records.proofs.TextLaws.{wrote-line}
use borrow.Author.Rules.{rules}
use Rattle.records.proofs.write_line.Statement.{statement}
use Rattle.records.proofs.write_line.Tie as tie

pub write_line_spec : {M : Type 1} → statement M
write_line_spec =
    tie.close
    (tie.spec
    (λ c κs. search rules)
    (λ c κs. omega (arith, c.write_field-second.ensures.within, c.write_field-second.auto.out))
    (λ c κs. omega (
      arith,
      c.write_field-second.ensures.within,
      c.write_field-second.auto.out,
      c.write_field-third.ensures.within,
      c.write_field-third.auto.out,
    ))
    (λ c κs. omega (
      arith,
      c.write_field-second.ensures.within,
      c.write_field-second.auto.out,
      c.write_field-third.ensures.within,
      c.write_field-third.auto.out,
      c.write_field-fourth.ensures.within,
      c.write_field-fourth.auto.out,
    ))
    (λ c. search rules)
    (λ c. wrote-line
    c.args.op
    c.args.number
    c.args.value
    c.args.rounds
    c.write_field-second.ensures c.write_field-third.ensures
    c.write_field-fourth.ensures c.write_field.ensures))
