-- `records::write_field` meets its contract: the number, then the byte after it.
-- Assumes nothing.
use native.Mathlib.Omega.{arith}
use Rattle.records.proofs.TextLaws.{wrote_field}
use borrow.Author.Rules.{rules}
use Rattle.records.proofs.write_field.Statement.{statement}
use Rattle.records.proofs.write_field.Tie as tie

pub write_field_spec : {M : Type 1} → statement M
write_field_spec =
    tie.close
    (tie.spec (λ c κs. search rules)
    (λ c. omega (arith, c.write_number-end.ensures.within, c.write_number-end.auto.out))
    (λ c. omega (arith, c.write_number-end.ensures.within)) (λ c. search rules)
    (λ c. wrote_field c.args.x c.args.after
    c.write_number-end.ensures))
