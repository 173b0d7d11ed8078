-- `records::read_record` meets its contract: each `return` is one of the four ways of reading.
-- Assumes nothing.
use mathlib.Core.Path.{sym, ◌∙◌}
use mathlib.Core.Bool.{true, false}
use native.Mathlib.Omega.{arith}
use Rattle.records.proofs.Reading.{read_none, read_bad, read-partial, read-command, hopeful_length, hopeful_short, arguments_taken}
use borrow.Author.Rules.{rules}
use Rattle.records.proofs.read_record.Statement.{statement}
use Rattle.records.proofs.read_record.Tie as tie

pub read_record_spec : {M : Type 1} → statement M
read_record_spec =
    tie.close
    (tie.spec
    (λ c. rw c.if-ended.true (sym (read_none c.args.bytes.now true (omega arith))))
    (λ c. rw c.if-ended.false (sym (read_none c.args.bytes.now false (omega arith))))
    (λ c κs. search rules)
    (λ c. sym
    (read_bad c.args.bytes.now c.args.ended (omega arith)
    (sym c.doomed.ensures ∙ c.if-doomed.true)))
    (λ c κs. search rules)
    (λ c. let d = sym c.doomed.ensures ∙ c.if-doomed.false in
    c.partial.ensures
    ∙ sym (read-partial c.args.bytes.now
    c.args.ended (omega arith) d
    (hopeful_short c.args.bytes.now d (omega arith))))
    (λ c κs. search rules)
    (λ c. search rules)
    (λ c. search rules)
    (λ c κs. search rules)
    (λ c. c.partial-then-bytes-size.ensures
    ∙ sym (read-partial c.args.bytes.now
    c.args.ended (omega arith)
    (sym c.doomed.ensures ∙ c.if-doomed.false)
    (omega (arith, c.pair.ensures))))
    (λ c. search rules)
    (λ c. omega (
      arith,
      c.pair.ensures,
      hopeful_length c.args.bytes.now
          (sym c.doomed.ensures ∙ c.if-doomed.false) (omega arith),
    ))
    (λ c. omega (
      arith,
      c.pair.ensures,
      hopeful_length c.args.bytes.now
          (sym c.doomed.ensures ∙ c.if-doomed.false) (omega arith),
    ))
    (λ c. search rules)
    (λ c κs. arguments_taken c.args.bytes.now _
    c.pair.ensures
    (sym c.doomed.ensures ∙ c.if-doomed.false)
    (omega arith) (omega arith))
    (λ c. read-command c.args.bytes.now
    c.args.ended _ _
    c.pair.ensures
    (sym c.doomed.ensures
    ∙ c.if-doomed.false) (omega arith) c.command_in-command.ensures))
