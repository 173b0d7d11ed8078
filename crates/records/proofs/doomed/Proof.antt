-- `records::doomed` meets its contract: at each `return` the tests that were made decide the definition, since the others lack bytes.
-- Assumes nothing.
use mathlib.Core.Path.{sym, ap, ◌∙◌}
use mathlib.Core.Bool.{not}
use Prim.Native.Nat.{ℕ, ◌-◌}
use lib.ListN.{get_or}
use native.Mathlib.Omega.{arith}
use Rattle.book.specs.Program.{record_length}
use Rattle.records.specs.Record.{takes}
use Rattle.records.proofs.Reading.{range-within, range-below, range-above, doomed-two, doomed-length, doomed_three, doomed_version}
use Rattle.records.proofs.Reading.{doomed_four, doomed-takes}
use borrow.Author.Rules.{rules}
use Rattle.records.proofs.doomed.Statement.{statement}
use Rattle.records.proofs.doomed.Tie as tie

pub doomed_spec : {M : Type 1} → statement M
doomed_spec =
    tie.close
    (tie.spec
    (λ c. sym (doomed-two c.args.bytes.now (omega arith)))
    (λ c κs. search rules)
    (λ c. search rules)
    (λ c. sym
    (doomed-length c.args.bytes.now (omega arith)
    (range-below (record_length c.args.bytes.now) (omega (arith, c.pair-length.ensures)))))
    (λ c. sym
    (doomed-length c.args.bytes.now (omega arith)
    (range-above (record_length c.args.bytes.now)
    (omega (arith, c.pair-length.ensures)))))
    (λ c. sym
    (doomed_three c.args.bytes.now (omega arith)
    (range-within (record_length c.args.bytes.now)
    (omega (arith, c.pair-length.ensures)) (omega (arith, c.pair-length.ensures)))))
    (λ c. search rules)
    (λ c. sym
    (doomed_version c.args.bytes.now (omega arith) c.if-bytes-ne-VERSION.true
    (range-within (record_length c.args.bytes.now)
    (omega (arith, c.pair-length.ensures))
    (omega (arith, c.pair-length.ensures)))))
    (λ c. sym
    (doomed_four c.args.bytes.now (omega arith)
    (omega arith) c.if-bytes-ne-VERSION.false
    (range-within (record_length c.args.bytes.now)
    (omega (arith, c.pair-length.ensures))
    (omega (arith, c.pair-length.ensures)))))
    (λ c. search rules)
    (λ c κs. search rules)
    (λ c. ap not
    (c.takes.ensures
    ∙ ap (λ (k : ℕ). takes
    (get_or c.args.bytes.now 3 0) (k - 2))
    c.pair-length.ensures)
    ∙ sym (doomed-takes c.args.bytes.now
    (omega arith) c.if-bytes-ne-VERSION.false
    (range-within
    (record_length c.args.bytes.now)
    (omega (arith, c.pair-length.ensures))
    (omega (arith, c.pair-length.ensures))))))
