-- `take_record` does what stands in the bytes at hand. Assumes nothing.
use mathlib.Core.Path.{refl, sym, ◌∙◌}
use Rattle.records.proofs.Promises.{record-read}
use Rattle.commands.proofs.Obeyed.{took}
use borrow.Author.Rules.{rules}
use Rattle.commands.proofs.take_record.Statement.{statement}
use Rattle.commands.proofs.take_record.Tie as tie

pub take_record_spec : {M : Type 1} → statement M
take_record_spec =
    tie.close
    (tie.spec
    (λ c κs. search rules)
    (λ c. search rules)
    (λ c. search rules)
    (λ c. search rules)
    (λ c. search rules)
    (λ c κs. let q = record-read c.args.bytes.now
    c.args.ended _ _
    (sym c.read_record.ensures ∙ c.in-Record.is) in
    (q.starts, q.within, c.requires))
    (λ c. took c.args.bytes.now c.args.ended _ _ _
    _ c.read_record.ensures c.in-End.is (refl, refl))
    (λ c. took c.args.bytes.now c.args.ended _ _ _
    _ c.read_record.ensures c.in-More.is (refl, refl))
    (λ c. took c.args.bytes.now c.args.ended _ _ _
    _ c.read_record.ensures c.in-Bad.is (refl, refl))
    (λ c. search rules)
    (λ c. took c.args.bytes.now
    c.args.ended _ _ _ _
    c.read_record.ensures
    c.in-Record.is (_, refl, c.obey-outcome.ensures)))
