-- `records::takes` meets its contract: each arm is the definition at its operation.
-- Assumes nothing.
use mathlib.Core.Path.{sym}
use Rattle.records.proofs.Reading.{takes_at, takes_none}
use Rattle.records.proofs.takes.Statement.{statement}
use Rattle.records.proofs.takes.Tie as tie

pub takes_spec : {M : Type 1} → statement M
takes_spec =
    tie.close
    (tie.spec (λ c. sym (takes_at 1 c.args.count c.in-1.is))
    (λ c. sym (takes_at 2 c.args.count c.in-2.is))
    (λ c. sym (takes_at 3 c.args.count c.in-3.is))
    (λ c. sym (takes_at 4 c.args.count c.in-4.is))
    (λ c. sym (takes_at 5 c.args.count c.in-5.is))
    (λ c. sym (takes_at 6 c.args.count c.in-6.is))
    (λ c. let r = c.in_default.in_default-own.rest in
    sym (takes_none c.args.op c.args.count r.0.0.0.0.0.1 r.0.0.0.0.1 r.0.0.0.1 r.0.0.1
    r.0.1 r.1)))
