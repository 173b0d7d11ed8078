-- `records::command_in` meets its contract: each arm is the definition at its operation, which takes as many bytes as the arm reads.
-- Assumes nothing.
use lib.ListN.{length}
use mathlib.Core.Path.{sym, ◌∙◌}
use native.Mathlib.Omega.{arith}
use borrow.Author.Tests.{leb-true, eqb-true}
use Rattle.records.proofs.Reading.{takes_at, command_at, command-last}
use borrow.Author.Rules.{rules}
use Rattle.records.proofs.command_in.Statement.{statement}
use Rattle.records.proofs.command_in.Tie as tie

pub command_in_spec : {M : Type 1} → statement M
command_in_spec =
    tie.close
    (tie.spec
    (λ c. omega (
      arith,
      eqb-true (length c.args.arguments.now) 3
          (sym (takes_at 1 (length c.args.arguments.now) c.in-1.is)
          ∙ c.requires),
    ))
    (λ c. omega (arith, c.shared_slice_known-in-1-1.given 0))
    (λ c κs. omega (
      arith,
      eqb-true (length c.args.arguments.now) 3
          (sym (takes_at 1 (length c.args.arguments.now) c.in-1.is)
          ∙ c.requires),
    ))
    (λ c. search rules)
    (λ c. omega (
      arith,
      leb-true 1 (length c.args.arguments.now)
          (sym (takes_at 2 (length c.args.arguments.now) c.in-2.is)
          ∙ c.requires),
    ))
    (λ c. omega (arith, c.shared_slice_known-in-2-1.given 0))
    (λ c. omega (
      arith,
      leb-true 5 (length c.args.arguments.now)
          (sym (takes_at 3 (length c.args.arguments.now) c.in-3.is)
          ∙ c.requires),
    ))
    (λ c. omega (arith, c.shared_slice_known-in-3-1.given 0))
    (λ c κs. omega (
      arith,
      leb-true 5 (length c.args.arguments.now)
          (sym (takes_at 3 (length c.args.arguments.now) c.in-3.is)
          ∙ c.requires),
    ))
    (λ c. omega (
      arith,
      eqb-true (length c.args.arguments.now) 1
          (sym (takes_at 4 (length c.args.arguments.now) c.in-4.is)
          ∙ c.requires),
    ))
    (λ c. omega (arith, c.shared_slice_known-in-4-1.given 0))
    (λ c. omega (
      arith,
      eqb-true (length c.args.arguments.now) 1
          (sym (takes_at 5 (length c.args.arguments.now) c.in-5.is)
          ∙ c.requires),
    ))
    (λ c. omega (arith, c.shared_slice_known-in-5-1.given 0))
    (λ c. rw c.pair.ensures
    (sym (command_at 1 c.args.arguments.now c.in-1.is)))
    (λ c. sym (command_at 2 c.args.arguments.now c.in-2.is))
    (λ c. rw c.quad.ensures
    (sym (command_at 3 c.args.arguments.now c.in-3.is)))
    (λ c. sym (command_at 4 c.args.arguments.now c.in-4.is))
    (λ c. sym (command_at 5 c.args.arguments.now c.in-5.is))
    (λ c. let r = c.in_default.in_default-own.rest in
    sym (command-last c.args.op c.args.arguments.now r.0.0.0.0.1 r.0.0.0.1
    r.0.0.1 r.0.1 r.1)))
