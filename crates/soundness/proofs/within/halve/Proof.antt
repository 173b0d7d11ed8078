-- `halve` meets its contract: the arrow is past the lesser level, or its row is read. Assumes nothing.
use Rattle.layout.specs.View.{view}
use native.Mathlib.Omega.{arith}
use Rattle.soundness.proofs.Contained.{halved_here}
use borrow.Author.Rules.{rules}
use Rattle.soundness.proofs.within.halve.Statement.{statement}
use Rattle.soundness.proofs.within.halve.Tie as tie

pub halve_spec : {M : Type 1} → statement M
halve_spec =
    tie.close
    (tie.spec
    (λ c. search rules)
    (λ c κs. search rules)
    (λ c κs. search rules)
    (λ c κs. search rules)
    (λ c κs. search rules)
    (λ c κs. search rules)
    (λ c. halved_here
    (view c.args.rows
    c.args.words.now) _
    (let t = c.if-own-other.false in omega arith) c.row_of-i.ensures
    c.get.ensures c.get-2.ensures c.carry.ensures c.carry-2.ensures))
