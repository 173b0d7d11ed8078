-- `mark_roots` meets its contract: it marks from the header's roots, and then from the lent ones. Assumes nothing.
use native.Mathlib.Omega.{arith}
use Rattle.collect.proofs.Lent.{live-marks}
use borrow.Author.Rules.{rules}
use Rattle.collect.proofs.mark_roots.Statement.{statement}
use Rattle.collect.proofs.mark_roots.Tie as tie

pub mark_roots_spec : {M : Type 1} → statement M
mark_roots_spec =
    tie.close
    (tie.spec
    (λ c κs. let p = c.requires.0 in
    record { base = p.base; order = omega arith; within = omega arith; ref = λ h a l. p.ref h a (omega arith) }) (λ c κs. search rules)
    (λ c. search rules)
    (λ c. live-marks c.mark_filled.ensures c.mark_list.ensures))
