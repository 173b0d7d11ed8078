-- `even_sets` meets its contract: the rows that V and the registers reach are those that were marked from them. Assumes nothing.
use native.Mathlib.Omega.{arith}
use borrow.Author.Rules.{rules}
use Rattle.rows.specs.Bits.{MARK_WORDS}
use Rattle.rows.proofs.Bits.{no-marks}
use Rattle.layout.specs.View.{view}
use Rattle.rows.proofs.Says.{says_map}
use Rattle.soundness.proofs.Decided.{marked-even, even-marked}
use Rattle.soundness.proofs.even_sets.Statement.{statement}
use Rattle.soundness.proofs.even_sets.Tie as tie

pub even_sets_spec : {M : Type 1} → statement M
even_sets_spec =
    tie.close
    (tie.spec
    (λ c. search rules)
    (λ c κs. c.requires.1)
    (λ c. search rules)
    (λ c κs. let p = c.requires.1.base in
    let e = c.mark_refs.auto.marks in
    (c.requires.0, omega arith, omega arith))
    (λ c. let p = c.requires in
    says_map
    (marked-even
    (view c.args.rows
    c.args.words.now) p.0 p.1.base.rows _ _ (no-marks MARK_WORDS)
    c.mark_refs.ensures p.1.ref)
    (even-marked
    (view c.args.rows
    c.args.words.now) p.0 p.1.base.rows _ _ (no-marks MARK_WORDS)
    c.mark_refs.ensures p.1.ref) c.evens.ensures))
