-- `free_many` meets its contract: nothing is changed, or what is marked is what registers and relations reach, and that is what stays.
-- Assumes nothing.
use mathlib.Core.Path.{refl}
use native.Mathlib.Omega.{arith}
use Rattle.layout.specs.View.{view}
use Rattle.rows.specs.Bits.{MARK_WORDS}
use Rattle.rows.proofs.Bits.{no-marks}
use Rattle.collect.proofs.Answers.{sound-base, filled-by}
use Rattle.collect.specs.Answers.{few, many}
use borrow.Author.Rules.{rules}
use Rattle.collect.proofs.free_many.Statement.{statement}
use Rattle.collect.proofs.free_many.Tie as tie

pub free_many_spec : {M : Type 1} → statement M
free_many_spec =
    tie.close
    (tie.spec
    (λ c. search rules)
    (λ c κs. let s = c.requires in
    record { base = sound-base s; order = omega arith; within = omega arith; ref = λ h a l. s.refs h a (omega arith) })
    (λ c. search rules)
    (λ c κs. let s = c.requires in
    let z = s.good.sizes in
    let e = c.mark_filled.auto.marks in (s.good.ranked, omega arith, omega arith))
    (λ c. search rules)
    (λ c. few refl)
    (λ c. search rules)
    (λ c κs. let s = c.requires in
    let z = s.good.sizes in
    let e = c.mark_filled.auto.marks in (s.good, omega arith))
    (λ c. search rules)
    (λ c. many
    (filled-by
    (view c.args.rows c.args.words.now) _ _ _ (no-marks MARK_WORDS) c.gather.ensures
    c.requires
    c.mark_filled.ensures)))
