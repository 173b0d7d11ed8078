-- `collect_rows` meets its contract: what is marked is what registers and relations reach, and that is what stays. Assumes nothing.
use native.Mathlib.Omega.{arith}
use borrow.Author.Rules.{rules}
use Rattle.layout.specs.View.{view}
use Rattle.rows.specs.Bits.{MARK_WORDS}
use Rattle.rows.proofs.Bits.{no-marks}
use Rattle.collect.proofs.Answers.{sound-base, collect-by}
use Rattle.collect.proofs.collect_rows.Statement.{statement}
use Rattle.collect.proofs.collect_rows.Tie as tie

pub collect_rows_spec : {M : Type 1} → statement M
collect_rows_spec =
    tie.close
    (tie.spec
    (λ c. search rules)
    (λ c κs. let s = c.requires in
    record { base = sound-base s; order = omega arith; within = omega arith; ref = λ h a l. s.refs h a (omega arith) })
    (λ c. search rules)
    (λ c κs. let s = c.requires in
    let z = s.good.sizes in let e = c.mark_filled.auto.marks in (s.good, omega arith))
    (λ c κs. let z = c.requires.good.sizes in
    let e = c.gather.auto.words in omega arith)
    (λ c. search rules)
    (λ c. collect-by
    (view c.args.rows
    c.args.words.now) _ _ _
    (no-marks MARK_WORDS) c.gather.ensures
    c.requires
    c.mark_filled.ensures c.header_word.ensures))
