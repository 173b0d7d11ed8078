-- `first` meets its contract: it is `live` of the head, by cases. Assumes nothing.
use mathlib.Core.Path.{sym, ◌∙◌}
use borrow.Author.Rules.{rules}
use borrow.Author.Tests.{not-true, not-false}
use Rattle.rows.proofs.Index.{live-zero}
use Rattle.rows.proofs.Lookup.{used_row, live-not-zero, live-no}
use Rattle.rows.proofs.first.Statement.{statement}
use Rattle.rows.proofs.first.Tie as tie

pub first_spec : {M : Type 1} → statement M
first_spec =
    tie.close
    (tie.spec
    (λ c κs. search rules)
    (λ c. let e = c.head-p.ensures in let z = sym e ∙ c.if-p-eq0.true in rw z (sym (live-zero _)))
    (λ c. search rules)
    (λ c κs. search rules)
    (λ c. let e = c.head-p.ensures in
    let z = not-true _ c.if-not-used_row.true-raw in
    rw (← e) (sym (live-no _ _ c.if-p-eq0.false (sym c.used_row.ensures ∙ z))))
    (λ c. let e = c.head-p.ensures in
    let z = not-false _ c.if-not-used_row.false-raw in
    rw (← e) (sym (live-not-zero _ _ c.if-p-eq0.false (sym c.used_row.ensures ∙ z)))))
