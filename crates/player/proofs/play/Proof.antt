-- `play` counts the records, sees to the list's room, and obeys them all, if there is one. Assumes nothing.
use mathlib.Core.Path.{refl, subst, ◌∙◌}
use native.Mathlib.Omega.{arith}
use Rattle.player.specs.Play.{CountPost}
use Rattle.player.proofs.Chained.{all_none, all_done}
use borrow.Author.Rules.{rules}
use Rattle.player.proofs.play.Statement.{statement}
use Rattle.player.proofs.play.Tie as tie

pub play_spec : {M : Type 1} → statement M
play_spec =
    tie.close
    (tie.spec
    (λ c κs. search rules)
    (λ c. search rules)
    (λ c. search rules)
    (λ c. (
      subst (CountPost c.args.bytes.now) c.in_default.is
          c.count_records.ensures,
      (refl, refl),
    ))
    (λ c. let (cs, e, i) = subst (CountPost c.args.bytes.now)
    c.in-Some.is c.count_records.ensures in
    ((cs, e, omega (arith, c.if-list-count.true)), (refl, refl)))
    (λ c. let (cs, e, i) = subst (CountPost c.args.bytes.now)
    c.in-Some.is c.count_records.ensures in
    (omega arith, all_done (all_none _ _ cs e i c.if-count-eq0.true) e (i ∙ c.if-count-eq0.true)))
    (λ c κs. let (cs, e, i) =
    subst (CountPost c.args.bytes.now)
    c.in-Some.is
    c.count_records.ensures in
    (cs, e, omega (arith, c.if-list-count.false)))
    (λ c. search rules)
    (λ c. search rules)
    (λ c. let (cs, e, i) =
    subst (CountPost
    c.args.bytes.now) c.in-Some.is
    c.count_records.ensures in (
      omega (arith, c.if-list-count.false),
      all_done c.obey_all.ensures e i,
    )))
