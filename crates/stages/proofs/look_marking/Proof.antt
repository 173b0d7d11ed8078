-- `look_marking` meets its contract: the live rows are marked, the arrows followed are surveyed, and the bounds are compared.
-- Assumes nothing.
use mathlib.Core.Path.{◌≡◌, ◌∙◌}
use native.Mathlib.Omega.{arith}
use Prim.Native.Nat.{ℕ}
use lib.ListN.{length-replicate}
use borrow.Author.Tests.{not-false}
use Rattle.rows.proofs.Says.{says-yes}
use Rattle.stages.proofs.Looks.{look-asks, look-levels, look-fits}
use borrow.Author.Rules.{rules}
use Rattle.stages.proofs.look_marking.Statement.{statement}
use Rattle.stages.proofs.look_marking.Tie as tie

pub look_marking_spec : {M : Type 1} → statement M
look_marking_spec =
    tie.close
    (tie.spec
    (λ c κs. (
      record {
        sound =
            c.requires.0.sound;
        arrows =
            c.requires.0.arrows;
      },
      c.requires.0.base,
      c.requires.1,
    ))
    (λ c. search rules)
    (λ c. search rules)
    (λ c. search rules)
    (λ c κs. look-asks c.requires.0
    c.mark_live-live.ensures
    c.requires.2
    (let e = c.mark_live-live.auto.marks in
    let r = c.requires.1.enough in
    omega (arith, e, r)))
    (λ c. c.survey.auto.reached
    ∙ c.mark_live-live.auto.marks)
    (λ c. c.survey.auto.seen)
    (λ c. record { fits = λ e. let z : ◌≡◌ {A = ℕ} 0 1 = cc in absurd (omega arith) })
    (λ c. search rules)
    (λ c. search rules)
    (λ c κs. look-levels
    c.requires.0
    c.mark_live-live.ensures
    c.requires.2
    (c.survey.ensures
    (not-false _ c.if-not-survey.false-raw))
    (c.survey.auto.above
    ∙ length-replicate {A = ℕ} 34 0)
    (c.survey.auto.added
    ∙ length-replicate {A = ℕ} 34 0))
    (λ c. c.survey.auto.reached
    ∙ c.mark_live-live.auto.marks)
    (λ c. c.survey.auto.seen)
    (λ c. record {
      fits = λ e. look-fits
          c.requires.0
          c.mark_live-live.ensures
          c.requires.2
          (c.survey.ensures
          (not-false _ c.if-not-survey.false-raw)) (says-yes c.if-within.true c.within.ensures);
    })
    (λ c. c.survey.auto.reached
    ∙ c.mark_live-live.auto.marks)
    (λ c. c.survey.auto.seen)
    (λ c. record { fits = λ e. let z : ◌≡◌ {A = ℕ} 0 1 = cc in absurd (omega arith) }))
