-- `survey_part` and `survey_row` meet their contracts: what covers an arrow is marked, then what is followed from it is surveyed, and last
-- it is counted itself; 2n minus the level falls. Assumes nothing.
use borrow.Author.Rules.{rules}
use borrow.Author.Tests.{not-false}
use mathlib.Core.Path.{sym, ◌∙◌}
use mathlib.Core.Bool.{true≢false}
use native.Mathlib.Omega.{arith}
use Prim.Native.Nat.{◌+◌, ◌*◌, ℕ, ◌<◌}
use Rattle.layout.specs.View.{view}
use Rattle.rows.specs.Used.{rows_of}
use Rattle.rows.proofs.Says.{test_yes, test_no}
use Rattle.operations.proofs.Open.{depth}
use Rattle.stages.proofs.Surveys.{survey_in, survey_constant, survey_again, survey_row-at as survey-place, cover_asks, low-asks}
use Rattle.stages.proofs.Surveys.{high-asks, survey-counts, survey_row_lem as survey-done}
use borrow.Fn.Kinds.{In}
use borrow.Fn.PlainCycle.{Measures, is, falls, and}
use Rattle.stages.proofs.+survey_part_survey_row.{statement}
use Rattle.stages.proofs.+survey_part_survey_row.Tie.{close}
use Rattle.stages.proofs.survey_part.Reads as survey-part
use Rattle.stages.proofs.survey_part.Kinds as survey-part-kinds
use Rattle.stages.proofs.+survey_part_survey_row.Lts-survey_part as survey-part-lts
use Rattle.stages.proofs.survey_row.Reads as survey_row_lem
use Rattle.stages.proofs.survey_row.Kinds as survey-row-kinds
use Rattle.stages.proofs.+survey_part_survey_row.Lts-survey_row as survey-row-lts
use Rattle.layout.proofs.is_row.Reads as is-row-reads
use Rattle.layout.proofs.row_of.Reads as row-of-reads
use Rattle.operations.proofs.node_at.Reads as node-at-reads
use Rattle.operations.proofs.odd_known.Reads as odd-known-reads
use Rattle.rows.proofs.marked.Reads as marked-reads
use Rattle.rows.proofs.set_mark.Reads as set-mark-reads
use Rattle.stages.proofs.count_one.Reads as count-one-reads
use Rattle.stages.proofs.mark_added.Reads as mark-added-reads

abbrev μ-survey-part : Measures 5 survey-part-kinds.ps ℕ
μ-survey-part κs a = 2 * depth a.1.1.0 (rows_of (view a.1.0 a.0.now)) a.1.1.1.1.1.1.1.0 + 1

abbrev μ-survey-row : Measures 5 survey-row-kinds.ps ℕ
μ-survey-row κs a = 2 * depth a.1.1.0 (rows_of (view a.1.0 a.0.now)) a.1.1.1.1.1.1.1.0

abbrev survey_part-at : ℕ → In 5 survey-part-kinds.ps
survey_part-at t =
    and 5 survey-part-kinds.ps (is 5 survey-part-kinds.ps μ-survey-part t) survey-part.Pre

abbrev survey_part-below : ℕ → In 5 survey-part-kinds.ps
survey_part-below t =
    and 5 survey-part-kinds.ps (falls 5 survey-part-kinds.ps ◌<◌ μ-survey-part t) survey-part.Pre

abbrev survey_row-at : ℕ → In 5 survey-row-kinds.ps
survey_row-at t =
    and 5 survey-row-kinds.ps (is 5 survey-row-kinds.ps μ-survey-row t) survey_row_lem.Pre

abbrev survey_row-below : ℕ → In 5 survey-row-kinds.ps
survey_row-below t =
    and 5 survey-row-kinds.ps (falls 5 survey-row-kinds.ps ◌<◌ μ-survey-row t) survey_row_lem.Pre

pub +survey_part_survey_row_spec : {M : Type 1} → statement M
+survey_part_survey_row_spec = close μ-survey-part μ-survey-row (λ t. survey-part-lts.spec (
  is-row-reads.Asked,
  is-row-reads.Learnt,
  marked-reads.Asked,
  marked-reads.Learnt,
  survey_row-below t,
  survey_row_lem.Post,
)
    (survey_part-at t)
    survey-part.Post
    (λ c κs. search rules)
    (λ c. λ e. survey_constant c.requires.1
    (test_no c.is_row.ensures c.if-not-is_row.true-raw))
    (λ c κs. let l = survey_in c.requires.1 in
    let z = c.requires.1.seen-room in omega (arith, l, z))
    (λ c. search rules)
    (λ c. λ e. survey_again c.requires.1
    (sym c.marked.ensures ∙ c.if-marked.true))
    (λ c κs. (
      rw (← c.requires.0)
          (omega arith),
      (
        c.requires.1,
        (test_yes c.is_row.ensures
            c.if-not-is_row.false-raw),
        (sym c.marked.ensures ∙ c.if-marked.false),
      ),
    ))
    (λ c. search rules)
    (λ c. search rules)
    (λ c. search rules)
    (λ c. search rules)
    (λ c. c.survey_row.ensures))
    λ t. survey-row-lts.spec (
      odd-known-reads.Asked,
      odd-known-reads.Learnt,
      mark-added-reads.Asked,
      mark-added-reads.Learnt,
      row-of-reads.Asked,
      row-of-reads.Learnt,
      node-at-reads.Asked,
      node-at-reads.Learnt,
      survey_part-below t,
      survey-part.Post,
      set-mark-reads.Asked,
      set-mark-reads.Learnt,
      count-one-reads.Asked,
      count-one-reads.Learnt,
    )
    (survey_row-at t)
    survey_row_lem.Post
    (λ c κs.
    (c.requires.1.0.ready, c.requires.1.0.marking.arrow))
    (λ c. search rules)
    (λ c. search rules)
    (λ c. λ e. absurd (true≢false (sym e)))
    (λ c κs. cover_asks c.requires.1.0
    c.in-Some.is c.odd_known-known.ensures)
    (λ c κs.
    c.requires.1.1)
    (λ c κs. survey-place
    c.requires.1.0
    c.requires.1.1 c.row_of.ensures)
    (λ c κs. low-asks
    c.requires.1.0
    c.requires.1.1 c.row_of.ensures
    c.in-Some.is
    c.odd_known-known.ensures c.mark_added.ensures
    c.node_at-n.ensures
    c.requires.0
    c.mark_added.auto.reached
    c.mark_added.auto.added)
    (λ c. c.survey_part.auto.seen)
    (λ c. c.survey_part.auto.above)
    (λ c. c.survey_part.auto.reached
    ∙ c.mark_added.auto.reached)
    (λ c. c.survey_part.auto.added
    ∙ c.mark_added.auto.added)
    (λ c. λ e. absurd (true≢false (sym e)))
    (λ c κs. high-asks
    c.requires.1.0
    c.requires.1.1
    c.row_of.ensures
    c.in-Some.is
    c.odd_known-known.ensures
    c.mark_added.ensures
    c.node_at-n.ensures
    (c.survey_part.ensures
    (not-false _ c.if-not-survey_part.false-raw))
    c.requires.0
    c.survey_part.auto.seen c.survey_part.auto.above
    (c.survey_part.auto.reached
    ∙ c.mark_added.auto.reached)
    (c.survey_part.auto.added
    ∙ c.mark_added.auto.added))
    (λ c. c.survey_part-2.auto.seen
    ∙ c.survey_part.auto.seen)
    (λ c. c.survey_part-2.auto.above
    ∙ c.survey_part.auto.above)
    (λ c. c.survey_part-2.auto.reached
    ∙ c.survey_part.auto.reached
    ∙ c.mark_added.auto.reached)
    (λ c. c.survey_part-2.auto.added
    ∙ c.survey_part.auto.added
    ∙ c.mark_added.auto.added)
    (λ c. λ e. absurd (true≢false (sym e)))
    (λ c κs. let l =
    survey_in
    c.requires.1.0 in let z = c.survey_part-2.auto.seen
    ∙ c.survey_part.auto.seen in omega (arith, l, z))
    (λ c κs. survey-counts
    c.requires.1.0
    c.requires.1.1
    c.row_of.ensures
    c.in-Some.is
    c.odd_known-known.ensures
    c.mark_added.ensures
    c.node_at-n.ensures
    (c.survey_part.ensures
    (not-false _
    c.if-not-survey_part.false-raw))
    c.requires.1.2
    (c.survey_part-2.ensures (not-false _ c.if-not-survey_part-2.false-raw))
    (c.survey_part-2.auto.above
    ∙ c.survey_part.auto.above))
    (λ c. c.set_mark.auto.marks
    ∙ c.survey_part-2.auto.seen
    ∙ c.survey_part.auto.seen)
    (λ c. c.count_one.auto.counts
    ∙ c.survey_part-2.auto.above
    ∙ c.survey_part.auto.above)
    (λ c. c.survey_part-2.auto.reached
    ∙ c.survey_part.auto.reached
    ∙ c.mark_added.auto.reached)
    (λ c. c.survey_part-2.auto.added
    ∙ c.survey_part.auto.added
    ∙ c.mark_added.auto.added)
    (λ c. λ e. survey-done
    c.requires.1.0
    c.requires.1.1
    c.row_of.ensures
    c.in-Some.is
    c.odd_known-known.ensures
    c.mark_added.ensures
    c.node_at-n.ensures
    (c.survey_part.ensures
    (not-false _
    c.if-not-survey_part.false-raw))
    c.requires.1.2
    (c.survey_part-2.ensures (not-false _ c.if-not-survey_part-2.false-raw))
    c.set_mark.ensures c.count_one.ensures)
