-- `regather`: the row at one place more is used again, if it is marked. Assumes nothing.
use Rattle.std.proofs.Common.{refl, ap, sym, ◌∙◌, length}
use mathlib.Core.Bool.{true≢false}
use Rattle.layout.specs.View.{view}
use Rattle.collect.proofs.GatherLaws.{part-zero, next-keep, next-skip}
use Rattle.collect.proofs.regather.Goals as goal
use Rattle.collect.proofs.regather.Goals.{then-marked, else-marked}

pub loop-k-init : goal.loop-k-init
loop-k-init c = (refl, part-zero _ _ c.requires.none _)

pub loop-k-preserved : goal.loop-k-preserved
loop-k-preserved c =
    let v = c.loop-k.invariant in
    let t = c.loop-k-test.true in
    let p = c.requires in
    let e = c.listed-i.ensures in
    let m = c.marked.ensures in (
      elim c.if-marked.branch [
        | then-marked w ↦ ap length w.words-is ∙ w.append.auto.words ∙ v.0
        | else-marked w ↦ ap length w.words-is ∙ v.0
      ],
      elim c.if-marked.branch [
        | then-marked w ↦ next-keep p v.1 t e (sym m ∙ w.if-marked.true) (ap (view c.args.rows) w.words-is ∙ w.append.ensures)
        | else-marked w ↦ next-skip p v.1 t e (λ o. true≢false (sym o ∙ sym m ∙ w.if-marked.false)) (ap (view c.args.rows) w.words-is)
      ],
    )
