-- `gather` meets its contract: with no row used, the marked rows of the old list join again. Assumes nothing.
use mathlib.Core.Path.{ap, ◌∙◌}
use native.Mathlib.Omega.{arith}
use Rattle.layout.specs.View.{View, view}
use Rattle.collect.proofs.GatherLaws.{gather-pre, gathered_by}
use Rattle.collect.proofs.gather.Statement.{statement}
use Rattle.collect.proofs.gather.Tie as tie

pub gather_spec : {M : Type 1} → statement M
gather_spec =
    tie.close
    (tie.spec
    (λ c κs. let z = c.requires.0.sizes in omega arith)
    (λ c κs. let z = c.requires.0.sizes in omega arith)
    (λ c κs. let g = c.requires.0 in
    let z = g.sizes in
    let e = c.header_word-total.ensures in
    let r = g.ranked.count-le in
    let l = c.put_header.auto.words in (
      omega arith,
      omega arith,
      omega arith,
      λ k h. rw (ap (λ (v : View). v.list k) c.put_header.ensures) (g.ranked.within k (omega arith)),
    ))
    (λ c κs. let g = c.requires.0 in
    gather-pre
    (view c.args.rows
    c.args.words.now)
    c.header_word-total.ensures
    c.put_header.ensures c.clear_heads.ensures _
    g.sizes.room g.sizes.N-max
    c.requires.1 g.ranked
    g.rows.shared)
    (λ c. c.regather.auto.words ∙ c.clear_heads.auto.words
    ∙ c.put_header.auto.words)
    (λ c. gathered_by
    (view c.args.rows
    c.args.words.now)
    c.header_word-total.ensures
    c.put_header.ensures
    c.clear_heads.ensures _ c.regather.ensures))
