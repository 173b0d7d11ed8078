-- `lay` meets its contract: all halves in one list, or the low ones and the high ones. Assumes nothing.
use mathlib.Core.Path.{refl}
use native.Mathlib.Omega.{arith}
use Rattle.layout.specs.View.{view}
use Rattle.soundness.proofs.Contained.{row_at}
use Rattle.soundness.proofs.LaidLaws.{halves_again, laid-whole, laid-halves}
use borrow.Author.Rules.{rules}
use Rattle.soundness.proofs.within.lay.Statement.{statement}
use Rattle.soundness.proofs.within.lay.Tie as tie

pub lay_spec : {M : Type 1} → statement M
lay_spec =
    tie.close
    (tie.spec
    (λ c κs. (c.requires.lists.good, c.requires.arrow, c.requires.is_row, c.requires.shift))
    (λ c κs. let r = row_at (view c.args.rows c.args.words.now) _
    c.requires.lists.good c.requires.arrow c.requires.is_row in (c.requires.is_row, r.row, c.requires.lists.good.sizes.room))
    (λ c κs. let o = c.requires.lists.order.2 in
    let m = c.requires.room in (c.requires.lists, omega arith, omega arith, omega arith))
    (λ c κs. let o = c.requires.lists.order.2 in
    let m = c.requires.room in let h = c.halves-mid.ensures in let n = h.least in let u = h.most in (
      halves_again c.requires.lists h c.halves-mid.auto.list c.halves-mid.auto.found,
      n,
      omega arith,
      omega arith,
    ))
    (λ c. let h = c.requires.shallow in let n = c.requires.lists.good.sizes.n_max in
    omega arith)
    (λ c κs. let o = c.requires.lists.order.2 in
    let m = c.requires.room in let h = c.halves-mid.ensures in let h1 = h.least in let h2 = h.most in let g = c.halves-stop.ensures in
    let g1 = g.least in let g2 = g.most in (omega arith, omega arith, omega arith))
    (λ c. search rules)
    (λ c. search rules)
    (λ c. let e = c.cut.ensures in (
      laid-whole c.requires c.top_of-top.ensures c.halve-h.ensures c.if-l-top.true
          c.halves-mid.ensures c.halves-stop.ensures e.0 e.1 e.2 e.3,
      refl,
      refl,
    ))
    (λ c κs. let o = c.requires.lists.order.2 in
    let m = c.requires.room in let h = c.halves-mid.ensures in let n = h.least in let u = h.most in (
      halves_again c.requires.lists h c.halves-mid.auto.list c.halves-mid.auto.found,
      omega arith,
      omega arith,
      omega arith,
    ))
    (λ c. let h = c.requires.shallow in let n = c.requires.lists.good.sizes.n_max in
    omega arith)
    (λ c. search rules)
    (λ c. search rules)
    (λ c. (
      laid-halves c.requires c.top_of-top.ensures c.halve-h.ensures c.halves-mid.ensures
          c.halves-stop-2.ensures,
      refl,
      refl,
    )))
