-- `members` meets its contract: each test is one check, in order; the rest is the walk over the places as they are laid. Assumes nothing.
use mathlib.Core.Path.{refl, ◌∙◌}
use native.Mathlib.Omega.{arith}
use Rattle.rows.proofs.Says.{says_pass, says_fail}
use Rattle.batch_calls.proofs.MembersLaws.{refuse-sizes, refuse-unsound, refuse-range, refuse-empty, range-is, range-not, ask-pre}
use Rattle.batch_calls.proofs.MembersLaws.{answer}
use borrow.Author.Rules.{rules}
use Rattle.batch_calls.proofs.members.Statement.{statement}
use Rattle.batch_calls.proofs.members.Tie as tie

pub members_spec : {M : Type 1} → statement M
members_spec =
    tie.close
    (tie.spec
    (λ c κs. search rules)
    (λ c. refuse-sizes _ (says_fail c.if-not-lists_fit.true-raw c.lists_fit.ensures))
    (λ c κs. search rules)
    (λ c. refuse-unsound _ (says_pass c.if-not-lists_fit.false-raw c.lists_fit.ensures)
    (says_fail c.if-not-sound.true-raw c.sound.ensures))
    (λ c. refuse-range _ (says_pass c.if-not-lists_fit.false-raw c.lists_fit.ensures)
    (says_pass c.if-not-sound.false-raw c.sound.ensures)
    (λ z. let l = z.register in let t = c.if-r-ge-REGISTERS.true in omega arith))
    (λ c κs. let z = (says_pass c.if-not-sound.false-raw c.sound.ensures).good.sizes in omega arith)
    (λ c κs. let z = (says_pass c.if-not-sound.false-raw c.sound.ensures).good.sizes in
    let e = c.header_word-n.ensures in omega arith)
    (λ c. refuse-range _
    (says_pass c.if-not-lists_fit.false-raw
    c.lists_fit.ensures)
    (says_pass c.if-not-sound.false-raw c.sound.ensures)
    (range-not _ c.header_word-n.ensures (says_fail c.if-not-in_range.true-raw c.in_range.ensures)))
    (λ c. search rules)
    (λ c κs. let z =
    (says_pass c.if-not-sound.false-raw
    c.sound.ensures).good.sizes in
    let t = c.if-r-ge-REGISTERS.false in omega arith)
    (λ c. refuse-empty _
    (says_pass c.if-not-lists_fit.false-raw
    c.lists_fit.ensures)
    (says_pass c.if-not-sound.false-raw
    c.sound.ensures)
    (range-is _ c.header_word-n.ensures c.if-r-ge-REGISTERS.false
    (says_pass c.if-not-in_range.false-raw c.in_range.ensures)) c.header_word-x.ensures
    c.if-x-eq0.true)
    (λ c κs. let z =
    (says_pass c.if-not-sound.false-raw
    c.sound.ensures).good.sizes in omega arith)
    (λ c κs. let f =
    (says_pass c.if-not-lists_fit.false-raw
    c.lists_fit.ensures) in
    (f.few, f.order-room))
    (λ c. search rules)
    (λ c κs. ask-pre _
    (says_pass
    c.if-not-lists_fit.false-raw c.lists_fit.ensures)
    (says_pass c.if-not-sound.false-raw
    c.sound.ensures)
    (range-is _ c.header_word-n.ensures
    c.if-r-ge-REGISTERS.false
    (says_pass c.if-not-in_range.false-raw
    c.in_range.ensures))
    c.header_word-x.ensures
    c.if-x-eq0.false
    c.header_word-rows.ensures refl c.lay.ensures
    c.lay.auto.order)
    (λ c. c.ask.auto.order
    ∙ c.lay.auto.order)
    (λ c. c.ask.auto.answers)
    (λ c. answer _
    (says_pass
    c.if-not-lists_fit.false-raw
    c.lists_fit.ensures)
    (says_pass
    c.if-not-sound.false-raw
    c.sound.ensures)
    (range-is _
    c.header_word-n.ensures
    c.if-r-ge-REGISTERS.false
    (says_pass
    c.if-not-in_range.false-raw
    c.in_range.ensures))
    c.header_word-x.ensures
    c.if-x-eq0.false
    c.header_word-rows.ensures refl
    c.lay.ensures
    (c.ask.auto.order
    ∙ c.lay.auto.order)
    c.ask.auto.answers c.ask.ensures))
