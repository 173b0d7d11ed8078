-- `leading` and `mask_of` meet their contracts: a current bit chooses between two masks, a next bit splits the goals. Assumes nothing.
use mathlib.Core.Path.{◌∙◌}
use Prim.Native.Nat.{◌+◌, ◌*◌, ◌%◌}
use native.Mathlib.Omega.{arith}
use lib.Bits.{bit_xor}
use Rattle.layout.specs.View.{view}
use Rattle.rows.specs.Mark.{depth}
use Rattle.coin_masks.proofs.MasksLaws.{leading-asks, mask-zero, zero-below, zero-above, mask-now, mask_next, row_of}
use Rattle.coin_masks.proofs.MasksLaws.{mask-nothing, mask-none, mask-every, mask-met, mask-kept}
use Prim.Native.Nat.{ℕ, ◌<◌}
use borrow.Author.Rules.{rules}
use borrow.Fn.Kinds.{In}
use borrow.Fn.PlainCycle.{Measures, is, falls, and}
use Rattle.coin_masks.proofs.+leading_mask_of.{statement}
use Rattle.coin_masks.proofs.+leading_mask_of.Tie.{close}
use Rattle.coin_masks.proofs.leading.Reads as leading
use Rattle.coin_masks.proofs.leading.Kinds as leading-kinds
use Rattle.coin_masks.proofs.+leading_mask_of.Lts-leading as leading-lts
use Rattle.coin_masks.proofs.mask_of.Reads as mask-of
use Rattle.coin_masks.proofs.mask_of.Kinds as mask-of-kinds
use Rattle.coin_masks.proofs.+leading_mask_of.Lts-mask_of as mask-of-lts
use Rattle.coin_masks.proofs.choose_bits.Reads as choose-bits-reads
use Rattle.coin_masks.proofs.high_goals.Reads as high-goals-reads
use Rattle.coin_masks.proofs.keep_mask.Reads as keep-mask-reads
use Rattle.coin_masks.proofs.low_goals.Reads as low-goals-reads
use Rattle.seek.proofs.follow_at.Reads as follow-at-reads
use Rattle.seek.proofs.level_of.Reads as level-of-reads

abbrev μ-leading : Measures 2 leading-kinds.ps ℕ
μ-leading κs a = 2 * depth (view a.1.0 a.0.now) a.1.1.1.1.0

abbrev μ-mask-of : Measures 2 mask-of-kinds.ps ℕ
μ-mask-of κs a = 2 * depth (view a.1.0 a.0.now) a.1.1.1.1.0 + 1

abbrev leading_at : ℕ → In 2 leading-kinds.ps
leading_at t = and 2 leading-kinds.ps (is 2 leading-kinds.ps μ-leading t) leading.Pre

abbrev leading-below : ℕ → In 2 leading-kinds.ps
leading-below t = and 2 leading-kinds.ps (falls 2 leading-kinds.ps ◌<◌ μ-leading t) leading.Pre

abbrev mask_of-at : ℕ → In 2 mask-of-kinds.ps
mask_of-at t = and 2 mask-of-kinds.ps (is 2 mask-of-kinds.ps μ-mask-of t) mask-of.Pre

abbrev mask_of-below : ℕ → In 2 mask-of-kinds.ps
mask_of-below t = and 2 mask-of-kinds.ps (falls 2 mask-of-kinds.ps ◌<◌ μ-mask-of t) mask-of.Pre

pub +leading_mask_of_spec : {M : Type 1} → statement M
+leading_mask_of_spec = close μ-leading μ-mask-of
    (λ t. leading-lts.spec (
      level-of-reads.Asked,
      level-of-reads.Learnt,
      follow-at-reads.Asked,
      follow-at-reads.Learnt,
      mask_of-below t,
      mask-of.Post,
      choose-bits-reads.Asked,
      choose-bits-reads.Learnt,
      low-goals-reads.Asked,
      low-goals-reads.Learnt,
      high-goals-reads.Asked,
      high-goals-reads.Learnt,
    )
    (leading_at t)
    leading.Post
    (λ c κs. c.requires.1.0.arrow)
    (λ c κs. let c1 = c.before.before.before in c1.requires.1.0.arrow)
    (λ c κs. let c1 = c.before.before.before in let c2 = c1.before.before.before in leading-asks c.follow_at-y.ensures c2.requires.1.0.arrow c2.requires.1.1 c2.requires.1.0.small c2.requires.1.0.masked c1.level_of-level.ensures c2.requires.0)
    (λ c. c.mask_of.auto.notes)
    (λ c. let c1 = c.before.before.before.before in let c2 = c1.before in mask-zero c2.follow_at-y.ensures (zero-below _
    c1.if-p-low.true) c.mask_of.ensures)
    (λ c κs. let c1 = c.before.before.before in let c2 = c1.before in let c3 = c2.before.before.before in leading-asks
    c1.follow_at-y.ensures c3.requires.1.0.arrow c3.requires.1.1 c3.requires.1.0.small c3.requires.1.0.masked c2.level_of-level.ensures c3.requires.0)
    (λ c. c.mask_of-then-k-gt5.auto.notes)
    (λ c. let c1 = c.before.before.before.before in let c2 = c1.before in let c3 = c2.before in mask-zero c3.follow_at-y.ensures (zero-above _ c2.if-p-low.false c1.if-k-gt5.true) c.mask_of-then-k-gt5.ensures)
    (λ c κs. let c1 = c.before.before.before.before.before.before in c1.requires.1.0.arrow)
    (λ c κs. let c1 = c.before.before.before.before.before in let c2 = c1.before in let c3 = c2.before.before.before in
    leading-asks c1.follow_at-y.ensures c3.requires.1.0.arrow c3.requires.1.1 c3.requires.1.0.small c3.requires.1.0.masked
    c2.level_of-level.ensures c3.requires.0)
    (λ c κs. let c1 = c.before.before.before in let c2 = c1.before.before.before in let c3 = c2.before.before.before.before in let c4 = c3.before.before.before in leading-asks c2.follow_at-z.ensures c4.requires.1.0.arrow c4.requires.1.1 c4.requires.1.0.small c1.mask_of-a.ensures.masked c3.level_of-level.ensures c4.requires.0)
    (λ c κs. let c1 = c.before.before.before.before.before.before.before.before.before.before in let b = c1.if-k-gt5.false
    in omega arith)
    (λ c. let c1 = c.before.before.before in let c2 = c1.before.before.before.before in c1.mask_of-b.auto.notes ∙ c2.mask_of-a.auto.notes)
    (λ c. let c1 = c.before.before.before in let c2 = c1.before.before.before.before in let c3 = c2.before.before in
    let c4 = c3.before in let c5 = c4.before.before in let c6 = c5.before in mask-now c6.follow_at-y.ensures c4.follow_at-z.ensures c5.if-p-low.false c3.if-level-eq0.true c2.mask_of-a.ensures c1.mask_of-b.ensures c.choose_bits.ensures)
    (λ c κs. let b = c.if-k-gt5.false in omega arith)
    (λ c κs. let c1 = c.before.before.before in let b = c1.if-k-gt5.false in omega arith)
    (λ c κs. let c1 = c.before.before.before.before.before.before.before in let c2 = c1.before in let c3 = c2.before.before.before in leading-asks c1.follow_at-y.ensures c3.requires.1.0.arrow c3.requires.1.1 c3.requires.1.0.small c3.requires.1.0.masked c2.level_of-level.ensures c3.requires.0)
    (λ c κs. let c1 = c.before.before.before in let c2 = c1.before.before.before.before.before in let c3 = c2.before.before.before.before in let c4 = c3.before.before.before in leading-asks c2.follow_at-z.ensures c4.requires.1.0.arrow c4.requires.1.1 c4.requires.1.0.small c1.mask_of-a-2.ensures.masked c3.level_of-level.ensures c4.requires.0)
    (λ c. let c1 = c.before.before.before.before.before.before in c.mask_of-b-2.auto.notes ∙ c1.mask_of-a-2.auto.notes)
    (λ c. let c1 = c.before.before.before.before.before.before in let c2 = c1.before.before in let c3 = c2.before in
    let c4 = c3.before in let c5 = c4.before in let c6 = c5.before.before in let c7 = c6.before in let c8 = c7.before in
    let c9 = c8.before.before.before in mask_next c7.follow_at-y.ensures c5.follow_at-z.ensures c6.if-p-low.false c9.requires.1.0.arrow c9.requires.1.1 c8.level_of-level.ensures c4.if-level-eq0.false c3.low_goals-first.ensures c2.high_goals-second.ensures c1.mask_of-a-2.ensures c.mask_of-b-2.ensures))
    (λ t. mask-of-lts.spec (
      leading-below t,
      leading.Post,
      keep-mask-reads.Asked,
      keep-mask-reads.Learnt,
    )
    (mask_of-at t)
    mask-of.Post
    (λ c. let c1 = c.before.before.before in mask-nothing c1.requires.1 c.if-x-eq-NOTHING.true)
    (λ c. let c1 = c.before.before.before.before in mask-none c1.requires.1 c.if-goals-eq0.true)
    (λ c. let c1 = c.before.before.before.before.before in mask-every c1.requires.1 c.if-x-eq-EVERYTHING.true c.if-goals-eq0.false
    (omega arith))
    (λ c. search rules)
    (λ c. search rules)
    (λ c. search rules)
    (λ c. search rules)
    (λ c. let c1 = c.before.before.before.before.before.before in let s = c1.requires.1.masked.size in omega arith)
    (λ c. search rules)
    (λ c. let c1 = c.before.before.before.before.before.before.before.before in let s = c1.requires.1.masked.size in
    omega arith)
    (λ c. search rules)
    (λ c. let c1 = c.before.before.before.before.before.before.before.before.before.before in let s = c1.requires.1.masked.size in omega arith)
    (λ c. let c1 = c.before.before.before in let c2 = c1.before.before.before.before.before.before.before in mask-met
    c2.requires.1 (bit_xor c2.args.x c2.args.goals % 409) (omega arith) c1.if-notes-place.true c.if-notes-there.true)
    (λ c κs. let c1 = c.before.before.before in let c2 = c1.before.before in let c3 = c2.before.before.before in (
      let e
          = c3.requires.0 in omega arith,
      (c3.requires.1, row_of _ c2.if-x-eq-NOTHING.false c1.if-x-eq-EVERYTHING.false),
    ))
    (λ c κs. let c1 = c.before.before.before in (omega arith, c1.leading-mask.ensures.masked.size))
    (λ c. let c1 = c.before.before.before.before.before.before in c.keep_mask.auto.notes ∙ c1.leading-mask.auto.notes)
    (λ c. let c1 = c.before.before.before.before.before.before in let c2 = c1.before.before.before.before.before.before.before.before.before in mask-kept (bit_xor c2.args.x c2.args.goals % 409) (omega arith) c1.leading-mask.ensures c.keep_mask.ensures))
