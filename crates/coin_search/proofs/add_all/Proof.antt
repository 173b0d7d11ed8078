-- `add_all` meets its contract: what is left is the mask without the bits that are settled. Assumes nothing.
use mathlib.Core.Path.{◌≡◌, refl, ◌∙◌}
use Prim.Native.Nat.{◌/◌, ◌^◌}
use native.Mathlib.Omega.{arith}
use lib.ListN.{length}
use Rattle.layout.specs.View.{view}
use Rattle.coin_search.specs.Adds.{Adds}
use Rattle.coin_search.specs.Notes.{NotesHold}
use Rattle.coin_search.proofs.AddsLaws.{Below, adds_on, below-start, below_next, below_end, bit_below, half-next}
use Rattle.coin_search.proofs.add_all.Statement.{statement}
use Rattle.coin_search.proofs.add_all.Tie as tie
use Rattle.coin_search.proofs.add_all.Reads as reads
use Rattle.coin_search.proofs.add_all.Lts as lts

abbrev invariant_loop : tie.invariant-loop-left
invariant_loop words work₀ notes₀ wave s mask count left₀ j₀ most₀ work notes left j most = (length work ≡ length work₀)
    × (length notes ≡ length notes₀) × (left ≡ mask / 2 ^ j)
    × Adds wave.bits work₀ work wave.mark count most (Below wave.low s mask j)
    × NotesHold (view wave.rows words) wave.bits wave.low work notes

abbrev decreases_loop : tie.decreases-loop-left
decreases_loop words work₀ notes₀ wave s mask count left₀ j₀ most₀ work notes left j most = left

pub add_all_spec : {M : Type 1} → statement M
add_all_spec =
    tie.close
    (tie.spec
    invariant_loop
    decreases_loop
    (λ c. (
      refl,
      refl,
      omega arith,
      below-start c.requires.0 c.args.wave.low c.args.s c.args.mask,
      c.requires.1,
    ))
    (λ c κs. (
      adds_on c.requires.0 c.loop-left.invariant.3,
      c.loop-left.invariant.4,
      c.requires.2,
      bit_below c.args.mask _ _ (omega arith) c.loop-left.invariant.2 c.loop-left-test.true,
    ))
    (λ c. record {
      fits = let l = bit_below c.args.mask _ _ (omega arith) c.loop-left.invariant.2 c.loop-left-test.true in omega arith;
    })
    (λ c. let t = c.loop-left-test.true in omega arith)
    (λ c. (
      c.settle-most.auto.work ∙ c.loop-left.invariant.0,
      c.settle-most.auto.notes ∙ c.loop-left.invariant.1,
      half-next c.args.mask _ _ c.loop-left.invariant.2,
      below_next c.args.wave.low c.args.s c.args.mask c.loop-left.j c.requires.2 c.loop-left.invariant.2 c.loop-left.invariant.3 c.settle-most.ensures.0,
      c.settle-most.ensures.1,
    ))
    (λ c. c.loop-left.invariant.0)
    (λ c. c.loop-left.invariant.1)
    (λ c. (
      below_end c.args.wave.low c.args.s c.args.mask
          c.loop-left.j c.loop-left.invariant.3 (let e = c.loop-left.invariant.2 in let z = c.loop-left-test.false in omega
          arith),
      c.loop-left.invariant.4,
    )))
