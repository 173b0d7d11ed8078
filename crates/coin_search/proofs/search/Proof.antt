-- `search` meets its contract: one law for each call and return. Assumes nothing.
use borrow.Author.Rules.{rules}
use mathlib.Core.Path.{◌≡◌, refl, ◌∙◌}
use Prim.Native.Nat.{ℕ, ◌^◌}
use native.Mathlib.Omega.{arith}
use lib.ListN.{length, length-set, length-replicate}
use Rattle.layout.specs.View.{view}
use Rattle.coin_search.specs.Notes.{NotesHold}
use Rattle.coin_search.proofs.Nodes.{power_is}
use Rattle.coin_search.proofs.NotesLaws.{notes-start}
use Rattle.coin_search.proofs.Hall.{hall-moved}
use Rattle.coin_search.proofs.SearchLaws.{zeros-at, leftover, Turning, clear-asks, start_bare, started-places, started-placed}
use Rattle.coin_search.proofs.SearchLaws.{first-post, turning_start, none-post, in-eight, next_small, turn-asks, more-places}
use Rattle.coin_search.proofs.SearchLaws.{more-placed, turn-post, turning_next, turn-less}
use Rattle.coin_search.proofs.search.Statement.{statement}
use Rattle.coin_search.proofs.search.Tie as tie
use Rattle.coin_search.proofs.search.Reads as reads
use Rattle.coin_search.proofs.search.Lts as lts
use Rattle.coin_search.proofs.choose.Reads as choose-reads
use Rattle.coin_search.proofs.clear.Reads as clear_reads
use Rattle.coin_search.proofs.first_in.Reads as first-in-reads
use Rattle.coin_search.proofs.low_bits.Reads as low-bits-reads
use Rattle.coin_search.proofs.start.Reads as start-reads
use Rattle.coin_search.proofs.turn.Reads as turn-reads

abbrev invariant_loop : tie.invariant-loop-r
invariant_loop words rows bits prices work₀ a b states count₀ first low notes₀ done₀ r₀ work count notes done r = (length work ≡
    length work₀) × Turning (view rows words) bits prices work done a b count r × NotesHold (view rows words) bits low work
    notes

abbrev decreases_loop : tie.decreases-loop-r
decreases_loop words rows bits prices work₀ a b states count₀ first low notes₀ done₀ r₀ work count notes done r = leftover (2 ^ bits) done

pub search_spec : {M : Type 1} → statement M
search_spec =
    tie.close
    (tie.spec
    invariant_loop
    decreases_loop
    (λ c. let b = c.requires.0.hall.small in omega arith)
    (λ c κs. clear-asks c.requires.0 (power_is c.args.bits
    c.requires.0.hall.small))
    (λ c κs. (
      c.requires.0.into,
      start_bare c.requires.0 (power_is c.args.bits c.requires.0.hall.small) c.clear.ensures,
    ))
    (λ c κs. (
      c.requires.0.from,
      started-places c.start-count.ensures,
    ))
    (λ c. c.start-count.auto.work ∙ c.clear.auto.work)
    (λ c. first-post c.start-count.ensures _ _ c.first_in-first.ensures c.if-first-ne-NO_STATE.true)
    (λ c κs. c.requires.0.hall.small)
    (λ c. search rules)
    (λ c κs. (
      c.requires.1,
      c.requires.0.hall.priced,
      refl,
      started-placed c.start-count.ensures,
    ))
    (λ c. (
      refl,
      turning_start c.start-count.ensures _
          (hall-moved c.requires.0.hall (c.start-count.auto.work ∙ c.clear.auto.work)) (λ q. let k = (c.shared_slice_known-2-1.given q).fits in omega arith) c.first_in-first.ensures c.if-first-ne-NO_STATE.false (zeros-at 8)
          refl c.choose-r.ensures,
      notes-start c.low_bits-low.ensures (length-replicate {A = ℕ} 7365 0)
          (zeros-at 7365),
    ))
    (λ c. let l = c.loop-r.invariant.1.most in record { fits = omega arith })
    (λ c. let h = c.loop-r.invariant.2.masks.size in search rules)
    (λ c. let l = c.loop-r.invariant.1.most in omega arith)
    (λ c. let l = in-eight c.loop-r.invariant.1 c.loop-r-test.true in let e = c.loop-r.invariant.1.eight in omega arith)
    (λ c κs. (
      turn-asks c.loop-r.invariant.1 c.loop-r-test.true,
      c.requires.1,
      c.loop-r.invariant.2,
    ))
    (λ c. let l = c.loop-r.invariant.1.most in omega arith)
    (λ c. let l = in-eight c.loop-r.invariant.1 c.loop-r-test.true in let e = c.loop-r.invariant.1.eight in omega arith)
    (λ c. let s = next_small c.loop-r.invariant.1 c.loop-r-test.true in record { fits = omega arith })
    (λ c. let l = c.loop-r.invariant.1.most in omega arith)
    (λ c. let l = in-eight c.loop-r.invariant.1 c.loop-r-test.true in let e = c.loop-r.invariant.1.eight in omega arith)
    (λ c κs. (
      c.requires.0.from,
      more-places c.loop-r.invariant.1 c.loop-r-test.true c.turn-more.ensures.0,
    ))
    (λ c. c.turn-more.auto.work ∙ c.loop-r.invariant.0 ∙ c.start-count.auto.work ∙ c.clear.auto.work)
    (λ c. turn-post c.loop-r.invariant.1 c.loop-r-test.true c.turn-more.ensures.0 c.first_in-s.ensures c.if-s-ne-NO_STATE.true)
    (λ c. search rules)
    (λ c κs. (
      c.requires.1,
      c.requires.0.hall.priced,
      (let e = c.loop-r.invariant.1.eight in simp length-set e),
      more-placed c.loop-r.invariant.1 c.loop-r-test.true c.turn-more.ensures.0,
    ))
    (λ c. turn-less c.loop-r.invariant.1 c.loop-r-test.true c.turn-more.ensures.0)
    (λ c. (
      c.turn-more.auto.work ∙ c.loop-r.invariant.0,
      turning_next c.loop-r.invariant.1 c.loop-r-test.true c.turn-more.ensures.0 c.first_in-s.ensures c.if-s-ne-NO_STATE.false c.choose-r-in-loop-r.ensures,
      c.turn-more.ensures.1,
    ))
    (λ c. c.loop-r.invariant.0 ∙ c.start-count.auto.work ∙ c.clear.auto.work)
    (λ c. none-post c.loop-r.invariant.1 c.loop-r-test.false))
