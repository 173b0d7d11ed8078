-- `obey_all` obeys a record at a time; the invariant is `Progress`, and that it is known whether the words are sound. Assumes nothing.
use mathlib.Core.Path.{◌≡◌, refl, ◌∙◌}
use Prim.Native.Nat.{◌-◌}
use native.Mathlib.Omega.{arith}
use lib.ListN.{length, length-drop}
use Rattle.rows.specs.Says.{Says}
use Rattle.contract.specs.Seen.{SoundWords}
use Rattle.player.proofs.Passes.{next-at, readable_at}
use Rattle.player.proofs.Chained.{Progress, progress-none, progress-next, progress-all, room_at}
use borrow.Author.Rules.{rules}
use Rattle.player.proofs.obey_all.Statement.{statement}
use Rattle.player.proofs.obey_all.Tie as tie

abbrev invariant_loop : tie.invariant-loop-at
invariant_loop words₀ bytes list₀ sound₀ at₀ next₀ words list sound at next =
    Progress bytes words₀ list₀ at next words list × (length words ≡ length words₀) × (length list ≡ length list₀)
    × Says (SoundWords words) sound

abbrev decreases_loop : tie.decreases-loop-at
decreases_loop words₀ bytes list₀ sound₀ at₀ next₀ words list sound at next = length bytes - at

pub obey_all_spec : {M : Type 1} → statement M
obey_all_spec =
    tie.close
    (tie.spec
    invariant_loop
    decreases_loop
    (λ c κs. search rules)
    (λ c. (progress-none _ _ _, refl, refl, c.sound-is_sound.ensures))
    (λ c. search rules)
    (λ c. search rules)
    (λ c. search rules)
    (λ c κs. let p = c.loop-at.invariant in
    let (cs, e, room) = c.requires in
    let r = readable_at p.0.passed (cs, e) c.loop-at-test.true in
    (r.0, r.1, omega (arith, room_at p.0 e room c.loop-at-test.true, p.2), p.3))
    (λ c. let n =
    next-at
    c.args.bytes.now _ c.obey_next-step.ensures.0 in
    omega (
      arith,
      n.within,
      length-drop c.loop-at.at
          c.args.bytes.now,
      c.loop-at.invariant.0.passed.within,
    ))
    (λ c. let (cs, e, room) =
    c.requires in
    omega (
      arith,
      room_at c.loop-at.invariant.0 e room
          c.loop-at-test.true,
      c.well_formed,
    ))
    (λ c. let n =
    next-at
    c.args.bytes.now _ c.obey_next-step.ensures.0 in
    omega (arith, n.size, c.loop-at-test.true))
    (λ c. let n =
    next-at
    c.args.bytes.now _ c.obey_next-step.ensures.0 in (
      progress-next _ n.entry c.loop-at.invariant.0
          c.loop-at-test.true n.read n.size n.within
          n.obeyed n.listed,
      c.obey_next-step.auto.words
          ∙ c.loop-at.invariant.1,
      c.obey_next-step.auto.list
          ∙ c.loop-at.invariant.2,
      c.obey_next-step.ensures.1,
    ))
    (λ c. c.loop-at.invariant.1)
    (λ c. c.loop-at.invariant.2)
    (λ c. progress-all c.loop-at.invariant.0 c.loop-at-test.false))
