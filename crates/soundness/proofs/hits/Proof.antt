-- `hits` meets its contract: each turn is one step of the walk, of which there are few. Assumes nothing.
use mathlib.Core.Path.{sym}
use native.Mathlib.Omega.{arith}
use Rattle.layout.specs.View.{view}
use Rattle.rows.specs.Used.{used}
use Rattle.rows.specs.Index.{Link, Hit}
use Rattle.rows.proofs.Says.{says-yes, says-no}
use Rattle.soundness.specs.Walks.{met, missed, long}
use Rattle.rows.proofs.Lookup.{hit_zero, hit_stop, hit_skip, stop_hit, skip_hit}
use Rattle.soundness.proofs.Checks.{link_row, link_next}
use Rattle.soundness.proofs.hits.Statement.{statement}
use Rattle.soundness.proofs.hits.Tie as tie

abbrev invariant_loop : tie.invariant-loop-p
invariant_loop words rows link level low high i p₀ left₀ p left =
    Link (used (view rows words)) p × (Hit (view rows words) level low high p i → Hit (view rows words) level low high link i)
    × (Hit (view rows words) level low high link i → Hit (view rows words) level low high p i)

abbrev decreases_loop : tie.decreases-loop-p
decreases_loop words rows link level low high i p₀ left₀ p left = left

pub hits_spec : {M : Type 1} → statement M
hits_spec =
    tie.close
    (tie.spec
    invariant_loop
    decreases_loop
    (λ c. (c.requires.1, (λ h. h), (λ h. h)))
    (λ c. omega arith)
    (λ c κs. let z = c.requires.0 in
    let l = link_row z c.loop-p-test.true c.loop-p.invariant.0 in let r = z.room in omega arith)
    (λ c. met
    (c.loop-p.invariant.1
    (stop_hit _ _ _ _ _ _ c.loop-p-test.true
    (says-yes c.if-same_row.true c.same_row.ensures) (sym c.if-j-i.true))))
    (λ c. missed
    (λ q. c.if-j-i.false
    (sym (hit_stop c.loop-p-test.true
    (says-yes c.if-same_row.true c.same_row.ensures) (c.loop-p.invariant.2 q)))))
    (λ c. long)
    (λ c. omega arith)
    (λ c κs. let z = c.requires.0 in
    let l = link_row z c.loop-p-test.true c.loop-p.invariant.0 in
    let r = z.room in omega arith)
    (λ c. let n = c.if-left-eq0.false in omega arith)
    (λ c. let n = c.loop-p-test.true in
    let v = c.loop-p.invariant in
    let h = says-no c.if-same_row.false c.same_row.ensures in
    rw c.get-p.ensures (
      link_next c.requires.0 n v.0,
      (λ q. v.1 (skip_hit _ _ _ _ _ _ n h q)),
      (λ q. hit_skip n h (v.2 q)),
    ))
    (λ c. missed (λ q. hit_zero (c.loop-p.invariant.2 q) c.loop-p-test.false)))
