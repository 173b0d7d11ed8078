-- `find` meets its contract: the invariant is that every used row with these words lies ahead on the chain. Assumes nothing.
use Prim.Native.Nat.{◌-◌}
use native.Mathlib.Omega.{arith}
use Rattle.layout.specs.Places.{NEXT, RANK}
use Rattle.layout.specs.View.{view}
use Rattle.rows.specs.Used.{used}
use Rattle.rows.proofs.Index.{live_link, down_link}
use Rattle.rows.specs.Index.{Link}
use Rattle.rows.proofs.Says.{says-yes, says-no}
use Rattle.rows.proofs.Lookup.{hit_zero, hit_skip, height-falls, link_used, used_row}
use Rattle.rows.specs.Lookup.{height}
use Rattle.table.proofs.FindLaws.{Ahead, find-start, good-room}
use Rattle.table.proofs.find.Statement.{statement}
use Rattle.table.proofs.find.Tie as tie

abbrev invariant_loop : tie.invariant-loop-p
invariant_loop words rows level low high p₀ p = Link (used (view rows words)) p × Ahead (view rows words) level low high p

abbrev decreases_loop : tie.decreases-loop-p
decreases_loop words rows level low high p₀ p = height (view rows words) p

pub find_spec : {M : Type 1} → statement M
find_spec =
    tie.close
    (tie.spec
    invariant_loop
    decreases_loop
    (λ c κs. let z = c.requires.sizes in omega arith)
    (λ c κs. (c.bucket_of.ensures.1, good-room _ c.requires))
    (λ c. rw (c.first-p.ensures, c.bucket_of.ensures.0) (
      live_link _ _,
      find-start (view c.args.rows c.args.words.now) _ _ _
          c.requires.index,
    ))
    (λ c. omega arith)
    (λ c κs. let u =
    used_row
    (view c.args.rows c.args.words.now) _
    (link_used
    (view c.args.rows c.args.words.now) _
    c.loop-p-test.true c.loop-p.invariant.0) in let z = c.requires.sizes in omega arith)
    (λ c. (
      link_used
          (view c.args.rows
          c.args.words.now) _ c.loop-p-test.true
          c.loop-p.invariant.0,
      says-yes c.if-same_row.true c.same_row.ensures,
    ))
    (λ c κs. let u =
    used_row
    (view c.args.rows
    c.args.words.now) _
    (link_used
    (view c.args.rows
    c.args.words.now) _ c.loop-p-test.true
    c.loop-p.invariant.0) in
    let z = c.requires.sizes in omega arith)
    (λ c. rw c.get-p.ensures
    (height-falls
    (view c.args.rows
    c.args.words.now) c.loop-p.p
    ((view c.args.rows
    c.args.words.now).cell
    (c.loop-p.p - 1) NEXT) c.loop-p-test.true
    (c.requires.index.nexts
    (c.loop-p.p - 1)
    (link_used
    (view c.args.rows
    c.args.words.now) _
    c.loop-p-test.true c.loop-p.invariant.0))))
    (λ c. let n = c.loop-p-test.true in
    let v = c.loop-p.invariant in
    let h = says-no c.if-same_row.false c.same_row.ensures in
    rw c.get-p.ensures (
      down_link
          (view c.args.rows
          c.args.words.now)
          ((view c.args.rows
          c.args.words.now).cell
          (c.loop-p.p - 1) RANK)
          ((view c.args.rows
          c.args.words.now).cell
          (c.loop-p.p - 1) NEXT)
          (c.requires.index.nexts
          (c.loop-p.p - 1)
          (link_used
          (view c.args.rows
          c.args.words.now) _ n v.0)),
      (λ i u s. hit_skip n h (v.1 i u s)),
    ))
    (λ c. λ j u h. hit_zero (c.loop-p.invariant.1 j u h) c.loop-p-test.false))
