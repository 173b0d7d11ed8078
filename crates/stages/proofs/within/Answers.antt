-- `within`: no sum is large, and what is compared is the next bound. Assumes nothing.
use Rattle.std.proofs.Common.{◌+◌, ◌*◌, arith}
use Rattle.rows.specs.Says.{holds, fails}
use Rattle.stages.specs.Levels.{MOST, count_of}
use Rattle.stages.proofs.Levels.{sum-le, looking_none, looking_small, looking_next, looking_over, looking_done}
use Rattle.stages.proofs.within.Goals as goal

pub overflow_add-all : goal.overflow_add-all
overflow_add-all c =
    let p = c.requires in
    let l = sum-le (count_of c.args.added.now) MOST (2 * c.args.bits) p.1.few in omega (arith, l, p.3, c.total.ensures)

pub loop-j-init : goal.loop-j-init
loop-j-init c = looking_none _ _ _ _ _

pub overflow_add-next-in-loop-j : goal.overflow_add-next-in-loop-j
overflow_add-next-in-loop-j c =
    let p = c.requires in
    let s = looking_small p.0 p.1 (omega (arith, p.2, p.3, c.loop-j-test.true)) c.loop-j.invariant in
    let f = p.0.few (2 * c.loop-j.j + 1) in
    omega (arith, s.0, s.1, f)

pub overflow_add-next-in-loop-j-3 : goal.overflow_add-next-in-loop-j-3
overflow_add-next-in-loop-j-3 c =
    let p = c.requires in
    let s = looking_small p.0 p.1 (omega (arith, p.2, p.3, c.loop-j-test.true)) c.loop-j.invariant in
    let f = p.0.few (2 * c.loop-j.j + 1) in
    let g = p.0.few (2 * c.loop-j.j + 2) in
    omega (arith, s.0, s.1, f, g)

pub overflow_add-all-in-loop-j : goal.overflow_add-all-in-loop-j
overflow_add-all-in-loop-j c =
    let p = c.requires in
    let s = looking_small p.0 p.1 (omega (arith, p.2, p.3, c.loop-j-test.true)) c.loop-j.invariant in
    let l = sum-le (count_of c.args.added.now) MOST (2 * c.args.bits) p.1.few in
    omega (arith, s.0, s.1, l, p.3, c.total.ensures)

pub overflow_add-all-in-loop-j-2 : goal.overflow_add-all-in-loop-j-2
overflow_add-all-in-loop-j-2 c =
    let p = c.requires in
    let s = looking_small p.0 p.1 (omega (arith, p.2, p.3, c.loop-j-test.true)) c.loop-j.invariant in
    let l = sum-le (count_of c.args.added.now) MOST (2 * c.args.bits) p.1.few in
    let f = p.0.few (2 * c.loop-j.j + 1) in
    let g = p.0.few (2 * c.loop-j.j + 2) in
    omega (arith, s.0, s.1, l, p.3, c.total.ensures, f, g)

pub overflow_add-most : goal.overflow_add-most
overflow_add-most c =
    let p = c.requires in
    let s = looking_small p.0 p.1 (omega (arith, p.2, p.3, c.loop-j-test.true)) c.loop-j.invariant in
    omega (arith, s.0, s.1)

pub returns-then-all-below : goal.returns-then-all-below
returns-then-all-below c =
    fails
    (looking_over c.loop-j.invariant (omega (arith, c.total.ensures)) (omega (arith, c.requires.2, c.loop-j-test.true))
    c.loop-j-test.true c.if-all-below.true)

pub overflow_add-past-in-loop-j-4 : goal.overflow_add-past-in-loop-j-4
overflow_add-past-in-loop-j-4 c =
    let p = c.requires in
    let s = looking_small p.0 p.1 (omega (arith, p.2, p.3, c.loop-j-test.true)) c.loop-j.invariant in
    let h = p.1.few (2 * c.loop-j.j + 2) in
    let i = p.1.few (2 * c.loop-j.j + 3) in
    omega (arith, s.0, s.1, h, i)

pub loop-j-preserved : goal.loop-j-preserved
loop-j-preserved c =
    looking_next c.loop-j.invariant (omega (arith, c.total.ensures)) (omega (arith, c.requires.2, c.loop-j-test.true))
    c.if-all-below.false

pub returns : goal.returns
returns c = holds (looking_done c.loop-j-test.false c.loop-j.invariant)
