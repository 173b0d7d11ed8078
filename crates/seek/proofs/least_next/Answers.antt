-- `least_next`: the first state that is a next one within the set. Assumes nothing.
use Rattle.std.proofs.Common.{◌^◌, sym, ◌∙◌, arith}
use Rattle.layout.specs.View.{view}
use Rattle.seek.specs.Search.{next_in}
use Rattle.seek.proofs.Search.{search-found, search-none, power_fits}
use Rattle.seek.proofs.least_next.Goals as goal

pub returns-then-next_in : goal.returns-then-next_in
returns-then-next_in c =
    let e = power_fits c.args.n c.requires.2 in
    search-found {k = 2 ^ c.args.n} (next_in (view c.args.rows c.args.words.now) c.args.r c.args.s c.args.b) _
    (omega arith) c.loop-t.invariant (sym c.next_in.ensures ∙ c.if-next_in.true)

pub returns : goal.returns
returns c =
    search-none (next_in (view c.args.rows c.args.words.now) c.args.r c.args.s c.args.b) _
    (power_fits c.args.n c.requires.2) c.loop-t-test.false c.loop-t.invariant
