-- `least_common`: none where the sets are apart, else the first state that is in both. Assumes nothing.
use Rattle.std.proofs.Common.{◌^◌, sym, ◌∙◌, arith}
use Rattle.layout.specs.View.{view}
use Rattle.seek.specs.Search.{in_both}
use Rattle.seek.proofs.Search.{search-found, search-none, power_fits}
use Rattle.seek.proofs.ApartLaws.{apart_none}
use Rattle.seek.proofs.least_common.Goals as goal

pub returns-then-apart : goal.returns-then-apart
returns-then-apart c =
    apart_none (view c.args.rows c.args.words.now) _ _ (power_fits c.args.n c.requires.2) c.apart.ensures c.if-apart.true

pub returns-then-in_both : goal.returns-then-in_both
returns-then-in_both c =
    let e = power_fits c.args.n c.requires.2 in
    search-found {k = 2 ^ c.args.n} (in_both (view c.args.rows c.args.words.now) c.args.a c.args.b) _
    (omega arith) c.loop-s.invariant (sym c.in_both.ensures ∙ c.if-in_both.true)

pub returns : goal.returns
returns c =
    search-none (in_both (view c.args.rows c.args.words.now) c.args.a c.args.b) _
    (power_fits c.args.n c.requires.2) c.loop-s-test.false c.loop-s.invariant
