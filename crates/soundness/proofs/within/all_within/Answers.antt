-- `all_within`: to lie within V is to be apart from NOT V; where one part fails both do. Assumes nothing.
use Rattle.std.proofs.Common.{arith}
use Rattle.layout.specs.View.{view}
use Rattle.rows.specs.Says.{holds, fails}
use Rattle.rows.proofs.Says.{says_map, says-yes, says-no}
use Rattle.rows.proofs.Within.{within_all}
use Rattle.soundness.proofs.Contained.{roots-not, both_tell, of_roots}
use Rattle.soundness.proofs.within.all_within.Goals as goal

pub returns-then-v-eq-EVERYTHING : goal.returns-then-v-eq-EVERYTHING
returns-then-v-eq-EVERYTHING c = holds (within_all (view c.args.rows c.args.words.now) c.args.v c.if-v-eq-EVERYTHING.true)

pub roots_apart-requires : goal.roots_apart-requires
roots_apart-requires c = rw c.flip-b.ensures (roots-not c.requires (omega arith) (omega arith) (omega arith))

pub roots_apart-requires-then-roots_apart : goal.roots_apart-requires-then-roots_apart
roots_apart-requires-then-roots_apart c = rw c.flip-b.ensures (roots-not c.requires (omega arith) (omega arith) (omega arith))

pub returns-then-roots_apart : goal.returns-then-roots_apart
returns-then-roots_apart c =
    let registers = rw c.flip-b.ensures at (says-yes c.if-roots_apart.true c.roots_apart.ensures) in
    let relations = rw c.flip-b.ensures at c.roots_apart-then-roots_apart.ensures in
    both_tell (view c.args.rows c.args.words.now) c.args.v (says_map (λ r. (registers, r)) (λ q. q.1) relations)

pub returns-else-roots_apart : goal.returns-else-roots_apart
returns-else-roots_apart c =
    let no = rw c.flip-b.ensures at (says-no c.if-roots_apart.false c.roots_apart.ensures) in
    rw c.if-roots_apart.false (fails (λ w. no (of_roots (view c.args.rows c.args.words.now) c.args.v w)))
