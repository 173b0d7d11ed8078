-- `apart`: a set with no state shares none. Assumes nothing.
use Rattle.layout.specs.View.{view}
use Rattle.seek.proofs.ApartLaws.{apart-first, apart-second}
use Rattle.seek.proofs.+apart.Goals as goal

pub returns-then-a-eq-NOTHING : goal.returns-then-a-eq-NOTHING
returns-then-a-eq-NOTHING t c = apart-first (view c.args.rows c.args.words.now) _ c.if-a-eq-NOTHING.true

pub returns-then-b-eq-NOTHING : goal.returns-then-b-eq-NOTHING
returns-then-b-eq-NOTHING t c = apart-second (view c.args.rows c.args.words.now) _ c.if-b-eq-NOTHING.true
