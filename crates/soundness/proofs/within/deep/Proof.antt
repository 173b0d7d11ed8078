-- `deep` meets its contract: an arrow's level is its row's. Assumes nothing.
use native.Mathlib.Omega.{arith}
use Rattle.layout.specs.View.{view}
use Rattle.soundness.proofs.Contained.{row_at, level-read, deep-yes, deep-no}
use Rattle.soundness.proofs.within.deep.Statement.{statement}
use Rattle.soundness.proofs.within.deep.Tie as tie

pub deep_spec : {M : Type 1} → statement M
deep_spec =
    tie.close
    (tie.spec (λ c κs. c.requires.2) (λ c κs. let c1 = c.before.before in
    let r = row_at (view c1.args.rows c1.args.words.now) _ c1.requires.0 c1.requires.1 c1.requires.2 in let h = r.row in
    let e = c.row_of.ensures in (omega arith, omega arith, c1.requires.0.sizes.room))
    (λ c. let c1 = c.before.before.before.before in deep-no (view c1.args.rows c1.args.words.now) _ (level-read (view
    c1.args.rows c1.args.words.now) _ c1.requires.0 c1.requires.1 c1.requires.2 c.row_of.ensures
    c.get.ensures) c.if-get-base.true) (λ c. let c1 = c.before.before.before.before in
    deep-yes (view c1.args.rows c1.args.words.now) _ (level-read (view c1.args.rows c1.args.words.now) _
    c1.requires.0 c1.requires.1 c1.requires.2 c.row_of.ensures c.get.ensures) c.if-get-base.false))
