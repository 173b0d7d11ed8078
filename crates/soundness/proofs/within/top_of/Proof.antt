-- `top_of` meets its contract: an arrow's level is its row's. Assumes nothing.
use native.Mathlib.Omega.{arith}
use Rattle.layout.specs.View.{view}
use Rattle.soundness.proofs.Contained.{row_at, level-read}
use borrow.Author.Rules.{rules}
use Rattle.soundness.proofs.within.top_of.Statement.{statement}
use Rattle.soundness.proofs.within.top_of.Tie as tie

pub top_of_spec : {M : Type 1} → statement M
top_of_spec =
    tie.close
    (tie.spec (λ c κs. search rules) (λ c κs. let c1 = c.before.before in
    let r = row_at (view c1.args.rows c1.args.words.now) _ c1.requires.0 c1.requires.1 c1.requires.2 in let h = r.row in
    let e = c.row_of.ensures in (omega arith, omega arith, c1.requires.0.sizes.room)) (λ c. let c1 = c.before.before.before in
    let r = row_at (view c1.args.rows c1.args.words.now) _ c1.requires.0 c1.requires.1 c1.requires.2 in let l = r.level in
    let h = r.shallow in let n = c1.requires.0.sizes.n_max in let s = c1.requires.3 in
    let z = level-read (view c1.args.rows c1.args.words.now) _ c1.requires.0 c1.requires.1 c1.requires.2
    c.row_of.ensures c.get.ensures in omega arith) (λ c. let c1 = c.before.before.before in
    let z = level-read (view c1.args.rows c1.args.words.now) _ c1.requires.0 c1.requires.1 c1.requires.2
    c.row_of.ensures c.get.ensures in omega arith))
