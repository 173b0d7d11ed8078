-- `is_spent` meets its contract: it answers yes only where the key stands, with all of the goals. Assumes nothing.
use mathlib.Core.Path.{sym}
use mathlib.Core.Bool.{true≢false}
use native.Mathlib.Omega.{arith}
use Rattle.layout.specs.View.{view}
use Rattle.coin_masks.proofs.ReadsLaws.{level-most}
use Rattle.coin_search.proofs.NotesLaws.{key_met}
use borrow.Author.Rules.{rules}
use Rattle.coin_search.proofs.is_spent.Statement.{statement}
use Rattle.coin_search.proofs.is_spent.Tie as tie
use Rattle.coin_search.proofs.is_spent.Reads as reads
use Rattle.coin_search.proofs.is_spent.Lts as lts

pub is_spent_spec : {M : Type 1} → statement M
is_spent_spec =
    tie.close
    (tie.spec
    (λ c κs. c.requires.0)
    (λ c κs. c.requires.2)
    (λ c. λ e. absurd (true≢false (sym e)))
    (λ c κs. let e = c.before.before.before.before.before in (
      (let m = level-most (view e.args.wave.rows e.args.words.now) e.args.x e.requires.0
          in let l = c.level_of-level.ensures in omega arith),
      e.requires.1.lower,
      e.requires.1.node-small,
    ))
    (λ c. search rules)
    (λ c. search rules)
    (λ c. let s = c.requires.1.size in omega arith)
    (λ c. λ e. absurd (true≢false (sym e)))
    (λ c. search rules)
    (λ c. search rules)
    (λ c. let s = c.requires.1.size in omega arith)
    (λ c. search rules)
    (λ c. let s = c.requires.1.size in omega arith)
    (λ c.
    let e = c.before.before.before.before.before.before.before.before.before.before.before in
    key_met (view e.args.wave.rows e.args.words.now) e.args.x e.args.node e.args.wave.lower
    c.level_of-level.ensures
    c.spent_key-key.ensures _ _ c.if-notes-at.false))
