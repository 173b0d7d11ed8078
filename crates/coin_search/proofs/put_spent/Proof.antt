-- `put_spent` meets its contract: nothing, or the key and its goals. Assumes nothing.
use native.Mathlib.Omega.{arith}
use Rattle.layout.specs.View.{view}
use Rattle.coin_masks.proofs.ReadsLaws.{level-most}
use Rattle.coin_search.specs.Notes.{none}
use Rattle.coin_search.proofs.NotesLaws.{key_put}
use borrow.Author.Rules.{rules}
use Rattle.coin_search.proofs.put_spent.Statement.{statement}
use Rattle.coin_search.proofs.put_spent.Tie as tie
use Rattle.coin_search.proofs.put_spent.Reads as reads
use Rattle.coin_search.proofs.put_spent.Lts as lts

pub put_spent_spec : {M : Type 1} → statement M
put_spent_spec =
    tie.close
    (tie.spec
    (λ c κs. c.requires.0)
    (λ c κs. c.requires.2)
    (λ c. none)
    (λ c κs. (
      (let m = level-most (view c.args.wave.rows c.args.words.now) c.args.x c.requires.0
          in let l = c.level_of-level.ensures in omega arith),
      c.requires.1.lower,
      c.requires.1.node-small,
    ))
    (λ c κs. (c.requires.1.size, omega arith))
    (λ c. search rules)
    (λ c. search rules)
    (λ c κs. let s = c.requires.1.size in (omega arith, omega arith))
    (λ c. search rules)
    (λ c.
    key_put (view c.args.wave.rows c.args.words.now) c.args.x c.args.node c.args.wave.lower
    c.level_of-level.ensures
    c.spent_key-key.ensures _ _
    c.goals_with-goals.ensures c.put_pair.ensures))
