-- `is_open_move` meets its contract: one walk after another. Assumes nothing.
use Rattle.layout.specs.View.{view}
use Rattle.seek.specs.Walk.{holds_at}
use Rattle.game_calls.proofs.Leaves.{open_move-no, open_move-yes}
use borrow.Author.Rules.{rules}
use Rattle.game_calls.proofs.is_open_move.Statement.{statement}
use Rattle.game_calls.proofs.is_open_move.Tie as tie
use Rattle.game_calls.proofs.is_open_move.Reads as reads
use Rattle.game_calls.proofs.is_open_move.Lts as lts

pub is_open_move_spec : {M : Type 1} → statement M
is_open_move_spec =
    tie.close
    (tie.spec
    (λ c κs. search rules)
    (λ c. open_move-no _ (holds_at (view c.args.rows c.args.words.now)
    c.args.guest c.args.state c.args.press) c.holds.ensures c.if-holds.true)
    (λ c κs. search rules)
    (λ c. open_move-yes _ _ c.holds.ensures c.if-holds.false c.holds-2.ensures))
