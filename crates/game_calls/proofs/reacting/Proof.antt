-- `reacting` meets its contract: the rounds, and what they tell. Assumes nothing.
use Rattle.game_calls.proofs.Leaves.{open_move-asks, bytes-made, game_asks, freeing, game_done}
use borrow.Author.Rules.{rules}
use Rattle.game_calls.proofs.reacting.Statement.{statement}
use Rattle.game_calls.proofs.reacting.Tie as tie
use Rattle.game_calls.proofs.reacting.Reads as reads
use Rattle.game_calls.proofs.reacting.Lts as lts

pub reacting_spec : {M : Type 1} → statement M
reacting_spec =
    tie.close
    (tie.spec
    (λ c κs. search rules)
    (λ c κs. search rules)
    (λ c κs. search rules)
    (λ c κs. search rules)
    (λ c κs. open_move-asks c.requires
    c.header_word-rows.ensures)
    (λ c κs. search rules)
    (λ c. search rules)
    (λ c κs. game_asks c.requires c.args.terms c.args.most
    c.header_word-rows.ensures c.header_word-bits.ensures c.rows_under.ensures c.rounds_under.ensures
    (bytes-made c.requires c.game_bytes-bytes.ensures) c.is_open_move-open_move.ensures)
    (λ c κs. freeing c.requires c.args.terms c.args.most c.header_word-rows.ensures
    c.header_word-bits.ensures c.rows_under.ensures c.rounds_under.ensures (bytes-made c.requires c.game_bytes-bytes.ensures)
    c.is_open_move-open_move.ensures c.iterate_rounds-iterated.ensures)
    (λ c κs. search rules)
    (λ c. search rules)
    (λ c. game_done c.requires c.args.terms c.args.most
    c.header_word-rows.ensures c.header_word-bits.ensures c.rows_under.ensures c.rounds_under.ensures
    (bytes-made c.requires c.game_bytes-bytes.ensures) c.is_open_move-open_move.ensures c.iterate_rounds-iterated.ensures
    c.free_many.ensures c.respond.ensures))
