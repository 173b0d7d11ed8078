use Rattle.layout.specs.View.{view}
use Rattle.seek.specs.Walk.{holds_at}
use Rattle.seek.proofs.Search.{both-no, both_yes}
use borrow.Author.Rules.{rules}
use Rattle.seek.proofs.in_both.Statement.{statement}
use Rattle.seek.proofs.in_both.Tie as tie
use Rattle.seek.proofs.in_both.Reads as reads
use Rattle.seek.proofs.in_both.Lts as lts
use Rattle.seek.proofs.holds.Reads as holds-reads

pub in_both_spec : {M : Type 1} → statement M
in_both_spec =
    tie.close
    (tie.spec (λ c κs. search rules)
    (λ c. both-no _
    (holds_at (view c.args.rows c.args.words.now)
    c.args.b c.args.s 0) c.if-not-holds.true-raw c.holds.ensures)
    (λ c κs. search rules) (λ c. both_yes _ _ c.if-not-holds.false-raw c.holds.ensures c.holds-2.ensures))
