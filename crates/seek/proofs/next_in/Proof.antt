use mathlib.Core.Path.{◌∙◌}
use Rattle.layout.specs.View.{view}
use Rattle.seek.specs.Walk.{holds_at}
use Rattle.seek.proofs.Search.{both-no, both_yes, swap}
use borrow.Author.Rules.{rules}
use Rattle.seek.proofs.next_in.Statement.{statement}
use Rattle.seek.proofs.next_in.Tie as tie
use Rattle.seek.proofs.next_in.Reads as reads
use Rattle.seek.proofs.next_in.Lts as lts
use Rattle.seek.proofs.holds.Reads as holds-reads

pub next_in_spec : {M : Type 1} → statement M
next_in_spec =
    tie.close
    (tie.spec (λ c κs. search rules)
    (λ c. both-no
    (holds_at (view c.args.rows c.args.words.now)
    c.args.b c.args.t 0)
    (holds_at (view c.args.rows c.args.words.now)
    c.args.r c.args.s c.args.t) c.if-not-holds.true-raw
    c.holds.ensures
    ∙ swap (holds_at (view c.args.rows c.args.words.now)
    c.args.b c.args.t 0)
    (holds_at (view c.args.rows c.args.words.now)
    c.args.r c.args.s c.args.t)) (λ c κs. search rules)
    (λ c. both_yes
    (holds_at (view c.args.rows c.args.words.now)
    c.args.b c.args.t 0)
    (holds_at (view c.args.rows c.args.words.now)
    c.args.r c.args.s c.args.t)
    c.if-not-holds.false-raw c.holds.ensures c.holds-2.ensures
    ∙ swap (holds_at (view c.args.rows c.args.words.now)
    c.args.b c.args.t 0)
    (holds_at (view c.args.rows c.args.words.now)
    c.args.r c.args.s
    c.args.t)))
