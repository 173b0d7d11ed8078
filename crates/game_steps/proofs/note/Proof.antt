-- `note` meets its contract: each return is a case of what is noted. Assumes nothing.
use Rattle.layout.specs.View.{view}
use Rattle.game_steps.proofs.Standing.{note_shut, note-kept, note-none, note-found}
use borrow.Author.Rules.{rules}
use Rattle.game_steps.proofs.note.Statement.{statement}
use Rattle.game_steps.proofs.note.Tie as tie
use Rattle.game_steps.proofs.note.Reads as reads
use Rattle.game_steps.proofs.note.Lts as lts

pub note_spec : {M : Type 1} → statement M
note_spec =
    tie.close
    (tie.spec
    (λ c. let c3 = c.before.before.before in note_shut c3.args.limits.bits (view c3.args.limits.rows
    c3.args.words.now) c3.args.asked c3.args.noted c3.args.last c3.args.next c.if-not-asked.true)
    (λ c κs. search rules)
    (λ c. let c1 = c.before in let c2 = c1.before in let c5 = c2.before.before.before in note-kept c5.args.limits.bits
    (view c5.args.limits.rows c5.args.words.now) c5.args.asked c5.args.noted c5.args.last c5.args.next
    c2.if-not-asked.false c1.holds.ensures c.if-holds.true)
    (λ c κs. search rules)
    (λ c. let c1 = c.before in let c2 = c1.before in let c3 = c2.before in let c4 = c3.before in
    let c7 = c4.before.before.before in note-none c7.args.limits.bits (view c7.args.limits.rows c7.args.words.now)
    c7.args.asked c7.args.noted c7.args.last c7.args.next c4.if-not-asked.false c3.holds.ensures c2.if-holds.false
    c1.holds-2.ensures c.if-not-holds.true-raw)
    (λ c κs. search rules)
    (λ c. let c1 = c.before in let c2 = c1.before in let c3 = c2.before in let c4 = c3.before in let c5 = c4.before in
    let c8 = c5.before.before.before in note-found c8.args.limits.bits (view c8.args.limits.rows c8.args.words.now)
    c8.args.asked c8.args.noted c8.args.last c8.args.next c5.if-not-asked.false c4.holds.ensures c3.if-holds.false
    c2.holds-2.ensures c1.if-not-holds.false-raw c.least_next.ensures))
