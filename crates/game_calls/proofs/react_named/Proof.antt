-- `react_named` meets its contract: check 7, then the rounds. Assumes nothing.
use mathlib.Core.Path.{refl}
use native.Mathlib.Omega.{arith}
use Rattle.games.proofs.Call.{ranges_out}
use Rattle.game_calls.proofs.Checks.{react-goal, react-guest, react-machine, react-asks, react-ends}
use borrow.Author.Rules.{rules}
use Rattle.game_calls.proofs.react_named.Statement.{statement}
use Rattle.game_calls.proofs.react_named.Tie as tie
use Rattle.game_calls.proofs.react_named.Reads as reads
use Rattle.game_calls.proofs.react_named.Lts as lts

pub react_named_spec : {M : Type 1} → statement M
react_named_spec =
    tie.close
    (tie.spec
    (λ c. search rules)
    (λ c κs. let g = (ranges_out c.args.goal c.args.guest c.args.machine
    c.requires.ranges).goal_in in let q = c.requires.sound.good.sizes in omega arith)
    (λ c. search rules)
    (λ c. let g = (ranges_out c.args.goal c.args.guest c.args.machine
    c.requires.ranges).guest_in in let q = c.requires.sound.good.sizes in omega arith)
    (λ c. search rules)
    (λ c. let g = (ranges_out c.args.goal c.args.guest c.args.machine c.requires.ranges).machine_in in
    let q = c.requires.sound.good.sizes in omega arith)
    (λ c. search rules)
    (λ c. react-goal c.args.terms
    c.args.most c.args.goal c.args.guest c.args.machine c.args.state c.args.press c.args.words.now
    c.requires.sound refl c.requires.ranges c.requires.state c.requires.press c.requires.listed c.header_word-x.ensures
    c.if-x-eq0.true)
    (λ c. search rules)
    (λ c. react-guest
    c.args.terms c.args.most c.args.goal c.args.guest c.args.machine c.args.state c.args.press
    c.args.words.now c.requires.sound refl c.requires.ranges c.requires.state c.requires.press c.requires.listed
    c.header_word-y.ensures c.if-y-eq0.true)
    (λ c. search rules)
    (λ c. react-machine
    c.args.terms c.args.most c.args.goal c.args.guest c.args.machine c.args.state c.args.press
    c.args.words.now c.requires.sound refl c.requires.ranges c.requires.state c.requires.press c.requires.listed
    c.header_word-z.ensures c.if-z-eq0.true)
    (λ c. omega (arith, c.if-x-eq0.false))
    (λ c. omega (arith, c.if-y-eq0.false))
    (λ c. omega (arith, c.if-z-eq0.false))
    (λ c κs. react-asks c.args.terms c.args.most
    c.args.goal c.args.guest c.args.machine c.args.state c.args.press c.args.words.now
    c.requires.sound refl c.requires.ranges c.requires.state c.requires.press c.requires.listed c.header_word-x.ensures
    c.header_word-y.ensures c.header_word-z.ensures c.if-x-eq0.false c.if-y-eq0.false c.if-z-eq0.false)
    (λ c. search rules)
    (λ c. react-ends c.args.terms c.args.most c.args.goal c.args.guest
    c.args.machine c.args.state c.args.press c.args.words.now c.requires.sound refl c.requires.ranges
    c.requires.state c.requires.press c.requires.listed c.header_word-x.ensures c.header_word-y.ensures
    c.header_word-z.ensures c.if-x-eq0.false c.if-y-eq0.false c.if-z-eq0.false _ c.reacting.ensures))
