-- `react` meets its contract: checks 2, 3 and 14 refuse each by its cause; what follows is `react_named`. Assumes nothing.
use native.Mathlib.Omega.{arith}
use Rattle.rows.proofs.Says.{says_pass, says_fail, test_yes, test_no}
use Rattle.game_calls.proofs.Checks.{states-is, react-unsound, react-range, react-state, react-press}
use Rattle.game_calls.proofs.Checks.{react_unlisted, react-passes}
use borrow.Author.Rules.{rules}
use Rattle.game_calls.proofs.react.Statement.{statement}
use Rattle.game_calls.proofs.react.Tie as tie
use Rattle.game_calls.proofs.react.Reads as reads
use Rattle.game_calls.proofs.react.Lts as lts

pub react_spec : {M : Type 1} → statement M
react_spec =
    tie.close
    (tie.spec
    (λ c κs. search rules)
    (λ c. search rules)
    (λ c. react-unsound c.args.terms c.args.most c.args.goal
    c.args.guest c.args.machine c.args.state c.args.press c.args.words.now (says_fail c.if-not-sound.true-raw
    c.sound.ensures))
    (λ c κs. search rules)
    (λ c. search rules)
    (λ c. react-range c.args.terms c.args.most c.args.goal c.args.guest
    c.args.machine c.args.state c.args.press c.args.words.now (says_pass c.if-not-sound.false-raw c.sound.ensures)
    (test_no c.in_range.ensures c.if-not-in_range.true-raw))
    (λ c κs. let q = (says_pass c.if-not-sound.false-raw c.sound.ensures).good.sizes in omega arith)
    (λ c. let q = (says_pass c.if-not-sound.false-raw c.sound.ensures).good.sizes.n_max in let e = c.header_word-bits.ensures in omega arith)
    (λ c. search rules)
    (λ c. react-state c.args.terms c.args.most c.args.goal c.args.guest
    c.args.machine c.args.state c.args.press c.args.words.now (says_pass c.if-not-sound.false-raw c.sound.ensures)
    (states-is _ _ c.header_word-bits.ensures (says_pass c.if-not-sound.false-raw c.sound.ensures).good.sizes.n_max) c.if-state-states.true)
    (λ c. search rules)
    (λ c. react-press c.args.terms c.args.most c.args.goal c.args.guest
    c.args.machine c.args.state c.args.press c.args.words.now (says_pass c.if-not-sound.false-raw c.sound.ensures)
    (states-is _ _ c.header_word-bits.ensures (says_pass c.if-not-sound.false-raw c.sound.ensures).good.sizes.n_max) c.if-press-states.true)
    (λ c κs. search rules)
    (λ c. search rules)
    (λ c. react_unlisted c.args.terms c.args.most c.args.goal c.args.guest
    c.args.machine c.args.state c.args.press c.args.words.now (says_pass c.if-not-sound.false-raw c.sound.ensures)
    (states-is _ _ c.header_word-bits.ensures (says_pass c.if-not-sound.false-raw c.sound.ensures).good.sizes.n_max)
    (test_yes c.in_range.ensures c.if-not-in_range.false-raw) c.if-state-states.false c.if-press-states.false (test_no c.is_named.ensures c.if-not-is_named.true-raw))
    (λ c κs. react-passes c.args.terms c.args.most c.args.goal c.args.guest
    c.args.machine c.args.state c.args.press c.args.words.now (says_pass c.if-not-sound.false-raw c.sound.ensures)
    (states-is _ _ c.header_word-bits.ensures (says_pass c.if-not-sound.false-raw c.sound.ensures).good.sizes.n_max)
    (test_yes c.in_range.ensures c.if-not-in_range.false-raw) c.if-state-states.false c.if-press-states.false (test_yes c.is_named.ensures c.if-not-is_named.false-raw))
    (λ c. search rules)
    (λ c. c.react_named.ensures))
