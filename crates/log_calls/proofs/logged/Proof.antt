-- `logged` meets its contract: each check refuses by its cause, and then the search answers. Assumes nothing.
use native.Mathlib.Omega.{arith}
use Rattle.rows.proofs.Says.{says_pass, says_fail}
use Rattle.log_calls.proofs.Checks.{log_sizes, log_unsound, log_range, log_empty, valid_positive, call_asks, call_ends}
use borrow.Author.Rules.{rules}
use Rattle.log_calls.proofs.logged.Statement.{statement}
use Rattle.log_calls.proofs.logged.Tie as tie
use Rattle.log_calls.proofs.logged.Reads as reads
use Rattle.log_calls.proofs.logged.Lts as lts
use Rattle.layout.proofs.header_word.Reads as header-word-reads
use Rattle.log_calls.proofs.logs_fit.Reads as logs-fit-reads
use Rattle.log_calls.proofs.search.Reads as search-reads
use Rattle.soundness.proofs.sound.Reads as sound-reads

pub logged_spec : {M : Type 1} → statement M
logged_spec =
    tie.close
    (tie.spec
    (λ c κs. search rules)
    (λ c. log_sizes c.args.t c.args.one.now c.args.two.now c.args.words.now c.args.list.now (says_fail c.if-not-logs_fit.true-raw c.logs_fit.ensures))
    (λ c κs. search rules)
    (λ c. search rules)
    (λ c. log_unsound c.args.t c.args.one.now c.args.two.now c.args.words.now c.args.list.now (says_pass c.if-not-logs_fit.false-raw
    c.logs_fit.ensures) (says_fail c.if-not-sound.true-raw c.sound.ensures))
    (λ c. search rules)
    (λ c. log_range c.args.t c.args.one.now c.args.two.now c.args.words.now c.args.list.now (says_pass c.if-not-logs_fit.false-raw c.logs_fit.ensures) (says_pass c.if-not-sound.false-raw c.sound.ensures) (λ r. omega (arith, r, c.if-t-ge-RELATIONS.true)))
    (λ c κs. let q = (says_pass c.if-not-sound.false-raw c.sound.ensures).good.sizes in omega arith)
    (λ c κs. let q = (says_pass c.if-not-sound.false-raw c.sound.ensures).good.sizes in omega arith)
    (λ c κs. let q = (says_pass c.if-not-sound.false-raw c.sound.ensures).good.sizes in omega arith)
    (λ c. search rules)
    (λ c κs. let g = c.if-t-ge-RELATIONS.false in let q = (says_pass c.if-not-sound.false-raw c.sound.ensures).good.sizes in omega arith)
    (λ c. search rules)
    (λ c. log_empty c.args.t c.args.one.now c.args.two.now c.args.words.now c.args.list.now (says_pass c.if-not-logs_fit.false-raw c.logs_fit.ensures) (says_pass c.if-not-sound.false-raw c.sound.ensures) c.if-t-ge-RELATIONS.false c.header_word-z.ensures c.if-z-eq0.true)
    (λ c. omega (arith, c.if-z-eq0.false))
    (λ c. valid_positive c.args.one.now c.args.two.now c.args.words.now (says_pass c.if-not-logs_fit.false-raw c.logs_fit.ensures) (says_pass c.if-not-sound.false-raw c.sound.ensures) c.if-t-ge-RELATIONS.false c.header_word-rows.ensures c.header_word-bits.ensures c.header_word-valid.ensures c.header_word-z.ensures c.if-z-eq0.false)
    (λ c κs. call_asks c.args.one.now c.args.two.now c.args.words.now (says_pass c.if-not-logs_fit.false-raw c.logs_fit.ensures) (says_pass c.if-not-sound.false-raw c.sound.ensures) c.if-t-ge-RELATIONS.false c.header_word-rows.ensures c.header_word-bits.ensures c.header_word-valid.ensures c.header_word-z.ensures c.if-z-eq0.false)
    (λ c. search rules)
    (λ c. search rules)
    (λ c. call_ends c.args.one.now c.args.two.now c.args.words.now (says_pass c.if-not-logs_fit.false-raw c.logs_fit.ensures) (says_pass c.if-not-sound.false-raw c.sound.ensures) c.if-t-ge-RELATIONS.false c.header_word-rows.ensures c.header_word-bits.ensures
    c.header_word-valid.ensures c.header_word-z.ensures c.if-z-eq0.false _ c.args.list.now _ c.search.ensures))
