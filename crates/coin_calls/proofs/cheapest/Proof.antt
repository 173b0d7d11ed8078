-- `cheapest` meets its contract: each check refuses by its cause, and then the search and the writing answer. Assumes nothing.
use mathlib.Core.Path.{sym}
use native.Mathlib.Omega.{arith}
use lib.Seq.{length-take-le}
use Rattle.rows.proofs.Says.{says_pass, says_fail}
use Rattle.coin_calls.proofs.Checks.{fare_prices, fare_unsound, fare_work, fare_range, fare_first, fare_second, few_bits, work_short}
use Rattle.coin_calls.proofs.Checks.{work_long, states-eq, call_asks, fare_ends}
use borrow.Author.Rules.{rules}
use Rattle.coin_calls.proofs.cheapest.Statement.{statement}
use Rattle.coin_calls.proofs.cheapest.Tie as tie
use Rattle.coin_calls.proofs.cheapest.Reads as reads
use Rattle.coin_calls.proofs.cheapest.Lts as lts

pub cheapest_spec : {M : Type 1} → statement M
cheapest_spec =
    tie.close
    (tie.spec
    (λ c. search rules)
    (λ c. fare_prices c.args.a c.args.b c.args.words.now c.args.prices.now c.args.work.now c.args.states.now c.args.relations.now c.if-prices.true)
    (λ c κs. search rules)
    (λ c. fare_unsound c.args.a c.args.b c.args.words.now c.args.prices.now c.args.work.now c.args.states.now c.args.relations.now c.if-prices.false (says_fail c.if-not-sound.true-raw c.sound.ensures))
    (λ c κs. let q = (says_pass c.if-not-sound.false-raw c.sound.ensures).good.sizes in omega arith)
    (λ c κs. let q = (says_pass c.if-not-sound.false-raw c.sound.ensures).good.sizes in omega arith)
    (λ c. search rules)
    (λ c. let l = few_bits c.args.words.now
    (says_pass c.if-not-sound.false-raw c.sound.ensures) c.header_word-bits.ensures in omega arith)
    (λ c. fare_work c.args.a c.args.b c.args.words.now c.args.prices.now c.args.work.now c.args.states.now c.args.relations.now c.if-prices.false (says_pass c.if-not-sound.false-raw c.sound.ensures) (work_short c.args.words.now (says_pass c.if-not-sound.false-raw c.sound.ensures) c.header_word-bits.ensures c.if-work-all.true))
    (λ c. fare_range c.args.a c.args.b c.args.words.now c.args.prices.now c.args.work.now c.args.states.now c.args.relations.now c.if-prices.false (says_pass c.if-not-sound.false-raw c.sound.ensures) (work_long c.args.words.now (says_pass c.if-not-sound.false-raw c.sound.ensures) c.header_word-bits.ensures
    c.if-work-all.false) (λ r. omega (arith, r.first, c.if-a-ge-REGISTERS.true)))
    (λ c. fare_range c.args.a
    c.args.b c.args.words.now c.args.prices.now c.args.work.now c.args.states.now c.args.relations.now c.if-prices.false (says_pass c.if-not-sound.false-raw c.sound.ensures) (work_long c.args.words.now (says_pass c.if-not-sound.false-raw c.sound.ensures) c.header_word-bits.ensures c.if-work-all.false) (λ r. omega (arith, r.second, c.if-b-ge-REGISTERS.true)))
    (λ c. search rules)
    (λ c κs. let g = c.if-a-ge-REGISTERS.false in let q = (says_pass c.if-not-sound.false-raw c.sound.ensures).good.sizes in omega arith)
    (λ c. search rules)
    (λ c κs. let g = c.if-b-ge-REGISTERS.false in let q = (says_pass c.if-not-sound.false-raw c.sound.ensures).good.sizes in omega arith)
    (λ c. fare_first c.args.a c.args.b c.args.words.now c.args.prices.now c.args.work.now c.args.states.now c.args.relations.now c.if-prices.false (says_pass c.if-not-sound.false-raw c.sound.ensures) (work_long c.args.words.now (says_pass c.if-not-sound.false-raw c.sound.ensures) c.header_word-bits.ensures c.if-work-all.false) (record {
      first = c.if-a-ge-REGISTERS.false;
      second = c.if-b-ge-REGISTERS.false;
    }) c.header_word-x.ensures c.if-x-eq0.true)
    (λ c. fare_second c.args.a c.args.b c.args.words.now c.args.prices.now c.args.work.now c.args.states.now c.args.relations.now c.if-prices.false (says_pass c.if-not-sound.false-raw
    c.sound.ensures) (work_long c.args.words.now (says_pass c.if-not-sound.false-raw c.sound.ensures) c.header_word-bits.ensures c.if-work-all.false) (record {
      first = c.if-a-ge-REGISTERS.false;
      second = c.if-b-ge-REGISTERS.false;
    }) c.header_word-y.ensures c.if-y-eq0.true)
    (λ c. search rules)
    (λ c. sym (length-take-le _ c.args.work.now c.if-work-all.false))
    (λ c. search rules)
    (λ c. search rules)
    (λ c κs. (
      call_asks c.args.words.now c.args.prices.now c.args.work.now c.if-prices.false (says_pass c.if-not-sound.false-raw c.sound.ensures) (work_long c.args.words.now (says_pass c.if-not-sound.false-raw c.sound.ensures) c.header_word-bits.ensures c.if-work-all.false) (record {
        first = c.if-a-ge-REGISTERS.false;
        second = c.if-b-ge-REGISTERS.false;
      }) c.header_word-rows.ensures c.header_word-bits.ensures c.header_word-x.ensures c.header_word-y.ensures c.if-x-eq0.false c.if-y-eq0.false _
          (states-eq c.args.words.now (says_pass c.if-not-sound.false-raw c.sound.ensures) c.header_word-bits.ensures),
      let q = (says_pass c.if-not-sound.false-raw c.sound.ensures).good.sizes in omega arith,
    ))
    (λ c. search rules)
    (λ c. search rules)
    (λ c. search rules)
    (λ c. fare_ends c.args.words.now c.args.prices.now c.args.work.now c.if-prices.false
    (says_pass c.if-not-sound.false-raw c.sound.ensures) (work_long c.args.words.now (says_pass c.if-not-sound.false-raw c.sound.ensures) c.header_word-bits.ensures c.if-work-all.false) (record {
      first = c.if-a-ge-REGISTERS.false;
      second =
          c.if-b-ge-REGISTERS.false;
    }) c.header_word-rows.ensures c.header_word-bits.ensures c.header_word-x.ensures c.header_word-y.ensures c.if-x-eq0.false c.if-y-eq0.false
    (states-eq c.args.words.now (says_pass c.if-not-sound.false-raw c.sound.ensures) c.header_word-bits.ensures) c.between.ensures))
