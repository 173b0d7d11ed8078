-- `shortest` meets its contract: each check refuses by its cause, and then the search answers. Assumes nothing.
use native.Mathlib.Omega.{arith}
use Rattle.rows.proofs.Says.{says_pass, says_fail}
use Rattle.path_calls.proofs.Checks.{path_unsound, path_range, path_first, path_second, path_third, call_asks, call_ends}
use Rattle.layout.proofs.header_word.Reads as header-word-reads
use Rattle.path_calls.proofs.search.Reads as search-reads
use Rattle.soundness.proofs.sound.Reads as sound-reads
use borrow.Author.Rules.{rules}
use Rattle.path_calls.proofs.shortest.Statement.{statement}
use Rattle.path_calls.proofs.shortest.Tie as tie
use Rattle.path_calls.proofs.shortest.Reads as reads
use Rattle.path_calls.proofs.shortest.Lts as lts

pub shortest_spec : {M : Type 1} → statement M
shortest_spec =
    tie.close
    (tie.spec
    (λ c κs. search rules)
    (λ c. search rules)
    (λ c. path_unsound c.args.a c.args.b
    c.args.t c.args.words.now
    c.args.list.now (says_fail c.if-not-sound.true-raw c.sound.ensures))
    (λ c. search rules)
    (λ c. path_range c.args.a
    c.args.b c.args.t
    c.args.words.now
    c.args.list.now
    (says_pass c.if-not-sound.false-raw c.sound.ensures) (λ r. omega (arith, r.0, c.if-a-ge-REGISTERS.true)))
    (λ c. search rules)
    (λ c. path_range c.args.a
    c.args.b
    c.args.t
    c.args.words.now
    c.args.list.now
    (says_pass c.if-not-sound.false-raw c.sound.ensures) (λ r. omega (arith, r.1, c.if-b-ge-REGISTERS.true)))
    (λ c. search rules)
    (λ c. path_range c.args.a
    c.args.b
    c.args.t
    c.args.words.now
    c.args.list.now
    (says_pass c.if-not-sound.false-raw c.sound.ensures)
    (λ r. omega (arith, r.2, c.if-t-ge-RELATIONS.true)))
    (λ c κs. let q =
    (says_pass c.if-not-sound.false-raw
    c.sound.ensures).good.sizes in omega arith)
    (λ c κs. let q =
    (says_pass c.if-not-sound.false-raw
    c.sound.ensures).good.sizes in omega arith)
    (λ c. search rules)
    (λ c κs. let g = c.if-a-ge-REGISTERS.false in
    let q =
    (says_pass c.if-not-sound.false-raw
    c.sound.ensures).good.sizes in omega arith)
    (λ c. search rules)
    (λ c κs. let g = c.if-b-ge-REGISTERS.false in
    let q =
    (says_pass c.if-not-sound.false-raw
    c.sound.ensures).good.sizes in
    omega arith)
    (λ c. search rules)
    (λ c κs. let g = c.if-t-ge-RELATIONS.false in
    let q =
    (says_pass c.if-not-sound.false-raw
    c.sound.ensures).good.sizes in omega arith)
    (λ c. search rules)
    (λ c. path_first
    c.args.a
    c.args.b
    c.args.t
    c.args.words.now
    c.args.list.now
    (says_pass
    c.if-not-sound.false-raw
    c.sound.ensures) (
      c.if-a-ge-REGISTERS.false,
      c.if-b-ge-REGISTERS.false,
      c.if-t-ge-RELATIONS.false,
    )
    c.header_word-x.ensures c.if-x-eq0.true)
    (λ c. search rules)
    (λ c. path_second
    c.args.a
    c.args.b
    c.args.t
    c.args.words.now
    c.args.list.now
    (says_pass
    c.if-not-sound.false-raw c.sound.ensures) (
      c.if-a-ge-REGISTERS.false,
      c.if-b-ge-REGISTERS.false,
      c.if-t-ge-RELATIONS.false,
    )
    c.header_word-y.ensures c.if-y-eq0.true)
    (λ c. search rules)
    (λ c. path_third
    c.args.a
    c.args.b
    c.args.t
    c.args.words.now
    c.args.list.now
    (says_pass
    c.if-not-sound.false-raw
    c.sound.ensures) (
      c.if-a-ge-REGISTERS.false,
      c.if-b-ge-REGISTERS.false,
      c.if-t-ge-RELATIONS.false,
    )
    c.header_word-z.ensures c.if-z-eq0.true)
    (λ c. omega (arith, c.if-z-eq0.false))
    (λ c. omega (arith, c.if-x-eq0.false))
    (λ c. omega (arith, c.if-y-eq0.false))
    (λ c κs. call_asks
    c.args.words.now
    (says_pass
    c.if-not-sound.false-raw
    c.sound.ensures) (
      c.if-a-ge-REGISTERS.false,
      c.if-b-ge-REGISTERS.false,
      c.if-t-ge-RELATIONS.false,
    ) c.header_word-rows.ensures c.header_word-bits.ensures
    c.header_word-x.ensures
    c.header_word-y.ensures
    c.header_word-z.ensures c.if-x-eq0.false
    c.if-y-eq0.false c.if-z-eq0.false)
    (λ c. search rules)
    (λ c. search rules)
    (λ c. call_ends
    c.args.words.now
    (says_pass
    c.if-not-sound.false-raw
    c.sound.ensures) (
      c.if-a-ge-REGISTERS.false,
      c.if-b-ge-REGISTERS.false,
      c.if-t-ge-RELATIONS.false,
    )
    c.header_word-rows.ensures
    c.header_word-bits.ensures
    c.header_word-x.ensures c.header_word-y.ensures
    c.header_word-z.ensures
    c.if-x-eq0.false
    c.if-y-eq0.false
    c.if-z-eq0.false _
    c.args.list.now _
    c.search.ensures))
