-- `roots_ok` meets its contract: each part decides one condition on the roots. Assumes nothing.
use mathlib.Core.Path.{sym, ◌∙◌}
use native.Mathlib.Omega.{arith}
use borrow.Author.Rules.{rules}
use Rattle.layout.specs.View.{view}
use Rattle.soundness.proofs.Contained.{against-root}
use Rattle.rows.specs.Says.{fails}
use Rattle.rows.proofs.Says.{says_pass, says_fail}
use Rattle.rows.proofs.Sound.{room_of}
use Rattle.soundness.proofs.Decided.{within-tells}
use Rattle.soundness.proofs.roots_ok.Statement.{statement}
use Rattle.soundness.proofs.roots_ok.Tie as tie

pub roots_ok_spec : {M : Type 1} → statement M
roots_ok_spec =
    tie.close
    (tie.spec
    (λ c κs. (
      omega arith,
      let g = c.requires in
          room_of (view c.args.rows c.args.words.now) g.sizes g.ranked.count-le,
    ))
    (λ c. fails (λ q. says_fail c.if-not-refs_ok.true-raw c.refs_ok.ensures q.refs))
    (λ c κs. let g = c.requires.sizes.room in omega arith)
    (λ c. fails (λ q. q.valid (sym c.header_word-valid.ensures ∙ c.if-valid-eq0.true)))
    (λ c κs. let g = c.requires in (
      g.ranked,
      record {
        base = record { words = g.sizes.room; rows = g.rows; room = g.sizes.N-max };
        order = omega arith;
        within = omega arith;
        ref = λ h a l. says_pass c.if-not-refs_ok.false-raw c.refs_ok.ensures h a (omega arith);
      },
    ))
    (λ c. fails (λ q. says_fail c.if-not-even_sets.true-raw c.even_sets.ensures q.even))
    (λ c. search rules)
    (λ c κs. let u = says_pass c.if-not-refs_ok.false-raw
    c.refs_ok.ensures in
    let e = says_pass c.if-not-even_sets.false-raw c.even_sets.ensures in record {
      good = c.requires;
      against =
          rw c.header_word-valid.ensures
          (against-root
          (view c.args.rows
          c.args.words.now)
          (rw c.header_word-valid.ensures at c.if-valid-eq0.false) u e);
      refs = λ h lo hi. u h (omega arith) hi;
    })
    (λ c. within-tells c.requires
    (says_pass c.if-not-refs_ok.false-raw
    c.refs_ok.ensures) c.header_word-valid.ensures
    c.if-valid-eq0.false (says_pass c.if-not-even_sets.false-raw c.even_sets.ensures)
    c.all_within.ensures))
