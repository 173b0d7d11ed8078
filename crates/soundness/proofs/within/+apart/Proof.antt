-- `apart` meets its contract: tables decide past the base, else the halves at the least level, and what is left of the levels falls.
-- Assumes nothing.
use Prim.Native.Nat.{ℕ, ◌-◌, ◌<◌}
use mathlib.Core.Path.{◌∙◌}
use borrow.Author.Rules.{rules}
use Rattle.rows.proofs.Says.{says-yes, says-no}
use Rattle.soundness.proofs.Contained.{is_row_lem}
use Rattle.soundness.proofs.WalkLaws.{walk_none, walk-nothing, walk-everything, tables_asked, walk_tables, step-asked}
use Rattle.soundness.proofs.WalkLaws.{walk_at, call-low, low-fails, call-high, high-fails, remember-asked, both_pass}
use borrow.Fn.Kinds.{In}
use borrow.Fn.PlainCycle.{Measures, is, falls, and}
use Rattle.soundness.proofs.within.+apart.{statement}
use Rattle.soundness.proofs.within.+apart.Tie.{close}
use Rattle.soundness.proofs.within.apart.Reads as apart
use Rattle.soundness.proofs.within.apart.Kinds as apart-kinds
use Rattle.soundness.proofs.within.+apart.Lts-apart as apart-lts
use Rattle.soundness.proofs.within.deep.Reads as deep-reads
use Rattle.soundness.proofs.arrows.remember_all.Reads as remember-all-reads
use Rattle.soundness.proofs.within.step.Reads as step-reads
use Rattle.soundness.proofs.within.tables_apart.Reads as tables-apart-reads

abbrev μ-apart : Measures 6 apart-kinds.ps ℕ
μ-apart κs a = 64 - a.1.1.1.1.0

abbrev apart-at : ℕ → In 6 apart-kinds.ps
apart-at t = and 6 apart-kinds.ps (is 6 apart-kinds.ps μ-apart t) apart.Pre

abbrev apart_below : ℕ → In 6 apart-kinds.ps
apart_below t = and 6 apart-kinds.ps (falls 6 apart-kinds.ps ◌<◌ μ-apart t) apart.Pre

pub +apart_spec : {M : Type 1} → statement M
+apart_spec = close μ-apart λ t. apart-lts.spec (
  deep-reads.Asked,
  deep-reads.Learnt,
  tables-apart-reads.Asked,
  tables-apart-reads.Learnt,
  step-reads.Asked,
  step-reads.Learnt,
  apart_below t,
  apart.Post,
  remember-all-reads.Asked,
  remember-all-reads.Learnt,
)
    (apart-at t)
    apart.Post
    (λ c. walk_none c.requires.1 c.if-from-to.true)
    (λ c. walk-nothing c.requires.1 c.if-b-eq-NOTHING.true)
    (λ c. walk-everything c.requires.1 c.if-from-to.false c.if-b-eq-EVERYTHING.true)
    (λ c κs. (c.requires.1.asks.good, c.requires.1.against.arrow, (is_row_lem _ c.if-b-eq-NOTHING.false c.if-b-eq-EVERYTHING.false)))
    (λ c κs. tables_asked c.requires.1 (is_row_lem _ c.if-b-eq-NOTHING.false c.if-b-eq-EVERYTHING.false) (says-yes
    c.if-deep.true c.deep.ensures))
    (λ c. search rules)
    (λ c. search rules)
    (λ c. search rules)
    (λ c. walk_tables c.requires.1 c.tables_apart.ensures)
    (λ c κs. step-asked c.requires.1 (is_row_lem _ c.if-b-eq-NOTHING.false c.if-b-eq-EVERYTHING.false) (says-no
    c.if-deep.false c.deep.ensures))
    (λ c κs. call-low (walk_at c.requires.1 (says-no c.if-deep.false c.deep.ensures) c.step-q.ensures) c.requires.0
    c.step-q.auto.list c.step-q.auto.found)
    (λ c. c.apart.auto.list ∙ c.step-q.auto.list)
    (λ c. c.apart.auto.found ∙ c.step-q.auto.found)
    (λ c. search rules)
    (λ c. search rules)
    (λ c. search rules)
    (λ c. low-fails (walk_at c.requires.1 (says-no c.if-deep.false c.deep.ensures) c.step-q.ensures) c.apart.ensures
    c.if-not-apart.true-raw)
    (λ c κs. call-high (walk_at c.requires.1 (says-no c.if-deep.false c.deep.ensures) c.step-q.ensures) c.apart.ensures
    c.requires.0 (c.apart.auto.list ∙ c.step-q.auto.list)
    (c.apart.auto.found ∙ c.step-q.auto.found)
    c.apart.auto.memo c.apart.auto.first
    c.apart.auto.second)
    (λ c. c.apart-2.auto.list ∙ c.apart.auto.list
    ∙ c.step-q.auto.list)
    (λ c. c.apart-2.auto.found ∙ c.apart.auto.found
    ∙ c.step-q.auto.found)
    (λ c. search rules)
    (λ c. search rules)
    (λ c. search rules)
    (λ c. high-fails (walk_at c.requires.1 (says-no c.if-deep.false c.deep.ensures) c.step-q.ensures) c.apart.ensures
    c.apart-2.ensures c.if-not-apart-2.true-raw)
    (λ c κs. remember-asked (walk_at c.requires.1 (says-no c.if-deep.false c.deep.ensures) c.step-q.ensures)
    c.apart.ensures c.apart-2.ensures (c.apart-2.auto.list
    ∙ c.apart.auto.list ∙ c.step-q.auto.list)
    (c.apart-2.auto.memo ∙ c.apart.auto.memo))
    (λ c. c.apart-2.auto.list ∙ c.apart.auto.list
    ∙ c.step-q.auto.list)
    (λ c. c.apart-2.auto.found ∙ c.apart.auto.found
    ∙ c.step-q.auto.found)
    (λ c. c.remember_all.auto.memo
    ∙ c.apart-2.auto.memo ∙ c.apart.auto.memo)
    (λ c. search rules)
    (λ c. search rules)
    (λ c. both_pass (walk_at c.requires.1 (says-no c.if-deep.false c.deep.ensures) c.step-q.ensures) c.apart.ensures
    c.apart-2.ensures c.if-not-apart.false-raw c.if-not-apart-2.false-raw c.remember_all.ensures)
