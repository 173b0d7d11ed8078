-- `expand` meets its contract: a word at the end of the lower bits, else both halves, unless nothing is new. Assumes nothing.
use mathlib.Core.Path.{◌∙◌}
use Prim.Native.Nat.{◌-◌}
use native.Mathlib.Omega.{arith}
use Rattle.coin_search.proofs.NotesLaws.{spent-pre}
use Rattle.coin_search.proofs.ExpandLaws.{few_bits, made-node, made-few, made-small, lower-few, expands_nothing, new-asks, new-notes}
use Rattle.coin_search.proofs.ExpandLaws.{expands_known, word_asks, expands_word, expands_spent, step-asks, low-asks, high-asks}
use Rattle.coin_search.proofs.ExpandLaws.{join-asks, joined-notes, expands_halves}
use Prim.Native.Nat.{ℕ, ◌<◌}
use borrow.Fn.Kinds.{In}
use borrow.Fn.PlainCycle.{Measures, is, falls, and}
use Rattle.coin_search.proofs.+expand.{statement}
use Rattle.coin_search.proofs.+expand.Tie.{close}
use Rattle.coin_search.proofs.expand.Reads as expand
use Rattle.coin_search.proofs.expand.Kinds as expand-kinds
use Rattle.coin_search.proofs.+expand.Lts-expand as expand-lts
use Rattle.coin_search.proofs.add_all.Reads as add-all-reads
use Rattle.coin_search.proofs.is_spent.Reads as is-spent-reads
use Rattle.coin_search.proofs.join.Reads as join-reads
use Rattle.coin_search.proofs.new_bits.Reads as new-bits-reads
use Rattle.coin_search.proofs.put_spent.Reads as put-spent-reads
use Rattle.states.proofs.bit.Reads as bit-reads
use Rattle.coin_search.proofs.step.Reads as step-reads

abbrev μ-expand : Measures 3 expand-kinds.ps ℕ
μ-expand κs a = a.1.1.1.0.low - a.1.1.1.1.1.0

abbrev expand-at : ℕ → In 3 expand-kinds.ps
expand-at t = and 3 expand-kinds.ps (is 3 expand-kinds.ps μ-expand t) expand.Pre

abbrev expand-below : ℕ → In 3 expand-kinds.ps
expand-below t = and 3 expand-kinds.ps (falls 3 expand-kinds.ps ◌<◌ μ-expand t) expand.Pre

pub +expand_spec : {M : Type 1} → statement M
+expand_spec = close μ-expand
    (λ t. expand-lts.spec (
      new-bits-reads.Asked,
      new-bits-reads.Learnt,
      add-all-reads.Asked,
      add-all-reads.Learnt,
      is-spent-reads.Asked,
      is-spent-reads.Learnt,
      bit-reads.Asked,
      bit-reads.Learnt,
      step-reads.Asked,
      step-reads.Learnt,
      expand-below t,
      expand.Post,
      join-reads.Asked,
      join-reads.Learnt,
      put-spent-reads.Asked,
      put-spent-reads.Learnt,
    )
    (expand-at t)
    expand.Post
    (λ c. (
      expands_nothing c.requires.1 c.args.wave.goals c.if-x-eq-NOTHING.true,
      c.requires.1.notes,
    ))
    (λ c. let f = few_bits c.requires.1 in omega arith)
    (λ c. let f = made-few c.requires.1 in record { fits = omega arith })
    (λ c κs. new-asks c.requires.1 0 (made-node c.requires.1))
    (λ c. c.new_bits-new.auto.notes)
    (λ c. expands_known c.requires.1 c.args.wave.goals (omega arith) (made-node c.requires.1) c.new_bits-new.ensures c.if-new-eq0.true)
    (λ c κs. (
      c.requires.1.adds,
      new-notes c.requires.1 c.args.wave.goals (omega arith) (made-node c.requires.1) c.new_bits-new.ensures,
      word_asks
          c.requires.1 c.args.wave.goals
          (omega arith) (made-node c.requires.1) c.new_bits-new.ensures c.if-p-wave.true,
    ))
    (λ c. c.add_all.auto.work)
    (λ c. c.add_all.auto.notes ∙ c.new_bits-new.auto.notes)
    (λ c. expands_word c.requires.1 c.args.wave.goals (omega arith) (made-node
    c.requires.1) c.new_bits-new.ensures c.if-p-wave.true c.add_all.ensures)
    (λ c κs. (
      c.requires.1.arrow,
      spent-pre (new-notes c.requires.1 c.args.wave.goals
          (omega arith) (made-node c.requires.1) c.new_bits-new.ensures) c.requires.1.goal (made-few c.requires.1),
      let f = few_bits c.requires.1 in omega arith,
    ))
    (λ c. c.new_bits-new.auto.notes)
    (λ c. expands_spent c.requires.1 c.args.wave.goals (new-notes c.requires.1 c.args.wave.goals (omega arith) (made-node c.requires.1) c.new_bits-new.ensures) (made-node c.requires.1) (made-small c.requires.1) (lower-few c.requires.1) c.is_spent.ensures c.if-is_spent.true)
    (λ c. let f = few_bits c.requires.1 in record { fits = omega arith })
    (λ c κs. let f = few_bits c.requires.1 in omega arith)
    (λ c κs. step-asks c.requires.1 c.if-p-wave.false)
    (λ c κs. (
      let q = c.requires.0 in let d = c.requires.1.depth in let e = c.if-p-wave.false in omega arith,
      low-asks c.requires.1 c.if-p-wave.false (new-notes c.requires.1 c.args.wave.goals (omega arith) (made-node c.requires.1) c.new_bits-new.ensures) c.step-low.ensures,
    ))
    (λ c κs. step-asks c.requires.1
    c.if-p-wave.false)
    (λ c κs. (
      let q = c.requires.0 in let d = c.requires.1.depth in let e = c.if-p-wave.false in omega arith,
      high-asks c.requires.1 c.if-p-wave.false (made-node c.requires.1) c.expand-more.ensures c.step-high.ensures,
    ))
    (λ c κs. join-asks c.requires.1 c.if-p-wave.false (made-node c.requires.1) c.expand-most.ensures.1)
    (λ c κs. (
      c.requires.1.arrow,
      spent-pre (joined-notes c.requires.1 c.if-p-wave.false (made-node c.requires.1) c.expand-most.ensures.1 c.join.ensures) c.requires.1.goal (made-few c.requires.1),
      let f = few_bits c.requires.1 in omega arith,
    ))
    (λ c. c.expand-most.auto.work ∙ c.expand-more.auto.work)
    (λ c. c.put_spent.auto.notes ∙ c.join.auto.notes ∙ c.expand-most.auto.notes ∙ c.expand-more.auto.notes ∙ c.new_bits-new.auto.notes)
    (λ c. expands_halves c.requires.1 c.if-p-wave.false c.args.wave.goals (made-node c.requires.1) c.bit-side.ensures c.step-low.ensures c.step-high.ensures c.expand-more.ensures.0
    c.expand-most.ensures.0 (made-small c.requires.1) (lower-few c.requires.1) c.expand-most.ensures.1 c.join.ensures
    c.put_spent.ensures))
