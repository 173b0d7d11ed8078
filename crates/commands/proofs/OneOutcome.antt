-- Laws of what specs/OneOutcome.antt defines. Assumes nothing.
use mathlib.Core.Path.{◌≡◌, sym, ap, ◌∙◌}
use mathlib.Core.Logic.{by_cases}
use mathlib.Core.List.{List}
use Prim.Native.Nat.{ℕ, min}
use native.Mathlib.Decide.{ℕ_discrete}
use native.Mathlib.Omega.{arith}
use Rattle.book.specs.Book.{relation, set, valid, clear, collect, count}
use Rattle.book.specs.Program.{Command, start, call, states}
use Rattle.book.specs.Table.{Reply}
use Rattle.book.specs.Leaves.{valued}
use Rattle.contract.proofs.Answered.{count-means}
use Rattle.contract.proofs.OneAnswer.{fresh-one, ask-one, call-one}
use Rattle.commands.specs.declared.Outcome.{Outcome}
use Rattle.commands.specs.Obey.{shown_reply, node_reply, Obeys}
use Rattle.commands.specs.OneOutcome.{OneOutcome}

-- outcomes without a node number
pub plain-one : {x z : Outcome} → x.operation ≡ z.operation → x.number ≡ z.number → x.rounds ≡ z.rounds → x.value ≡ z.value
    → x.peak ≡ z.peak
    → x.node ≡ 0 → z.node ≡ 0 → OneOutcome x z
plain-one o k q v p i j = record { operation = o; number = k; rounds = q; value = v; peak = p; node = ap (λ (n : ℕ). min n 2) (i ∙ sym j) }

shown-one : {x z : Outcome} → x.operation ≡ z.operation → shown_reply x ≡ shown_reply z → x.node ≡ 0 → z.node ≡ 0 → OneOutcome x z
shown-one o e i j =
    plain-one o (ap (λ (y : Reply). y.number) e) (ap (λ (y : Reply). y.rounds) e) (ap (λ (y : Reply). y.value) e)
    (ap (λ (y : Reply). y.peak) e) i j

-- two outcomes that a command's contract allows on the same words are one, node numbers above 1 aside
pub obey-one : (c : Command) {old v w : List ℕ} {x z : Outcome} → Obeys c old v x → Obeys c old w z → OneOutcome x z
obey-one (start n N) a b =
    shown-one (a.operation ∙ sym b.operation) (fresh-one n N 1 a.posted.0 b.posted.0).0 a.posted.2 b.posted.2
obey-one (states r) a b =
    shown-one (a.operation ∙ sym b.operation) (ask-one (count r) a.posted.1 b.posted.1) a.posted.2 b.posted.2
obey-one (call (relation t bs)) a b =
    let o = call-one (relation t bs) a.posted.0 b.posted.0 in
    plain-one (a.operation ∙ sym b.operation) o.number o.rounds o.value o.peak a.posted.1 b.posted.1
obey-one (call (valid bs)) a b =
    let o = call-one (valid bs) a.posted.0 b.posted.0 in
    plain-one (a.operation ∙ sym b.operation) o.number o.rounds o.value o.peak a.posted.1 b.posted.1
obey-one (call (clear r)) a b =
    let o = call-one (clear r) a.posted.0 b.posted.0 in
    plain-one (a.operation ∙ sym b.operation) o.number o.rounds o.value o.peak a.posted.1 b.posted.1
obey-one (call collect) a b =
    let o = call-one collect a.posted.0 b.posted.0 in
    plain-one (a.operation ∙ sym b.operation) o.number o.rounds o.value o.peak a.posted.1 b.posted.1
obey-one (call (set acc r R bs)) {old} {v} {w} {x} {z} a b =
    let o = call-one (set acc r R bs) a.posted.0 b.posted.0 in
    record {
      operation =
          a.operation ∙ sym b.operation;
      number =
          o.number;
      rounds = o.rounds;
      value = counted o.number;
      peak = o.peak;
      node = o.value;
    }
  where
    -- the states of the formula's set, 0 where set is refused
    counted : x.number ≡ z.number → x.value ≡ z.value
    counted e = by_cases (ℕ_discrete x.number 0)
        (λ i.
        count-means old v acc r R bs (node_reply x) a.posted.0 i (valued x.value) (a.posted.1.0 i)
        ∙ sym (count-means old w acc r R bs (node_reply z) b.posted.0 (sym e ∙ i) (valued z.value) (b.posted.1.0 (sym e ∙ i))))
        (λ n. a.posted.1.1 (omega arith) ∙ sym (b.posted.1.1 (omega (arith, e))))
