-- "Five impostors are to be caught": for each a list of calls with its replies, which the third demand refuses, whatever stands behind it;
-- and the same by what can be seen of a later question. Beside each the same list with the true replies is met, so that only the lie is
-- refused. Assumes nothing.
use mathlib.Core.Path.{◌≡◌, refl, ap, ◌∙◌}
use mathlib.Core.Bool.{Bool, true, false, true≢false, false≢true}
use mathlib.Core.List.{List, [], ◌∷◌}
use mathlib.Core.Option.{Option, none, some}
use Prim.Native.Nat.{ℕ}
use native.Mathlib.Omega.{arith}
use Rattle.mucalculus.specs.Form.{filled}
use Rattle.accounts.specs.Terms.{alone}
use Rattle.book.specs.Book.{set, Question, node, member, count}
use Rattle.book.specs.Table.{Table, Reply}
use Rattle.book.specs.Leaves.{plain, valued}
use Rattle.book.specs.BookOf.{SoundTable}
use Rattle.book.specs.Demand.{Event, stop, Demand}
use Rattle.book.proofs.Compute.{computing}
use Rattle.book.proofs.Listed.{frame}
use Rattle.book.proofs.Follow.{denotes-none, denotes-all}
use Rattle.book.proofs.Leaves.{store_reg}
use Rattle.book.proofs.Witness.{answers, reply, no_rows, blank, Met, met-answers, stored}
use Rattle.book.proofs.OneBit.{denotes-bit, denotes-other, rowless, with_bit, bit-first, bit_then}

-- whatever stands behind the calls: words, which of them are sound, the table seen in them, the questions' contract, the words left
pub record Builder : Type 1 where
  pub Words : Type 0
  pub sound : Words → Type 0
  pub view : Words → Table
  pub asks : Words → Question → Words → Reply → Type 0
  pub left : Words

-- the demand after a list, n = 1 and N = 100
abbrev pub Claim : Builder → List Event → Type 0
Claim x l = Demand x.sound x.view x.asks 1 100 l x.left

-- a question then gets a reply
abbrev pub Says : Builder → Question → Reply → Type 0
Says x q y = (w : x.Words) × x.asks x.left q w y

-- the number in register r
abbrev pub number_in : Builder → ℕ → Option ℕ
number_in x r = (x.view x.left).reg r

-- the tables themselves
abbrev pub tables : Table → Builder
tables t = record { Words = Table; sound = SoundTable; view = λ u. u; asks = answers; left = t }

-- what is met is the same claim, with the tables behind it
pub met_claim : {l : List Event} {end : Table} → Met l end → Claim (tables end) l
met_claim m = m.demand

-- set r, R = 100, with its reply
abbrev pub asked : ℕ → List ℕ → Reply → Event
asked r f y = (set alone r 100 (frame f), y)

-- the first place of a set
abbrev first : List Bool → Bool
first [] = false
first (a ∷ A) = a

-- ---- set 0 to true

abbrev pub everyone : Reply → List Event
everyone y = asked 0 (0x01 ∷ []) y ∷ []

-- the true reply: no round, no step, node 1
pub everyone_met : Met (everyone (reply 0 0 0 1)) stored
unfolding computing
everyone_met = rowless (frame (0x01 ∷ [])) (true ∷ true ∷ []) 0 0 1 refl refl (denotes-all 1 100 no_rows)

-- one that gives 8 to everything
pub always_eight : (x : Builder) (q p a : ℕ) → Claim x (everyone (reply 8 q p a)) → ⊥
unfolding computing
always_eight x q p a d = let z : ◌≡◌ {A = ℕ} 8 0 = d.agree.0.number in absurd (omega arith)

-- one that stores nothing
pub stores-nothing : (x : Builder) (q p a : ℕ) → number_in x 0 ≡ none → Claim x (everyone (reply 0 q p a)) → ⊥
unfolding computing
stores-nothing x q p a e d = let z : true ≡ filled (number_in x 0) = d.reg_filled 0 (omega arith) in true≢false (z ∙ ap filled e)

-- the true end has it
pub everyone_stored : number_in (tables stored) 0 ≡ some 1
everyone_stored = refl

-- asked for a count later it answers 7
pub stores-nothing-seen : (x : Builder) (q p a : ℕ) → Says x (count 0) (plain 7) → Claim x (everyone (reply 0 q p a)) → ⊥
unfolding computing
stores-nothing-seen x q p a (w, s) d =
    let z : ◌≡◌ {A = ℕ} 7 0 = (d.questions w (count 0) (plain 7) s).1.agrees.number in absurd (omega arith)

-- truly 2
pub everyone_count : Says (tables stored) (count 0) (valued 2)
unfolding computing
everyone_count = (stored, met-answers everyone_met (count 0) (some 2) 2 refl refl tt)

-- ---- set 0 to false

abbrev pub nobody : Reply → List Event
nobody y = asked 0 (0x00 ∷ []) y ∷ []

-- the true reply: node 0
pub nobody_met : Met (nobody (reply 0 0 0 0)) (store_reg blank 0 (some 0))
unfolding computing
nobody_met = rowless (frame (0x00 ∷ [])) (false ∷ false ∷ []) 0 0 0 refl refl (denotes-none 1 100 no_rows)

-- one that gives node 1 always
pub always-one : (x : Builder) (q p : ℕ) → Claim x (nobody (reply 0 q p 1)) → ⊥
unfolding computing
always-one x q p d = let z : ◌≡◌ {A = ℕ} 1 0 = d.agree.0.value in absurd (omega arith)

-- ---- set 0 to mu P P

abbrev pub least : Reply → List Event
least y = asked 0 (0x70 ∷ 0x30 ∷ []) y ∷ []

-- the true reply: one round, no step, node 0
pub least-met : Met (least (reply 0 1 0 0)) (store_reg blank 0 (some 0))
unfolding computing
least-met = rowless (frame (0x70 ∷ 0x30 ∷ [])) (false ∷ false ∷ []) 1 0 0 refl refl (denotes-none 1 100 no_rows)

-- one that says 9 before its first round
pub early_nine : (x : Builder) (q p a : ℕ) → Claim x (least (reply 9 q p a)) → ⊥
unfolding computing
early_nine x q p a d = let z : ◌≡◌ {A = ℕ} 9 0 = d.agree.0.number in absurd (omega arith)

-- "A made-up round or state count differs from its definition": it can only be the definition's
pub made-up-rounds : (x : Builder) (q p a : ℕ) → Claim x (least (reply 0 q p a)) → q ≡ 1
unfolding computing
made-up-rounds x q p a d = d.agree.0.rounds

-- ---- set 0 to bit 0 and its complement

abbrev pub clash : Reply → List Event
clash y = asked 0 (0x03 ∷ 0x10 ∷ 0x02 ∷ 0x10 ∷ []) y ∷ []

-- the true reply: the peak is 1, node 0
pub clash_met : Met (clash (reply 0 0 1 0)) (store_reg blank 0 (some 0))
unfolding computing
clash_met = rowless (frame (0x03 ∷ 0x10 ∷ 0x02 ∷ 0x10 ∷ [])) (false ∷ false ∷ []) 0 1 0 refl refl (denotes-none 1 100 no_rows)

-- a peak can only be the definition's
pub made-up-peak : (x : Builder) (q p a : ℕ) → Claim x (clash (reply 0 q p a)) → p ≡ 1
unfolding computing
made-up-peak x q p a d = d.agree.0.peak

-- ---- set 0 to bit 0

abbrev pub bit : Reply → List Event
bit y = asked 0 (0x10 ∷ []) y ∷ []

-- the true reply: the peak is 1, and the node number 3, NOT of row 0
pub bit-met : Met (bit (reply 0 0 1 3)) with_bit
bit-met = bit-first (λ w s. stop)

-- node gives another number than set returned
pub other-number : (x : Builder) (q p a c : ℕ) → Says x (node 0) (valued c) → Claim x (bit (reply 0 q p a)) → c ≡ a
unfolding computing
other-number x q p a c (w, s) d = let e = (d.questions w (node 0) (valued c) s).1.node_says refl in cc

-- truly the same
pub bit-node : Says (tables with_bit) (node 0) (valued 3)
unfolding computing
bit-node = (with_bit, met-answers bit-met (node 0) none 3 refl tt (λ z. refl))

-- a state count can only be the definition's
pub made-up-count : (x : Builder) (q p a k : ℕ) → Says x (count 0) (valued k) → Claim x (bit (reply 0 q p a)) → k ≡ 1
unfolding computing
made-up-count x q p a k (w, s) d = (d.questions w (count 0) (valued k) s).1.agrees.value

-- truly 1
pub bit-count : Says (tables with_bit) (count 0) (valued 1)
unfolding computing
bit-count = (with_bit, met-answers bit-met (count 0) (some 1) 1 refl refl tt)

-- ---- set 0 to bit 0, set 1 to its complement

abbrev pub both : Reply → Reply → List Event
both y z = asked 0 (0x10 ∷ []) y ∷ asked 1 (0x02 ∷ 0x10 ∷ []) z ∷ []

-- the tables' end
abbrev pub with_both : Table
with_both = store_reg with_bit 1 (some 2)

-- the true replies: two numbers, 3 and 2
pub both-met : Met (both (reply 0 0 1 3) (reply 0 0 1 2)) with_both
unfolding computing
both-met = bit_then (frame (0x02 ∷ 0x10 ∷ [])) (true ∷ false ∷ []) 0 1 2 refl refl denotes-other

-- one that gives one number to two sets that differ
pub one_number : (x : Builder) (q p q' p' a : ℕ) → Claim x (both (reply 0 q p a) (reply 0 q' p' a)) → ⊥
unfolding computing
one_number x q p q' p' a d =
    let e : false ∷ true ∷ []
    ≡ true ∷ false
    ∷ [] = (d.numbers 0 1 (omega arith) (omega arith) (false ∷ true ∷ []) (true ∷ false ∷ []) a a refl refl refl refl).0 refl in
    false≢true (ap first e)

-- one that evaluates the first set truly and repeats it afterwards, with numbers of its own choice: state 0 is not in bit 0, but in its
-- complement, and member says so
pub repeats : (x : Builder) (q p q' p' a c : ℕ) → Says x (member 1 0) (valued 0) → Claim x (both (reply 0 q p a) (reply 0 q' p' c)) → ⊥
unfolding computing
repeats x q p q' p' a c (w, s) d =
    let z : ◌≡◌ {A = ℕ} 0 1 = (d.questions w (member 1 0) (valued 0) s).1.agrees.value in absurd (omega arith)

-- truly 1
pub both-member : Says (tables with_both) (member 1 0) (valued 1)
unfolding computing
both-member = (with_both, met-answers both-met (member 1 0) (some 1) 1 refl refl tt)

-- ---- set 0 to bit 0, set 1 to bit 0 and bit 0

abbrev pub twice : Reply → Reply → List Event
twice y z = asked 0 (0x10 ∷ []) y ∷ asked 1 (0x03 ∷ 0x10 ∷ 0x10 ∷ []) z ∷ []

-- the true replies: one number, 3
pub twice_met : Met (twice (reply 0 0 1 3) (reply 0 0 1 3)) (store_reg with_bit 1 (some 3))
unfolding computing
twice_met = bit_then (frame (0x03 ∷ 0x10 ∷ 0x10 ∷ [])) (false ∷ true ∷ []) 0 1 3 refl refl denotes-bit

-- one that gives two numbers to one set
pub two-numbers : (x : Builder) (q p q' p' a c : ℕ) → Claim x (twice (reply 0 q p a) (reply 0 q' p' c)) → a ≡ c
unfolding computing
two-numbers x q p q' p' a c d =
    (d.numbers 0 1 (omega arith) (omega arith) (false ∷ true ∷ []) (false ∷ true ∷ []) a c refl refl refl refl).1 refl
