-- From what a call answers to its command's outcome. Assumes nothing.
use mathlib.Core.Path.{◌≡◌, refl, sym, ap, ◌∙◌, subst}
use mathlib.Core.Bool.{Bool}
use mathlib.Core.List.{List}
use Prim.Native.Nat.{ℕ, ◌≤◌}
use native.Mathlib.Omega.{arith}
use Rattle.std.specs.Prelude.{Result, Ok, Err}
use Rattle.accounts.specs.declared.Terms.{Terms}
use Rattle.book.specs.Book.{Call, relation, set, valid, clear, collect, count}
use Rattle.book.specs.Program.{start, call, states, op_of}
use Rattle.book.specs.Table.{Reply}
use Rattle.book.specs.Leaves.{plain, valued}
use Rattle.contract.specs.Posts.{FreshPost, CallPost, AskPost}
use Rattle.contract.specs.Seen.{SoundWords}
use Rattle.contract.proofs.Checked.{call-unsound, ask-unsound}
use Rattle.contract.proofs.Answered.{count-answered}
use Rattle.calls.specs.Fresh.{FreshWords}
use Rattle.calls.specs.Replies.{started_reply, answer_reply}
use Rattle.layout.specs.Refusals.{refusal_number}
use Rattle.layout.proofs.Refusals.{refusal-some}
use Rattle.layout.specs.declared.Refusal.{Refusal}
use Rattle.records.specs.declared.Command as records
use Rattle.records.specs.declared.Found.{Found}
use Rattle.records.specs.Record.{read_record, asked, start_of}
use Rattle.commands.specs.declared.Outcome.{Outcome}
use Rattle.commands.specs.declared.Taken.{Taken}
use Rattle.commands.specs.Obey.{plain_outcome, StatesIn, Obeys, Takes, TakePost}

-- a reply without rounds and without a peak
abbrev pub reply : ℕ → ℕ → Reply
reply k v = record { number = k; rounds = 0; peak = 0; value = v }

-- ---- fresh

module _ {n N : ℕ} {old new : List ℕ} {v : Result (Unit {0}) Refusal} {x : Outcome} (p : FreshPost n N 1 old new (started_reply v))
    (w : FreshWords n N old new v) where
  pub fresh-ready : v ≡ Ok tt → x ≡ plain_outcome 1 0 0 → Obeys (start n N) old new x
  fresh-ready e i = subst (Obeys (start n N) old new) (sym i) record {
    operation = refl;
    posted = (subst (FreshPost n N 1 old new) (ap started_reply e) p, (λ z. subst (FreshWords n N old new) e w), refl);
  }

  pub fresh-refused : (f : Refusal) {k : ℕ} → v ≡ Err f → 1 ≤ refusal_number f → k ≡ refusal_number f → x ≡ plain_outcome 1 k 0
      → Obeys (start n N) old new x
  fresh-refused f {k} e l j i = subst (Obeys (start n N) old new) (sym i) record {
    operation = refl;
    posted = (subst (FreshPost n N 1 old new) (ap started_reply e ∙ ap plain (sym j)) p, (λ z. absurd (omega arith)), refl);
  }

-- ---- relation, clear, collect

-- the calls that return no node number
abbrev Nodeless : Call → Type 0
Nodeless (relation t bs) = Unit {0}
Nodeless (set acc r R bs) = ⊥
Nodeless (valid bs) = Unit {0}
Nodeless (clear r) = Unit {0}
Nodeless collect = Unit {0}

pub call-told : (c : Call) {old new : List ℕ} {k v : ℕ} {y : Reply} {x : Outcome} → Nodeless c → CallPost c old new y → y ≡ reply k v
    → x ≡ plain_outcome (op_of c) k v → Obeys (call c) old new x
call-told c {old} {new} {k} {v} nodeless p j i = subst (Obeys (call c) old new) (sym i) (go c nodeless (subst (CallPost c old new) j p))
  where
    go : (c : Call) → Nodeless c → CallPost c old new (reply k v) → Obeys (call c) old new (plain_outcome (op_of c) k v)
    go (relation t bs) u q = record { operation = refl; posted = (q, refl) }
    go (set acc r R bs) u q = absurd u
    go (valid bs) u q = record { operation = refl; posted = (q, refl) }
    go (clear r) u q = record { operation = refl; posted = (q, refl) }
    go collect u q = record { operation = refl; posted = (q, refl) }

-- ---- count

pub count-told : (r : ℕ) {ws : List ℕ} {k v : ℕ} {y : Reply} {x : Outcome} → AskPost (count r) ws y → y ≡ reply k v → x ≡ plain_outcome 5 k v
    → Obeys (states r) ws ws x
count-told r {ws} p j i =
    subst (Obeys (states r) ws ws) (sym i) record { operation = refl; posted = (refl, subst (AskPost (count r) ws) j p, refl) }

-- ---- set

module _ (acc : Terms) (r R : ℕ) (bs : List ℕ) {old new : List ℕ} {x : Outcome} where
  pub set-refused : {k : ℕ} → 1 ≤ k → CallPost (set acc r R bs) old new (plain k) → x ≡ plain_outcome 3 k 0
      → Obeys (call (set acc r R bs)) old new x
  set-refused l p i =
      subst (Obeys (call (set acc r R bs)) old new) (sym i)
      record { operation = refl; posted = (p, ((λ z. absurd (omega arith)), λ z. refl)) }

  -- after an answered set its register is counted
  pub set_done : (a q p k : ℕ) → CallPost (set acc r R bs) old new record { number = 0; rounds = q; peak = p; value = a } → StatesIn r new k
      → x ≡ record { operation = 3; number = 0; node = a; rounds = q; value = k; peak = p } → Obeys (call (set acc r R bs)) old new x
  set_done a q p k d (v, c, e) i =
      subst (Obeys (call (set acc r R bs)) old new) (sym i)
      record { operation = refl; posted = (d, ((λ z. told v c e), λ z. absurd (omega arith))) }
    where
      -- the count is answered
      told : (v : Result ℕ Refusal) → AskPost (count r) new (answer_reply v) → k ≡ (answer_reply v).value → AskPost (count r) new (valued k)
      told (Ok j) c e = subst (AskPost (count r) new) (ap valued (sym e)) c
      told (Err f) c e = absurd (omega (arith, refusal-some f, count-answered old new acc r R bs _ d refl _ c))

-- a call's terms, as a function made them
pub termed : {t u : Terms} (r R : ℕ) (bs old new : List ℕ) (y : Reply) → t ≡ u → CallPost (set t r R bs) old new y
    → CallPost (set u r R bs) old new y
termed r R bs old new y e d = subst (λ (t : Terms). CallPost (set t r R bs) old new y) e d

-- ---- words that are no sound table

-- "table unsound": 2, and all words are kept
module _ {ws : List ℕ} {x : Outcome} (n : SoundWords ws → ⊥) where
  pub call-refused : (c : Call) → x ≡ plain_outcome (op_of c) 2 0 → Obeys (call c) ws ws x
  call-refused (relation t bs) i = call-told (relation t bs) tt (call-unsound ws n (relation t bs)) refl i
  call-refused (set acc r R bs) i = set-refused acc r R bs (omega arith) (call-unsound ws n (set acc r R bs)) i
  call-refused (valid bs) i = call-told (valid bs) tt (call-unsound ws n (valid bs)) refl i
  call-refused (clear r) i = call-told (clear r) tt (call-unsound ws n (clear r)) refl i
  call-refused collect i = call-told collect tt (call-unsound ws n collect) refl i

  pub count-refused : (r : ℕ) → x ≡ plain_outcome 5 2 0 → Obeys (states r) ws ws x
  count-refused r i = count-told r (ask-unsound ws n (count r)) refl i

-- ---- a record

-- what a command is
pub obeys_as : (bs : List ℕ) (size : ℕ) {old new : List ℕ} {x : Outcome} {c d : records.Command} → c ≡ d → Obeys (asked bs size d) old new x
    → Obeys (asked bs size c) old new x
obeys_as bs size {old} {new} {x} e = subst (λ (k : records.Command). Obeys (asked bs size k) old new x) (sym e)

pub starts_as : {size : ℕ} {c d : records.Command} → c ≡ d → start_of c ≤ size → start_of d ≤ size
starts_as {size} e = subst (λ (k : records.Command). start_of k ≤ size) e

-- what was read
pub took : (bs : List ℕ) (ended : Bool) (old new : List ℕ) (r : Taken) {v : Found} (f : Found) → v ≡ read_record bs ended → v ≡ f
    → Takes bs old new f r → TakePost bs ended old new r
took bs ended old new r f i e = subst (λ (g : Found). Takes bs old new g r) (sym e ∙ i)
