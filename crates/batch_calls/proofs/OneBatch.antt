-- Laws of what specs/OneBatch.antt defines. Assumes nothing.
use mathlib.Core.Path.{◌≡◌, refl, sym, ap, ◌∙◌}
use mathlib.Core.Bool.{Bool, cond}
use mathlib.Core.List.{List, ◌++◌, List-discrete}
use mathlib.Core.Option.{Option, none, some}
use Prim.Native.Nat.{ℕ, suc, ◌*◌}
use native.Mathlib.Omega.{arith}
use native.Mathlib.Decide.{ℕ_discrete}
use lib.ListN.{length, take, drop, take-append-drop}
use borrow.Author.Tests.{lt-ltb}
use Rattle.diagram.specs.Rows.{den}
use Rattle.book.specs.Bridge.{set_of}
use Rattle.book.specs.Book.{registers}
use Rattle.book.specs.BookOf.{book_of, stands_for}
use Rattle.book.specs.Table.{Reply, Refusal}
use Rattle.contract.specs.Seen.{seen, SoundWords}
use Rattle.contract.proofs.OneAnswer.{same-reply, same-refusal}
use Rattle.batch_calls.specs.Posts.{Fit, InRange, Answered, BatchPost}
use Rattle.batch_calls.specs.OneBatch.{OneBatch}

-- the set that a filled register stands for
held : {a : ℕ} (r : ℕ) (words : List ℕ) {states : List ℕ} → InRange (seen words).n r states → (seen words).reg r ≡ some a
    → (book_of (seen words)).reg r ≡ some (set_of (seen words).n (den (2 * (seen words).n) (seen words).rows a))
held r words g e =
    ap (λ (t : Bool). cond t (stands_for (set_of (seen words).n) (den (2 * (seen words).n) (seen words).rows) ((seen words).reg r)) none)
    (lt-ltb r registers g.register)
    ∙ ap (stands_for (set_of (seen words).n) (den (2 * (seen words).n) (seen words).rows)) e

module _ {r : ℕ} (words : List ℕ) {states order v w answers a b : List ℕ} {y z : Reply}
    (p : BatchPost r words states order v answers a y) (q : BatchPost r words states order w answers b z) where
  -- refused by one number: both lists are kept
  refused-one : {k : ℕ} → Refusal (suc k) y → Refusal (suc k) z → OneBatch states v w a b y z
  refused-one {k} f g =
      let i = p.kept (λ e. let c = f.0 in omega arith) in
      let j = q.kept (λ e. let c = g.0 in omega arith) in
      let same = i.0 ∙ sym j.0 in
      record {
        reply = same-refusal f g;
        answers = i.1 ∙ sym j.1;
        size = ap length same;
        past = ap (drop (length states)) same;
        refused = λ _. same;
      }

  -- answered
  answered-one : {c : ℕ} {A : List Bool} → Answered c A words states order v answers a y → Answered c A words states order w answers b z
      → OneBatch states v w a b y z
  answered-one i j = record {
    reply = i.reply ∙ sym j.reply;
    answers =
        sym (take-append-drop (length states) a)
        ∙ ap (λ (u : List ℕ). u ++ drop (length states) a) (i.told ∙ sym j.told)
        ∙ ap (λ (u : List ℕ). take (length states) b ++ u) (i.rest ∙ sym j.rest)
        ∙ take-append-drop (length states) b;
    size = i.rearranged.size ∙ sym j.rearranged.size;
    past = i.rearranged.rest ∙ sym j.rearranged.rest;
    refused = λ n. absurd (n (ap (λ (x : Reply). x.number) i.reply));
  }

  in-range-one : Fit states order answers → SoundWords words → InRange (seen words).n r states → OneBatch states v w a b y z
  in-range-one f s g = at ((seen words).reg r) refl
    where
      at : (o : Option ℕ) → (seen words).reg r ≡ o → OneBatch states v w a b y z
      at none e = refused-one (p.empty f s g e) (q.empty f s g e)
      at (some c) e = answered-one (p.answered f s g c e _ (held r words g e)) (q.answered f s g c e _ (held r words g e))

  -- the checks in order, none of them decided
  not-two : (OneBatch states v w a b y z → ⊥) → ⊥
  not-two n =
      let range : Fit states order answers → SoundWords words → InRange (seen words).n r states → ⊥ = λ f s g. n (in-range-one f s g) in
      let sound : Fit states order answers → SoundWords words → ⊥ = λ f s. n
      (refused-one (p.range f s (range f s)) (q.range f s (range f s))) in
      let fit : Fit states order answers → ⊥ = λ f. n (refused-one (p.unsound f (sound f)) (q.unsound f (sound f))) in
      n (refused-one (p.sizes fit) (q.sizes fit))

  -- what can be told apart agrees
  agree : {X : Type 0} → Dec X → (OneBatch states v w a b y z → X) → X
  agree (yes e) f = e
  agree (no n) f = absurd (not-two (λ o. n (f o)))

  -- one reply and one list of answers; the arrangement of the places alone is free
  pub batch_one : OneBatch states v w a b y z
  batch_one = record {
    reply = same-reply {y = y} {z = z} (same (λ x. x.number)) (same (λ x. x.rounds)) (same (λ x. x.peak)) (same (λ x. x.value));
    answers = agree (List-discrete ℕ_discrete a b) (λ o. o.answers);
    size = agree (ℕ_discrete (length v) (length w)) (λ o. o.size);
    past = agree (List-discrete ℕ_discrete (drop (length states) v) (drop (length states) w)) (λ o. o.past);
    refused = λ n. agree (List-discrete ℕ_discrete v w) (λ o. o.refused n);
  }
    where
      same : (f : Reply → ℕ) → f y ≡ f z
      same f = agree (ℕ_discrete (f y) (f z)) (λ o. ap f o.reply)
