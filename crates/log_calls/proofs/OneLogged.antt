-- ONE ANSWER of the call for two logs, and its meaning in plain words. Assumes nothing.
use mathlib.Core.Path.{◌≡◌, sym, ap, ◌∙◌, subst}
use mathlib.Core.HLevel.{Discrete}
use mathlib.Core.Bool.{Bool-discrete}
use mathlib.Core.List.{List, List-discrete}
use Prim.Native.Nat.{ℕ, suc}
use native.Mathlib.Decide.{ℕ_discrete}
use lib.Dec.{T}
use lib.ListN.{length}
use Rattle.mucalculus.specs.Form.{inside}
use Rattle.layout.specs.Refusals.{keeps_all}
use Rattle.book.specs.Table.{Reply}
use Rattle.book.specs.BookOf.{book_of}
use Rattle.contract.specs.Seen.{seen, SoundWords}
use Rattle.contract.proofs.Seen.{any-words}
use Rattle.paths.specs.Call.{Ended}
use Rattle.path_calls.specs.OnePath.{OnePath}
use Rattle.path_calls.proofs.OnePath.{fixed}
use Rattle.logs.specs.Runs.{moment_at}
use Rattle.logs.specs.Call.{logs_fit, last_moment, logged}
use Rattle.logs.specs.Meaning.{LogMeant}
use Rattle.logs.proofs.Meaning.{logged-means}
use Rattle.log_calls.specs.Post.{LogPost}

-- of what can be told apart, what is not different is the same
not-two : {X : Type 0} → Discrete X → {c d : X} → ((c ≡ d → ⊥) → ⊥) → c ≡ d
not-two x {c} {d} h = go (x c d)
  where
    go : Dec (c ≡ d) → c ≡ d
    go (yes e) = e
    go (no n) = absurd (h n)

module _ (t : ℕ) (one two old : List ℕ) {v w list k l : List ℕ} {y z : Reply} (p : LogPost t one two old v list k y)
    (q : LogPost t one two old w list l z) where
  abbrev Fit : Type 0
  Fit = T (logs_fit (length one) (length two))

  -- what can be told apart agrees, if it does where a check refuses, and on sound words: no check is decided
  agree : {X : Type 0} → Discrete X → {c d : X} → ((Fit → ⊥) → c ≡ d) → (Fit → (SoundWords old → ⊥) → c ≡ d)
      → (Fit → SoundWords old → c ≡ d) → c ≡ d
  agree x f g h = not-two x (λ n. n (f (λ a. n (any-words old (x _ _) (h a) (g a)))))

  one_number : y.number ≡ z.number
  one_number =
      agree ℕ_discrete (λ n. (p.sizes n).0.0 ∙ sym (q.sizes n).0.0) (λ f n. (p.unsound f n).0.0 ∙ sym (q.unsound f n).0.0)
      (λ f s. ap (λ (r : Reply). r.number) ((p.told s).reply ∙ sym (q.told s).reply))

  -- one reply and one list, and one book of the words that are left
  pub logged-one : OnePath old v w k l y z
  logged-one = record {
    number = one_number;
    rounds =
        agree ℕ_discrete (λ n. (p.sizes n).0.1 ∙ sym (q.sizes n).0.1) (λ f n. (p.unsound f n).0.1 ∙ sym (q.unsound f n).0.1)
        (λ f s. ap (λ (r : Reply). r.rounds) ((p.told s).reply ∙ sym (q.told s).reply));
    peak =
        agree ℕ_discrete (λ n. (p.sizes n).0.2 ∙ sym (q.sizes n).0.2) (λ f n. (p.unsound f n).0.2 ∙ sym (q.unsound f n).0.2)
        (λ f s. ap (λ (r : Reply). r.peak) ((p.told s).reply ∙ sym (q.told s).reply));
    states =
        agree ℕ_discrete (λ n. (p.sizes n).0.3 ∙ sym (q.sizes n).0.3) (λ f n. (p.unsound f n).0.3 ∙ sym (q.unsound f n).0.3)
        (λ f s. ap (λ (r : Reply). r.value) ((p.told s).reply ∙ sym (q.told s).reply));
    list =
        agree (List-discrete ℕ_discrete) (λ n. (p.sizes n).2 ∙ sym (q.sizes n).2) (λ f n. (p.unsound f n).2 ∙ sym (q.unsound f n).2)
        (λ f s. (p.told s).list ∙ sym (q.told s).list);
    book = p.book ∙ sym q.book;
    size = p.kept.size ∙ sym q.kept.size;
    header = λ h i e. p.kept.header h i (fixed h y e) ∙ sym (q.kept.header h i (fixed h z e));
    rows = λ i h. record {
      used =
          agree Bool-discrete (λ n. ap (λ (u : List ℕ). (seen u).rows.used i) ((p.sizes n).1 ∙ sym (q.sizes n).1))
          (λ f n. ap (λ (u : List ℕ). (seen u).rows.used i) ((p.unsound f n).1 ∙ sym (q.unsound f n).1))
          (λ f s. (p.told s).rows.used i h ∙ sym ((q.told s).rows.used i h));
      level =
          agree ℕ_discrete (λ n. ap (λ (u : List ℕ). (seen u).rows.level i) ((p.sizes n).1 ∙ sym (q.sizes n).1))
          (λ f n. ap (λ (u : List ℕ). (seen u).rows.level i) ((p.unsound f n).1 ∙ sym (q.unsound f n).1))
          (λ f s. (p.told s).rows.level i h ∙ sym ((q.told s).rows.level i h));
      low =
          agree ℕ_discrete (λ n. ap (λ (u : List ℕ). (seen u).rows.low i) ((p.sizes n).1 ∙ sym (q.sizes n).1))
          (λ f n. ap (λ (u : List ℕ). (seen u).rows.low i) ((p.unsound f n).1 ∙ sym (q.unsound f n).1))
          (λ f s. (p.told s).rows.low i h ∙ sym ((q.told s).rows.low i h));
      high =
          agree ℕ_discrete (λ n. ap (λ (u : List ℕ). (seen u).rows.high i) ((p.sizes n).1 ∙ sym (q.sizes n).1))
          (λ f n. ap (λ (u : List ℕ). (seen u).rows.high i) ((p.unsound f n).1 ∙ sym (q.unsound f n).1))
          (λ f s. (p.told s).rows.high i h ∙ sym ((q.told s).rows.high i h));
    };
    spare = λ i h. p.kept.spare i h ∙ sym (q.kept.spare i h);
    beyond = λ i h. p.kept.beyond i h ∙ sym (q.kept.beyond i h);
    all = λ h. p.kept.all h ∙ sym (q.kept.all (subst (λ (x : ℕ). T (keeps_all x)) one_number h));
  }

-- the same in plain words: on a sound table the list is the least run of the book that fits both logs, 10 says that there is none, 11 that
-- the list is too short for it, and every refusal keeps the list
pub logged_plainly : (t : ℕ) {one two old new lent left : List ℕ} {y : Reply} → LogPost t one two old new lent left y
    → SoundWords old
    → LogMeant (book_of (seen old)).n (inside ((book_of (seen old)).rel t)) (book_of (seen old)).valid (moment_at one two)
    (suc (last_moment one)) lent (record { reply = y; list = left })
logged_plainly t {one} {two} {old} {new} {lent} {left} {y} p s =
    let q : Ended
    → Type 0 = LogMeant (book_of (seen old)).n (inside ((book_of (seen old)).rel t)) (book_of (seen old)).valid (moment_at one two)
    (suc (last_moment one)) lent in
    let is : logged (book_of (seen old)) t one two lent
    ≡ record { reply = y; list = left } = λ i. record { reply = sym (p.told s).reply i; list = sym (p.told s).list i } in
    subst q is (logged-means (book_of (seen old)) t one two lent)
