-- Laws of what specs/OnePath.antt defines. Assumes nothing.
use mathlib.Core.Path.{◌≡◌, refl, sym, ap, ◌∙◌, subst}
use mathlib.Core.HLevel.{Discrete}
use mathlib.Core.Bool.{Bool, true, false, ◌&&◌, ◌||◌, Bool-discrete}
use mathlib.Core.List.{List, List-discrete}
use Prim.Native.Nat.{ℕ, ◌^◌}
use native.Mathlib.Decide.{ℕ_discrete}
use lib.Dec.{T, eqb}
use Rattle.mucalculus.specs.Form.{inside}
use Rattle.layout.specs.Refusals.{keeps_all}
use Rattle.book.specs.Book.{collect}
use Rattle.book.specs.Table.{Reply}
use Rattle.book.specs.BookOf.{book_of}
use Rattle.book.proofs.BookOf.{whole-book_of}
use Rattle.rows.specs.Sound.{table_of}
use Rattle.contract.specs.Seen.{seen, SoundWords}
use Rattle.contract.proofs.Seen.{any-words, sound-table}
use Rattle.contract.specs.Kept.{free_word, changes}
use Rattle.paths.specs.Call.{Ended, shortest}
use Rattle.paths.specs.Meaning.{Meant}
use Rattle.paths.proofs.Meaning.{shortest-means}
use Rattle.path_calls.specs.Post.{PathPost}
use Rattle.path_calls.specs.OnePath.{OnePath}

-- a word that is not free is not changed
pub fixed : (h : ℕ) (y : Reply) → free_word h ≡ false → changes collect y h ≡ false
fixed h y e = ap (λ (x : Bool). x || (eqb y.number 0 && false)) e ∙ none (eqb y.number 0)
  where
    none : (x : Bool) → (x && false) ≡ false
    none true = refl
    none false = refl

module _ (a b t : ℕ) (old : List ℕ) {v w list k l : List ℕ} {y z : Reply} (p : PathPost a b t old v list k y)
    (q : PathPost a b t old w list l z) where
  -- what can be told apart agrees, if it does on sound words and on others
  agree : {X : Type 0} → Discrete X → {c d : X} → (SoundWords old → c ≡ d) → ((SoundWords old → ⊥) → c ≡ d) → c ≡ d
  agree x {c} {d} f g = any-words old (x c d) f g

  one_number : y.number ≡ z.number
  one_number =
      agree ℕ_discrete (λ s. ap (λ (r : Reply). r.number) ((p.told s).reply ∙ sym (q.told s).reply))
      (λ n. (p.unsound n).0.0 ∙ sym (q.unsound n).0.0)

  one_end : (SoundWords old → ⊥) → v ≡ w
  one_end n = (p.unsound n).1 ∙ sym (q.unsound n).1

  -- one reply and one list, and one book of the words that are left
  pub path_one : OnePath old v w k l y z
  path_one = record {
    number = one_number;
    rounds =
        agree ℕ_discrete (λ s. ap (λ (r : Reply). r.rounds) ((p.told s).reply ∙ sym (q.told s).reply))
        (λ n. (p.unsound n).0.1 ∙ sym (q.unsound n).0.1);
    peak = agree ℕ_discrete (λ s. ap (λ (r : Reply). r.peak) ((p.told s).reply ∙ sym (q.told s).reply))
        (λ n. (p.unsound n).0.2 ∙ sym (q.unsound n).0.2);
    states =
        agree ℕ_discrete (λ s. ap (λ (r : Reply). r.value) ((p.told s).reply ∙ sym (q.told s).reply))
        (λ n. (p.unsound n).0.3 ∙ sym (q.unsound n).0.3);
    list = agree (List-discrete ℕ_discrete) (λ s. (p.told s).list ∙ sym (q.told s).list) (λ n. (p.unsound n).2 ∙ sym (q.unsound n).2);
    book = p.book ∙ sym q.book;
    size = p.kept.size ∙ sym q.kept.size;
    header = λ h i e. p.kept.header h i (fixed h y e) ∙ sym (q.kept.header h i (fixed h z e));
    rows = λ i h. record {
      used = agree Bool-discrete (λ s. (p.told s).rows.used i h ∙ sym ((q.told s).rows.used i h))
          (λ n. ap (λ (u : List ℕ). (seen u).rows.used i) (one_end n));
      level =
          agree ℕ_discrete (λ s. (p.told s).rows.level i h ∙ sym ((q.told s).rows.level i h))
          (λ n. ap (λ (u : List ℕ). (seen u).rows.level i) (one_end n));
      low = agree ℕ_discrete (λ s. (p.told s).rows.low i h ∙ sym ((q.told s).rows.low i h))
          (λ n. ap (λ (u : List ℕ). (seen u).rows.low i) (one_end n));
      high = agree ℕ_discrete (λ s. (p.told s).rows.high i h ∙ sym ((q.told s).rows.high i h))
          (λ n. ap (λ (u : List ℕ). (seen u).rows.high i) (one_end n));
    };
    spare = λ i h. p.kept.spare i h ∙ sym (q.kept.spare i h);
    beyond = λ i h. p.kept.beyond i h ∙ sym (q.kept.beyond i h);
    all = λ h. p.kept.all h ∙ sym (q.kept.all (subst (λ (x : ℕ). T (keeps_all x)) one_number h));
  }

-- the same in plain words: on a sound table the list is the one shortest run of the book that the words stand for, 10 says that there is no
-- run, 11 that the list is too short for it, and every refusal keeps the list
pub path_means : (a b t : ℕ) {old new lent left : List ℕ} {y : Reply} → PathPost a b t old new lent left y → SoundWords old
    → Meant (2 ^ (book_of (seen old)).n) (inside ((book_of (seen old)).rel t)) (inside ((book_of (seen old)).reg a))
    (inside ((book_of (seen old)).reg b)) lent (record { reply = y; list = left })
path_means a b t {old} {new} {lent} {left} {y} p s =
    let q : Ended
    → Type 0 = Meant (2 ^ (book_of (seen old)).n) (inside ((book_of (seen old)).rel t)) (inside ((book_of (seen old)).reg a))
    (inside ((book_of (seen old)).reg b)) lent in
    let is : shortest (book_of (seen old)) a b t lent
    ≡ record { reply = y; list = left } = λ i. record { reply = sym (p.told s).reply i; list = sym (p.told s).list i } in
    subst q is (shortest-means (book_of (seen old)) lent (whole-book_of (seen old) (sound-table (table_of old) s)) a b t)
