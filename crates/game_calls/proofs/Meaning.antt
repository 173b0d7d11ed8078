-- ONE ANSWER of the second call (the first is a set call, which has `call-one`), and both calls in plain words, over lent words.
-- Assumes nothing.
use mathlib.Core.Path.{◌≡◌, refl, sym, ap, ◌∙◌, subst}
use mathlib.Core.HLevel.{Discrete}
use mathlib.Core.Bool.{Bool, true, false, ◌&&◌, ◌||◌, Bool-discrete}
use mathlib.Core.List.{List}
use Prim.Native.Nat.{ℕ, ◌^◌}
use native.Mathlib.Decide.{ℕ_discrete}
use lib.Dec.{T, eqb}
use Rattle.accounts.specs.declared.Terms.{Terms}
use Rattle.layout.specs.Refusals.{keeps_all}
use Rattle.rows.specs.Sound.{table_of}
use Rattle.book.specs.Book.{Book, collect, does}
use Rattle.book.specs.Table.{Reply}
use Rattle.book.specs.BookOf.{book_of}
use Rattle.book.proofs.BookOf.{whole-book_of, only-book}
use Rattle.book.specs.Stored.{Whole}
use Rattle.book.proofs.Stored.{whole-does}
use Rattle.contract.specs.Seen.{seen, SoundWords}
use Rattle.contract.proofs.Seen.{any-words, sound-table}
use Rattle.contract.specs.Kept.{free_word, changes}
use Rattle.contract.specs.Posts.{CallPost}
use Rattle.games.specs.Call.{game_call, presses, reactions, goals, forced_in}
use Rattle.games.specs.Meaning.{AnswerIs}
use Rattle.games.proofs.Meaning.{forced-set, force_stores, react-answers, react_fifteen}
use Rattle.game_calls.specs.Post.{ReactPost}
use Rattle.game_calls.specs.OneReact.{OneReact}
use Rattle.game_calls.specs.Meaning.{ForceMeant, ReactMeant}

-- a word that is not free is not changed
fixed : (h : ℕ) (y : Reply) → free_word h ≡ false → changes collect y h ≡ false
fixed h y e = ap (λ (x : Bool). x || (eqb y.number 0 && false)) e ∙ none (eqb y.number 0)
  where
    none : (x : Bool) → (x && false) ≡ false
    none true = refl
    none false = refl

module _ (acc : Terms) (R goal guest machine s t : ℕ) (old : List ℕ) {v w : List ℕ} {y z : Reply}
    (p : ReactPost acc R goal guest machine s t old v y) (q : ReactPost acc R goal guest machine s t old w z) where
  -- what can be told apart agrees, if it does on sound words and on others
  agree : {X : Type 0} → Discrete X → {c d : X} → (SoundWords old → c ≡ d) → ((SoundWords old → ⊥) → c ≡ d) → c ≡ d
  agree x {c} {d} f g = any-words old (x c d) f g

  one_number : y.number ≡ z.number
  one_number =
      agree ℕ_discrete (λ s. ap (λ (r : Reply). r.number) ((p.told s).reply ∙ sym (q.told s).reply))
      (λ n. (p.unsound n).0.0 ∙ sym (q.unsound n).0.0)

  one_end : (SoundWords old → ⊥) → v ≡ w
  one_end n = (p.unsound n).1 ∙ sym (q.unsound n).1

  one-rounds : y.rounds ≡ z.rounds
  one-rounds =
      agree ℕ_discrete (λ s. ap (λ (r : Reply). r.rounds) ((p.told s).reply ∙ sym (q.told s).reply))
      (λ n. (p.unsound n).0.1 ∙ sym (q.unsound n).0.1)

  one-peak : y.peak ≡ z.peak
  one-peak =
      agree ℕ_discrete (λ s. ap (λ (r : Reply). r.peak) ((p.told s).reply ∙ sym (q.told s).reply))
      (λ n. (p.unsound n).0.2 ∙ sym (q.unsound n).0.2)

  one_value : y.value ≡ z.value
  one_value =
      agree ℕ_discrete (λ s. ap (λ (r : Reply). r.value) ((p.told s).reply ∙ sym (q.told s).reply))
      (λ n. (p.unsound n).0.3 ∙ sym (q.unsound n).0.3)

  -- one reply, and one book of the words that are left
  pub react-one : OneReact old v w y z
  react-one = record {
    reply = λ i. record { number = one_number i; rounds = one-rounds i; peak = one-peak i; value = one_value i };
    book = p.book ∙ sym q.book;
    size = p.kept.size ∙ sym q.kept.size;
    header = λ h i e. p.kept.header h i (fixed h y e) ∙ sym (q.kept.header h i (fixed h z e));
    rows = λ i h. record {
      used = agree Bool-discrete (λ s. (p.told s).rows.used i h ∙ sym ((q.told s).rows.used i h))
          (λ n. ap (λ (u : List ℕ). (seen u).rows.used i) (one_end n));
      level =
          agree ℕ_discrete (λ s. (p.told s).rows.level i h ∙ sym ((q.told s).rows.level i h))
          (λ n. ap (λ (u : List ℕ). (seen u).rows.level i) (one_end n));
      low = agree ℕ_discrete (λ s. (p.told s).rows.low i h ∙ sym ((q.told s).rows.low i h))
          (λ n. ap (λ (u : List ℕ). (seen u).rows.low i) (one_end n));
      high = agree ℕ_discrete (λ s. (p.told s).rows.high i h ∙ sym ((q.told s).rows.high i h))
          (λ n. ap (λ (u : List ℕ). (seen u).rows.high i) (one_end n));
    };
    spare = λ i h. p.kept.spare i h ∙ sym (q.kept.spare i h);
    beyond = λ i h. p.kept.beyond i h ∙ sym (q.kept.beyond i h);
    all = λ h. p.kept.all h ∙ sym (q.kept.all (subst (λ (x : ℕ). T (keeps_all x)) one_number h));
  }

-- ---- in plain words

-- THE FIRST CALL: what is stored is the set of the game
pub force_means : (acc : Terms) (r R goal guest machine : ℕ) {old new : List ℕ} {y : Reply}
    → CallPost (game_call acc r R goal guest machine) old new y → SoundWords old → y.number ≡ 0 → ForceMeant r goal guest machine old new
force_means acc r R goal guest machine {old} {new} {y} p s e =
    let bk = book_of (seen old) in
    let c = game_call acc r R goal guest machine in
    let w : Whole bk = whole-book_of (seen old) (sound-table (table_of old) s) in
    let d = (p.performs.served s).1 in
    let same : (does bk c).0 ≡ book_of (seen new) = only-book (does bk c).0 (seen new) (whole-does bk c w) d.shows in
    record {
      set = forced_in bk goal guest machine;
      stored = ap (λ (b : Book). b.reg r) (sym same) ∙ force_stores bk goal guest machine w acc r R (sym d.agrees.number ∙ e);
      is = forced-set (2 ^ bk.n) (presses bk guest) (reactions bk machine) (goals bk goal);
    }

-- THE SECOND CALL
pub react-means : (acc : Terms) (R goal guest machine s t : ℕ) {old new : List ℕ} {y : Reply}
    → ReactPost acc R goal guest machine s t old new y → SoundWords old → ReactMeant goal guest machine s t old y.number y.value
react-means acc R goal guest machine s t {old} {new} {y} p w =
    let bk = book_of (seen old) in
    let e = (p.told w).reply in
    record {
      set = forced_in bk goal guest machine;
      is = forced-set (2 ^ bk.n) (presses bk guest) (reactions bk machine) (goals bk goal);
      answered = λ z.
          subst (λ (u : Reply). AnswerIs (2 ^ bk.n) (presses bk guest) (reactions bk machine)
          (goals bk goal) (forced_in bk goal guest machine) s t u.value) (sym e)
          (react-answers bk goal guest machine acc R s t (sym (ap (λ (u : Reply). u.number) e) ∙ z));
      no_answer = λ z. react_fifteen bk goal guest machine acc R s t (sym (ap (λ (u : Reply). u.number) e) ∙ z);
    }
