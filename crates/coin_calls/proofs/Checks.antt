-- The call's contract from its checks, its search and the writing of the run. Assumes nothing.
use mathlib.Core.Path.{◌≡◌, refl, sym, ap, ◌∙◌, subst}
use mathlib.Core.Logic.{◌⊎◌, inl, inr}
use mathlib.Core.Bool.{Bool}
use mathlib.Core.List.{List, ◌++◌}
use mathlib.Core.Option.{none, some}
use Prim.Native.Nat.{ℕ, zero, suc, ◌+◌, ◌-◌, ◌*◌, ◌%◌, ◌^◌, ◌≤◌, ◌<◌}
use native.Mathlib.Nat.{one-mul, mod-eq_of_lt}
use native.Mathlib.Omega.{arith}
use lib.ListN.{length, take, drop}
use lib.Seq.{length-take-le, length_front, drop-append_seam}
use lib.Pow.{pow_mono}
use Rattle.mucalculus.specs.Sets.{mem}
use Rattle.layout.specs.Places.{BITS, ROWS, VALID, FIRST_REGISTER, FIRST_RELATION, ROOTS_END}
use Rattle.layout.specs.View.{View, view, header_of}
use Rattle.diagram.specs.Rows.{Rows, Arrow, den}
use Rattle.rows.specs.Used.{rows_of}
use Rattle.rows.specs.Roots.{Ref}
use Rattle.rows.specs.Sound.{Sound, table_of}
use Rattle.collect.proofs.Answers.{sound-base}
use Rattle.book.specs.Bridge.{set_of}
use Rattle.book.specs.Book.{registers, relations}
use Rattle.book.proofs.Effects.{in-range}
use Rattle.book.specs.BookOf.{stands_for, book_of}
use Rattle.book.proofs.Stored.{none-some}
use Rattle.contract.specs.Seen.{arrow_in, seen, SoundWords}
use Rattle.seek.specs.Walk.{HoldsPre}
use Rattle.coins.specs.Runs.{leads_in}
use Rattle.coins.specs.Post.{FareReply, fare_refused, FareTold, BothThere, FareBy, FarePost}
use Rattle.coin_search.specs.Hall.{leads_at, in_set, Hall}
use Rattle.coin_search.proofs.Hall.{filled-below, filled-some}
use Rattle.coin_search.specs.Search.{SearchPre}
use Rattle.coin_calls.specs.Asks.{BetweenPost}
use Rattle.coin_calls.proofs.Moved.{told_moved, words-agree}

-- ---- refusals by the checks

module _ (a b : ℕ) (words prices work states relations : List ℕ) where
  -- the price list
  pub fare_prices : (length prices ≡ 8 → ⊥) → FarePost a b words prices work work states states relations relations (fare_refused 1)
  fare_prices n = record {
    prices_fit = λ _. refl;
    unsound = λ e. absurd (n e);
    by-book = λ e. absurd (n e);
    kept = λ _. (refl, refl);
    size = refl;
    work_kept = λ _. refl;
    work_past = λ _. refl;
  }

  module _ (e : length prices ≡ 8) where
    pub fare_unsound : (SoundWords words → ⊥) → FarePost a b words prices work work states states relations relations (fare_refused 2)
    fare_unsound n = record {
      prices_fit = λ q. absurd (q e);
      unsound = λ _ _. refl;
      by-book = λ _ s. absurd (n s);
      kept = λ _. (refl, refl);
      size = refl;
      work_kept = λ _. refl;
      work_past = λ _. refl;
    }

    module _ (s : SoundWords words) where
      -- a refusal by the book
      fare_refused_lem : (k : ℕ) → FareBy (book_of (seen words)) a b prices work states states relations relations (fare_refused k)
          → FarePost a b words prices work work states states relations relations (fare_refused k)
      fare_refused_lem k y = record {
        prices_fit = λ q. absurd (q e);
        unsound = λ _ n. absurd (n s);
        by-book = λ _ _. y;
        kept = λ _. (refl, refl);
        size = refl;
        work_kept = λ _. refl;
        work_past = λ _. refl;
      }

      -- the work list
      pub fare_work : length work < 2 ^ header_of words BITS
          → FarePost a b words prices work work states states relations relations (fare_refused 1)
      fare_work h = fare_refused_lem 1 (record {
        work_fits = λ _. refl;
        range = λ l. absurd (omega arith);
        empty = λ l. absurd (omega arith);
        told = λ l. absurd (omega arith);
      })

      module _ (w : 2 ^ header_of words BITS ≤ length work) where
        pub fare_range : (BothThere a b → ⊥) → FarePost a b words prices work work states states relations relations (fare_refused 3)
        fare_range n = fare_refused_lem 3 (record {
          work_fits = λ l. absurd (omega arith);
          range = λ _ _. refl;
          empty = λ _ r. absurd (n r);
          told = λ _ r. absurd (n r);
        })

        module _ (r : BothThere a b) where
          -- an empty register stands for no set
          stands-none : {i : ℕ} → i < registers → (seen words).reg i ≡ none → (book_of (seen words)).reg i ≡ none
          stands-none {i} l z =
              in-range _ none i registers l ∙ ap (stands_for (set_of (seen words).n) (den (2 * (seen words).n) (seen words).rows)) z

          fare_empty : ((book_of (seen words)).reg a ≡ none) ⊎ ((book_of (seen words)).reg b ≡ none)
              → FarePost a b words prices work work states states relations relations (fare_refused 7)
          fare_empty z = fare_refused_lem 7 (record {
            work_fits = λ l. absurd (omega arith);
            range = λ _ n. absurd (n r);
            empty = λ _ _ _. refl;
            told = λ _ _ A B ha hb. absurd (go z ha hb);
          })
            where
              go : {A B : List Bool} → ((book_of (seen words)).reg a ≡ none) ⊎ ((book_of (seen words)).reg b ≡ none)
                  → (book_of (seen words)).reg a ≡ some A → (book_of (seen words)).reg b ≡ some B → ⊥
              go (inl y) ha hb = none-some (sym y ∙ ha)
              go (inr y) ha hb = none-some (sym y ∙ hb)

          pub fare_first : {x : ℕ} → x ≡ header_of words (FIRST_REGISTER + a) → x ≡ 0
              → FarePost a b words prices work work states states relations relations (fare_refused 7)
          fare_first ex z = fare_empty (inl (stands-none r.first (ap arrow_in (sym ex ∙ z))))

          pub fare_second : {y : ℕ} → y ≡ header_of words (FIRST_REGISTER + b) → y ≡ 0
              → FarePost a b words prices work work states states relations relations (fare_refused 7)
          fare_second ey z = fare_empty (inr (stands-none r.second (ap arrow_in (sym ey ∙ z))))

-- ---- the search

-- the shift that gives the number of states
pub states_are : (p : ℕ) → p ≤ 16 → 1 * 2 ^ p % 18_446_744_073_709_551_616 ≡ 2 ^ p
states_are p l =
    let most : 2 ^ p ≤ 2 ^ 16 = pow_mono {i = p} {j = 16} l in
    let e : 1 * 2 ^ p ≡ 2 ^ p = one-mul (2 ^ p) in
    let small : 2 ^ p % 18_446_744_073_709_551_616 ≡ 2 ^ p = mod-eq_of_lt (omega arith) in
    ap (λ (x : ℕ). x % 18_446_744_073_709_551_616) e ∙ small

module _ (words : List ℕ) (s : SoundWords words) {bits : ℕ} (eb : bits ≡ header_of words BITS) where
  pub few_bits : bits ≤ 16
  few_bits = let l = s.good.sizes.n_max in omega arith

  pub states-eq : 1 * 2 ^ bits % 18_446_744_073_709_551_616 ≡ 2 ^ header_of words BITS
  states-eq = states_are bits few_bits ∙ ap (λ (k : ℕ). 2 ^ k) eb

  pub work_short : {m : ℕ} → m < 1 * 2 ^ bits % 18_446_744_073_709_551_616 → m < 2 ^ header_of words BITS
  work_short {m} h = subst (λ (k : ℕ). m < k) states-eq h

  pub work_long : {m : ℕ} → 1 * 2 ^ bits % 18_446_744_073_709_551_616 ≤ m → 2 ^ header_of words BITS ≤ m
  work_long {m} h = subst (λ (k : ℕ). k ≤ m) states-eq h

ref-arrow : (rows : Rows) (x : ℕ) → 1 ≤ x → Ref rows x → Arrow rows (x - 1)
ref-arrow rows zero l h = absurd (omega arith)
ref-arrow rows (suc k) l h = let q : k ≡ suc k - 1 = omega arith in subst (Arrow rows) q h

-- what a filled place holds can be walked from
walks : {W : View} → Sound W → (h : ℕ) → VALID ≤ h → h < ROOTS_END → 1 ≤ W.header h → HoldsPre W (W.header h - 1)
walks {W} s h l k y = record {
  mark = record { base = sound-base s; arrow = ref-arrow (rows_of W) (W.header h) y (s.refs h l k) };
  bits = s.good.sizes.n_max;
}

-- a filled register stands for a set
stands-some : (words : List ℕ) {i z : ℕ} → i < registers → z ≡ header_of words (FIRST_REGISTER + i) → (z ≡ 0 → ⊥)
    → (book_of (seen words)).reg i ≡ none → ⊥
stands-some words {i} {z} l ez f h =
    go z f (ap (λ (k : ℕ). stands_for (set_of (seen words).n) (den (2 * (seen words).n) (seen words).rows) (arrow_in k)) ez
    ∙ sym (in-range _ none i registers l) ∙ h)
  where
    go : (z : ℕ) → (z ≡ 0 → ⊥) → stands_for (set_of (seen words).n) (den (2 * (seen words).n) (seen words).rows) (arrow_in z) ≡ none → ⊥
    go zero f h = f refl
    go (suc k) f h = none-some (sym h)

module _ {a b : ℕ} (words prices work : List ℕ) (e : length prices ≡ 8) (s : SoundWords words)
    (w : 2 ^ header_of words BITS ≤ length work) (r : BothThere a b) {rows bits x y : ℕ} (er : rows ≡ header_of words ROWS)
    (eb : bits ≡ header_of words BITS) (ex : x ≡ header_of words (FIRST_REGISTER + a)) (ey : y ≡ header_of words (FIRST_REGISTER + b))
    (fx : x ≡ 0 → ⊥) (fy : y ≡ 0 → ⊥) where
  -- by the words' own sizes, and by what the code read
  owned : (P : View → ℕ → Type 0) → P (view rows words) bits → P (table_of words) (header_of words BITS)
  owned P p = subst (λ (k : ℕ). P (view k words) (header_of words BITS)) er (subst (λ (k : ℕ). P (view rows words) k) eb p)

  read : (P : View → ℕ → Type 0) → P (table_of words) (header_of words BITS) → P (view rows words) bits
  read P p =
      subst (λ (k : ℕ). P (view rows words) k) (sym eb) (subst (λ (k : ℕ). P (view k words) (header_of words BITS)) (sym er) p)

  hall : {part : List ℕ} → 2 ^ header_of words BITS ≤ length part → Hall (table_of words) (header_of words BITS) prices part
  hall room = record {
    small = s.good.sizes.n_max;
    priced = e;
    room = room;
    arrows = λ q f. let l = filled-below (header_of words) q f in
        walks s (FIRST_RELATION + q) (omega arith) (omega arith) (filled-some (header_of words) q f);
  }

  register-walks : {z k : ℕ} → k < registers → z ≡ header_of words (FIRST_REGISTER + k) → (z ≡ 0 → ⊥) → HoldsPre (table_of words) (z - 1)
  register-walks {z} {k} l ez f =
      subst (λ (i : ℕ). HoldsPre (table_of words) (i - 1)) (sym ez)
      (walks s (FIRST_REGISTER + k) (omega arith) (omega arith) (some_word z (header_of words (FIRST_REGISTER + k)) ez f))
    where
      some_word : (z i : ℕ) → z ≡ i → (z ≡ 0 → ⊥) → 1 ≤ i
      some_word z i ez f = omega arith

  -- the first of the work words are enough
  pub call_asks : (k : ℕ) → k ≡ 2 ^ header_of words BITS → SearchPre (view rows words) bits prices (take k work) (x - 1) (y - 1)
  call_asks k ek = read (λ W n. SearchPre W n prices (take k work) (x - 1) (y - 1)) (record {
    hall = hall (let l = length-take-le k work (omega arith) in omega arith);
    from = register-walks r.first ex fx;
    into = register-walks r.second ey fy;
  })

  told-book : {states states' relations relations' : List ℕ} {o : FareReply}
      → FareTold (2 ^ bits) (leads_at (view rows words)) (in_set (view rows words) (x - 1)) (in_set (view rows words) (y - 1)) prices states
      states' relations relations' o
      → (A B : List Bool) → (book_of (seen words)).reg a ≡ some A → (book_of (seen words)).reg b ≡ some B
      → FareTold (2 ^ header_of words BITS) (leads_in (book_of (seen words)).rel) (mem A) (mem B) prices states states' relations relations' o
  told-book {states} {states'} {relations} {relations'} {o} t A B ha hb =
      told_moved (words-agree words r.first r.second ex ey fx fy ha hb)
      (owned (λ W n. FareTold (2 ^ n) (leads_at W) (in_set W (x - 1)) (in_set W (y - 1)) prices states states' relations relations' o) t)

  filled : ((book_of (seen words)).reg a ≡ none) ⊎ ((book_of (seen words)).reg b ≡ none) → ⊥
  filled (inl z) = stands-some words r.first ex fx z
  filled (inr z) = stands-some words r.second ey fy z

  -- the first of the work words came back as others, those past them as they were
  module _ {k : ℕ} (ek : k ≡ 2 ^ header_of words BITS) {part states states' relations relations' : List ℕ} {o : FareReply}
      (p : BetweenPost (view rows words) bits prices (take k work) part states states' relations relations' (x - 1) (y - 1) o) where
    past : drop (2 ^ header_of words BITS) (part ++ drop k work) ≡ drop (2 ^ header_of words BITS) work
    past =
        let l : length part ≡ 2 ^ header_of words BITS = p.size ∙ length-take-le k work (omega arith) ∙ ek in
        ap (λ (j : ℕ). drop j (part ++ drop k work)) (sym l) ∙ drop-append_seam part (drop k work) ∙ ap (λ (j : ℕ). drop j work) ek

    pub fare_ends : FarePost a b words prices work (part ++ drop k work) states states' relations relations' o
    fare_ends = record {
      prices_fit = λ q. absurd (q e);
      unsound = λ _ n. absurd (n s);
      by-book = λ _ _. record {
        work_fits = λ h. absurd (omega arith);
        range = λ _ n. absurd (n r);
        empty = λ _ _ z. absurd (filled z);
        told = λ _ _ A B ha hb. told-book p.told A B ha hb;
      };
      kept = p.kept;
      size = length_front work part k p.size;
      work_kept = λ h. absurd (p.late h);
      work_past = λ _. past;
    }
