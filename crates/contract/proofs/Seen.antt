-- Laws of what specs/Seen.antt defines. Assumes nothing.
use mathlib.Core.Path.{◌≡◌, refl, sym, ap, ◌∙◌, subst}
use mathlib.Core.List.{List, [], ◌∷◌}
use mathlib.Core.Option.{some}
use Prim.Native.Nat.{ℕ, zero, suc, ◌+◌, ◌-◌, ◌≤◌}
use mathlib.Core.Logic.{by_cases, ◌≢◌}
use native.Mathlib.Decide.{dec_lt}
use native.Mathlib.Omega.{arith}
use Rattle.layout.specs.Places.{VALID, FIRST_REGISTER, FIRST_RELATION}
use Rattle.layout.specs.View.{View}
use Rattle.diagram.specs.Rows.{Arrow}
use Rattle.diagram.specs.Reach.{Reach}
use Rattle.rows.specs.Used.{rows_of}
use Rattle.rows.specs.Roots.{Ref}
use Rattle.rows.specs.Within.{valid_of}
use Rattle.rows.specs.Sound.{Good, Sound, table_of}
use Rattle.book.proofs.Stored.{some_inj, none-some}
use Rattle.book.specs.Table.{Shows}
use Rattle.book.specs.BookOf.{SoundTable, book_of}
use Rattle.book.proofs.BookOf.{shows-book_of}
use Rattle.contract.specs.Seen.{arrow_in, seen_in, seen, SoundWords}

-- what can be decided holds of any words if it holds of sound ones and of others; soundness itself need not be decided
pub any-words : {P : Type 0} (ws : List ℕ) → Dec P → (SoundWords ws → P) → ((SoundWords ws → ⊥) → P) → P
any-words ws (yes e) f g = e
any-words ws (no n) f g = g (λ s. n (f s))

-- ---- a sound table stands for a book, and shows it

-- a filled root's word
pub word_of : (w a : ℕ) → arrow_in w ≡ some a → w ≡ suc a
word_of zero a e = absurd (none-some e)
word_of (suc b) a e = ap suc (some_inj e)

-- V's word, which is never empty
pub valid_word : (W : View) → W.header VALID ≢ 0 → W.header VALID ≡ suc (valid_of W)
valid_word W n = go (W.header VALID) n
  where
    go : (w : ℕ) → w ≢ 0 → w ≡ suc (w - 1)
    go zero n = absurd (n refl)
    go (suc a) n = omega arith

pub sound-table : (W : View) → Sound W → SoundTable (seen_in W)
sound-table W s = record {
  wf = s.good.rows;
  valid =
      let w = valid_word W s.valid in (
        subst (Ref (rows_of W)) w (s.refs VALID (omega arith) (omega arith)),
        λ i. s.even VALID (omega arith) (omega arith) (valid_of W) w i,
      );
  reg = λ r l a e.
      let w = word_of (W.header (FIRST_REGISTER + r)) a e in (
        subst (Ref (rows_of W)) w (s.refs (FIRST_REGISTER + r) (omega arith) (omega arith)),
        λ i. s.even (FIRST_REGISTER + r) (omega arith) (omega arith) a w i,
      );
  rel = λ t l a e. subst (Ref (rows_of W)) (word_of (W.header (FIRST_RELATION + t)) a e)
      (s.refs (FIRST_RELATION + t) (omega arith) (omega arith));
  reg_within =
      λ r l a e v. s.within.roots (FIRST_REGISTER + r) (omega arith) (omega arith) a (word_of (W.header (FIRST_REGISTER + r)) a e) v;
  rel_within =
      λ t l a e v. s.within.roots (FIRST_RELATION + t) (omega arith) (omega arith) a (word_of (W.header (FIRST_RELATION + t)) a e) v;
  rel_shifted =
      λ t l a e v. s.within.shifted (FIRST_RELATION + t) (omega arith) (omega arith) a (word_of (W.header (FIRST_RELATION + t)) a e) v;
}

-- the book that words stand for is the one that they show
pub sound-shows-book : (ws : List ℕ) → SoundWords ws → Shows (book_of (seen ws)) (seen ws)
sound-shows-book ws s = shows-book_of (seen ws) (sound-table (table_of ws) s)

-- a root's word, from what it is seen as
ref_of : (W : View) (h start : ℕ) → start ≤ h → ((a : ℕ) → arrow_in (W.header (start + (h - start))) ≡ some a → Arrow (rows_of W) a)
    → Ref (rows_of W) (W.header h)
ref_of W h start l f = go (W.header h) refl
  where
    at : start + (h - start) ≡ h
    at = omega arith

    go : (w : ℕ) → W.header h ≡ w → Ref (rows_of W) w
    go zero e = tt
    go (suc a) e = f a (ap (λ (k : ℕ). arrow_in (W.header k)) at ∙ ap arrow_in e)

-- a register's or a relation's word, as it is seen
seen-from : (W : View) (h start a : ℕ) → start ≤ h → W.header h ≡ suc a → arrow_in (W.header (start + (h - start))) ≡ some a
seen-from W h start a l e = let q : start + (h - start) ≡ h = omega arith in ap (λ (k : ℕ). arrow_in (W.header k)) q ∙ ap arrow_in e

-- a good table with V that is seen as a sound one is sound
pub table-sound : (W : View) → Good W → W.header VALID ≢ 0 → SoundTable (seen_in W) → Sound W
table-sound W g n t = record {
  good = g;
  refs = λ h a l. by_cases (dec_lt h FIRST_REGISTER)
      (λ k. subst (λ (i : ℕ). Ref (rows_of W) (W.header i))
      (let q : VALID ≡ h = omega arith in q) (subst (Ref (rows_of W)) (sym (valid_word W n)) t.valid.0))
      (λ j. by_cases (dec_lt h FIRST_RELATION)
      (λ k. ref_of W h FIRST_REGISTER (omega arith) (λ b e. (t.reg (h - FIRST_REGISTER) (omega arith) b e).0))
      (λ k. ref_of W h FIRST_RELATION (omega arith) (λ b e. t.rel (h - FIRST_RELATION) (omega arith) b e)));
  valid = n;
  even = λ h a l b e i r. by_cases (dec_lt h FIRST_REGISTER)
      (λ k.
      let q : VALID ≡ h = omega arith in
      let same : b ≡ valid_of W = let x = ap W.header q ∙ e in omega arith in
      t.valid.1 i (subst (λ (x : ℕ). Reach (rows_of W) (x ∷ []) i) same r))
      (λ k. (t.reg (h - FIRST_REGISTER) (omega arith) b (seen-from W h FIRST_REGISTER b (omega arith) e)).1 i r);
  within = record {
    roots = λ h a l b e v. by_cases (dec_lt h FIRST_RELATION)
        (λ k. t.reg_within (h - FIRST_REGISTER) (omega arith) b (seen-from W h FIRST_REGISTER b a e) v)
        (λ k. t.rel_within (h - FIRST_RELATION) (omega arith) b (seen-from W h FIRST_RELATION b (omega arith) e) v);
    shifted = λ h a l b e v. t.rel_shifted (h - FIRST_RELATION) (omega arith) b (seen-from W h FIRST_RELATION b a e) v;
  };
}
