-- Laws of what specs/Fresh.antt defines. Assumes nothing.
use mathlib.Core.Path.{◌≡◌, refl, ap, sym, ◌∙◌, subst}
use mathlib.Core.Bool.{Bool, true, false, not, cond, ◌&&◌, true≢false}
use mathlib.Core.List.{List}
use Prim.Native.Nat.{ℕ, ◌+◌, ◌*◌}
use native.Mathlib.Omega.{arith}
use lib.Dec.{T, leb, le→leb, leb→le}
use lib.ListN.{length}
use Rattle.std.specs.Prelude.{Result, Ok, Err}
use Rattle.accounts.specs.Terms.{lent}
use Rattle.mucalculus.proofs.Sets.{and_in, and_out, true_of, false_of}
use Rattle.diagram.proofs.Canon.{not-true}
use Rattle.layout.specs.Places.{ROWS, FIRST_REGISTER, FIRST_RELATION}
use Rattle.layout.specs.View.{View, view}
use Rattle.layout.specs.declared.Refusal.{Refusal}
use Rattle.layout.proofs.Same.{view-same}
use Rattle.rows.specs.Used.{Sizes}
use Rattle.rows.specs.Sound.{Sound, table_of}
use Rattle.table.specs.Fresh.{emptied}
use Rattle.table.proofs.Fresh.{emptied-sound, zero-at, bits_is, rows_is, valid-is, none-used}
use Rattle.book.specs.Book.{fresh_fits, fresh_number}
use Rattle.book.specs.Leaves.{Empty, plain}
use Rattle.contract.specs.Seen.{arrow_in, seen_in}
use Rattle.contract.specs.Posts.{FreshPost}
use Rattle.calls.specs.Fresh.{FreshWords}

-- one list of words
pub fresh-words-one : (n N : ℕ) (old v w : List ℕ) (x : Result (Unit {0}) Refusal) → FreshWords n N old v x → FreshWords n N old w x → v ≡ w
fresh-words-one n N old v w (Ok _) p q = view-same N v w (p ∙ sym q)
fresh-words-one n N old v w (Err _) p q = p ∙ sym q

-- what a test `!f(..)` says of the Boolean that f tells
pub test_fails : {r t : Bool} → not r ≡ true → r ≡ t → t ≡ false
test_fails {r = true} e i = absurd (true≢false (sym e))
test_fails {r = false} e i = sym i

pub test_holds : {r t : Bool} → not r ≡ false → r ≡ t → t ≡ true
test_holds {r = true} e i = sym i
test_holds {r = false} e i = absurd (true≢false e)

-- the checks of document 01's fresh are those of a sound table's sizes
module _ {n N size : ℕ} where
  sizes-fits : Sizes n N size → T (fresh_fits n N size)
  sizes-fits z =
      and_in (leb 1 n && leb n 16) _ (and_in (leb 1 n) (leb n 16) (le→leb 1 n z.n_pos) (le→leb n 16 z.n_max))
      (and_in (leb 1 N && leb N 60_000) _ (and_in (leb 1 N) (leb N 60_000) (le→leb 1 N z.N_pos) (le→leb N 60_000 z.N-max))
      (le→leb (256 + 12 * N) size z.room))

  fits-sizes : T (fresh_fits n N size) → Sizes n N size
  fits-sizes t =
      let (a, b) = and_out (leb 1 n && leb n 16) _ t in
      let (c, d) = and_out (leb 1 N && leb N 60_000) (leb (256 + 12 * N) size) b in
      let (e, f) = and_out (leb 1 n) (leb n 16) a in
      let (g, h) = and_out (leb 1 N) (leb N 60_000) c in
      record {
        n_pos =
            leb→le 1 n e;
        n_max = leb→le n 16 f;
        N_pos = leb→le 1 N g;
        N-max = leb→le N 60_000 h;
        room = leb→le (256 + 12 * N) size d;
      }

-- REFUSED: "fresh: n, N or slice length"
pub fresh-refused : (n N count : ℕ) (ws : List ℕ) → (Sizes n N (length ws) → ⊥) → FreshPost n N count ws ws (plain 1)
fresh-refused n N count ws no-fit =
    let one : fresh_number n N (length ws) count
    ≡ 1 = ap (λ (t : Bool). cond t (cond (lent count) 0 14) 1) (false_of (fresh_fits n N (length ws)) (λ t. no-fit (fits-sizes t))) in
    record {
      answers = λ e. absurd (omega (arith, one, e));
      refuses = λ k e. let i : k ≡ 0 = omega (arith, one, e) in
          rw i ((refl, refl, refl, refl), refl);
    }

-- REFUSED: "the list is not 1 to 8 long"
pub fresh_unlisted : (n N count : ℕ) (ws : List ℕ) → Sizes n N (length ws) → lent count ≡ false → FreshPost n N count ws ws (plain 14)
fresh_unlisted n N count ws z l =
    let more : fresh_number n N (length ws) count
    ≡ 14 = ap (λ (t : Bool). cond t (cond (lent count) 0 14) 1) (true_of (fresh_fits n N (length ws)) (sizes-fits z))
    ∙ ap (λ (t : Bool). cond t 0 14) l in
    record {
      answers = λ e. absurd (omega (arith, more, e));
      refuses = λ k e. let i : k ≡ 13 = omega (arith, more, e) in
          rw i ((refl, refl, refl, refl), refl);
    }

-- ANSWERED: "Fresh empties them all", "after fresh, V is every state"
module _ (n N count : ℕ) (old new : List ℕ) (z : Sizes n N (length old)) (l : lent count ≡ true)
    (w : view N new ≡ emptied (view N old) n N) where
  abbrev X : View
  X = emptied (view N old) n N

  table_is : table_of new ≡ X
  table_is = ap (λ (k : ℕ). view k new) (ap (λ (v : View). v.header ROWS) w ∙ rows_is X n z (λ h. refl)) ∙ w

  empty : Empty n N (seen_in X)
  empty = record {
    bits = bits_is X n z (λ h. refl);
    size = refl;
    every = let o = valid-is X n z (λ h. refl) in omega arith;
    unused = λ i. not-true _ (none-used X n z (λ h. refl) i);
    reg = λ r l. ap arrow_in
        (zero-at X n z (λ h. refl) (FIRST_REGISTER + r) (omega arith) (omega arith) (omega arith) (omega arith) (omega arith));
    rel = λ t l. ap arrow_in
        (zero-at X n z (λ h. refl) (FIRST_RELATION + t) (omega arith) (omega arith) (omega arith) (omega arith) (omega arith));
  }

  zero : fresh_number n N (length old) count ≡ 0
  zero = ap (λ (t : Bool). cond t (cond (lent count) 0 14) 1) (true_of (fresh_fits n N (length old)) (sizes-fits z))
      ∙ ap (λ (t : Bool). cond t 0 14) l

  pub fresh-ready : FreshPost n N count old new (plain 0)
  fresh-ready = record {
    answers =
        λ _. (
          (refl, refl, refl, refl),
          subst Sound (sym table_is) (emptied-sound (view N old) n z),
          subst (λ (v : View). Empty n N (seen_in v)) (sym table_is) empty,
        );
    refuses = λ k e. absurd (omega (arith, zero, e));
  }
