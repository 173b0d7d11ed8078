-- The tables of one state bit that the lists of Impostors lead to: no row, or bit 0's; and how they come to be. Assumes nothing.
use mathlib.Core.Path.{◌≡◌, refl, sym, subst}
use mathlib.Core.Bool.{Bool, true, false, true≢false}
use mathlib.Core.List.{List, [], ◌∷◌}
use mathlib.Core.Option.{some}
use Prim.Native.Nat.{ℕ}
use native.Mathlib.Omega.{arith}
use lib.Dec.{T, eqb, eqb→eq}
use Rattle.diagram.specs.Rows.{Rows, den, den_to, WellFormed, Extends}
use Rattle.diagram.specs.Post.{Denotes}
use Rattle.diagram.proofs.Grow.{extends_refl}
use Rattle.accounts.specs.Terms.{alone}
use Rattle.book.specs.States.{now_of}
use Rattle.book.specs.Bridge.{fn_of, Sized}
use Rattle.book.specs.Book.{Book, fresh, set, set_done, with_reg, does}
use Rattle.book.specs.Stored.{Whole}
use Rattle.book.specs.Table.{Table, Shows}
use Rattle.book.specs.Demand.{Event, stop}
use Rattle.book.proofs.Compute.{computing}
use Rattle.book.proofs.Listed.{frame}
use Rattle.book.proofs.Leaves.{with_rows, store_reg}
use Rattle.book.proofs.Witness.{Plays, reply, set-plays, no_rows, no_rows_wf, blank, Met, met}

-- ---- bit 0's row

-- a high arrow has no NOT, so the row is the complement's: everything below bit 0 = 0, nothing below 1
abbrev bit_row : Rows
bit_row = record { used = λ i. eqb i 0; level = λ i. 0; low = λ i. 1; high = λ i. 0 }

-- only row 0 is used
only-first : (i : ℕ) → bit_row.used i ≡ true → i ≡ 0
only-first i u = eqb→eq i 0 (subst T (sym u) tt)

bit_row_wf : WellFormed 2 100 bit_row
bit_row_wf = record {
  bounded = λ i u. let z = only-first i u in omega arith;
  ok = λ i u. record {
    shallow = omega arith;
    low-arrow = tt;
    high-arrow = tt;
    low_deeper = omega arith;
    high_deeper = omega arith;
    reduced = λ e. absurd (omega (arith, e));
    plain = refl;
  };
  shared = λ i j u v l e h. let x = only-first i u in let y = only-first j v in omega arith;
}

-- it is added to none
bit_added : Extends no_rows bit_row
bit_added = record {
  used = λ i u. absurd (true≢false (sym u));
  level = λ i u. absurd (true≢false (sym u));
  low = λ i u. absurd (true≢false (sym u));
  high = λ i u. absurd (true≢false (sym u));
}

-- arrow 3 to it, with a NOT, is bit 0
pub denotes-bit : Denotes 2 bit_row 3 (fn_of 1 (false ∷ true ∷ []))
unfolding den den_to now_of
denotes-bit = record { arrow = refl; same = λ v. by (v 0) }
  where
    by : (x : Bool) → den 2 bit_row 3 (λ l. x) ≡ fn_of 1 (false ∷ true ∷ []) (λ l. x)
    by true = refl
    by false = refl

-- arrow 2 is the complement
pub denotes-other : Denotes 2 bit_row 2 (fn_of 1 (true ∷ false ∷ []))
unfolding den den_to now_of
denotes-other = record { arrow = refl; same = λ v. by (v 0) }
  where
    by : (x : Bool) → den 2 bit_row 2 (λ l. x) ≡ fn_of 1 (true ∷ false ∷ []) (λ l. x)
    by true = refl
    by false = refl

-- ---- lists

-- a set of register 0 that leaves no row: its set is none or all
pub rowless : (bs : List ℕ) (A : List Bool) (j p a : ℕ)
    → does (fresh 1 100) (set alone 0 100 bs) ≡ set_done (fresh 1 100) 0 A (record { rounds = j; peak = p }) → Sized 1 A
    → Denotes 2 no_rows a (fn_of 1 A)
    → Met ((set alone 0 100 bs, reply 0 j p a) ∷ []) (store_reg blank 0 (some a))
rowless bs A j p a is sized d =
    met (λ w s. set-plays w s 0 100 bs A j p is sized no_rows no_rows_wf (extends_refl no_rows) a d (λ w' s'. stop))

-- bit 0 in register 0
abbrev pub with_bit : Table
with_bit = store_reg (with_rows blank bit_row) 0 (some 3)

-- its book
abbrev pub book_with_bit : Book
book_with_bit = with_reg (fresh 1 100) 0 (some (false ∷ true ∷ []))

-- set 0 to bit 0, with what follows it
pub bit-first : {l : List Event} {end : Table} → (Whole book_with_bit → Shows book_with_bit with_bit → Plays with_bit l end)
    → Met ((set alone 0 100 (frame (0x10 ∷ [])), reply 0 0 1 3) ∷ l) end
unfolding computing
bit-first rest =
    met (λ w s. set-plays w s 0 100 (frame (0x10 ∷ [])) (false ∷ true ∷ []) 0 1 refl refl bit_row bit_row_wf bit_added 3 denotes-bit rest)

-- then a set of register 1 to bit 0 or its complement
pub bit_then : (bs : List ℕ) (A : List Bool) (j p a : ℕ)
    → does book_with_bit (set alone 1 100 bs) ≡ set_done book_with_bit 1 A (record { rounds = j; peak = p }) → Sized 1 A
    → Denotes 2 bit_row a (fn_of 1 A)
    → Met ((set alone 0 100 (frame (0x10 ∷ [])), reply 0 0 1 3) ∷ (set alone 1 100 bs, reply 0 j p a) ∷ []) (store_reg with_bit 1 (some a))
bit_then bs A j p a is sized d =
    bit-first (λ w s. set-plays w s 1 100 bs A j p is sized bit_row bit_row_wf (extends_refl bit_row) a d (λ w' s'. stop))
