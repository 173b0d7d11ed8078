-- The laws by which the reader's code meets `takes`, `command_in`, `doomed` and `read_record`. Assumes nothing.
use mathlib.Core.Path.{◌≡◌, refl, sym, ap, ◌∙◌}
use mathlib.Core.Bool.{Bool, true, false, not, cond, ◌&&◌, ◌||◌}
use mathlib.Core.List.{List}
use Prim.Native.Nat.{ℕ, ◌+◌, ◌-◌, ◌≤◌, ◌<◌}
use native.Mathlib.Nat.{lt_of_not-le}
use native.Mathlib.Omega.{arith}
use lib.Dec.{leb, eqb}
use lib.ListN.{length, get_or, take, drop, length-drop}
use lib.Seq.{length-take-le}
use borrow.Author.Tests.{leb-true, eqb-true, le-leb, lt-leb, eq-eqb, ne_eqb}
use Rattle.tokens.proofs.Table.{both_true}
use Rattle.book.specs.Program.{record_length}
use Rattle.records.specs.declared.Command.{Command}
use Rattle.records.specs.declared.Command.TheVariants.{Collect}
use Rattle.records.specs.declared.Found.TheVariants.{End, More, Bad, Record}
use Rattle.records.specs.Record.{in_range, takes, command_in, arguments_in, bad_length, bad_version, bad_arguments, doomed, partial}
use Rattle.records.specs.Record.{read_record}

-- two constructors that differ
pub never : {A : Type 0} → ◌≡◌ {A = ℕ} 0 1 → A
never e = absurd (omega arith)

-- ---- tests

either_false : (a b : Bool) → (a || b) ≡ false → (a ≡ false) × (b ≡ false)
either_false true b e = never (cc)
either_false false b e = (refl, e)

-- a test that is made once there are bytes enough
passes : (a t : Bool) → (a && not t) ≡ false → a ≡ true → t ≡ true
passes true true e h = refl
passes true false e h = sym e
passes false t e h = never (cc)

pub fails : (a t : Bool) → (a && not t) ≡ true → (a ≡ true) × (t ≡ false)
fails true true e = never (cc)
fails true false e = (refl, refl)
fails false t e = never (cc)

-- ---- where the reading ends early

pub range-within : (L : ℕ) → 2 ≤ L → L ≤ 1_100 → in_range L ≡ true
range-within L a b = rw (le-leb 2 L a, le-leb L 1_100 b)

pub range-parts : (L : ℕ) → in_range L ≡ true → (2 ≤ L) × (L ≤ 1_100)
range-parts L e = let p = both_true (leb 2 L) (leb L 1_100) e in (leb-true 2 L p.0, leb-true L 1_100 p.1)

pub range-below : (L : ℕ) → L < 2 → in_range L ≡ false
range-below L a = rw (lt-leb 2 L a)

pub range-above : (L : ℕ) → 1_100 < L → in_range L ≡ false
range-above L a = rw (lt-leb L 1_100 a, le-leb 2 L (omega arith))

-- no test is made before its bytes are there
pub doomed-two : (bs : List ℕ) → length bs < 2 → doomed bs ≡ false
unfolding doomed
doomed-two bs h = rw (lt-leb 2 (length bs) h, lt-leb 3 (length bs) (omega arith), lt-leb 4 (length bs) (omega arith))

pub doomed-length : (bs : List ℕ) → 2 ≤ length bs → in_range (record_length bs) ≡ false → doomed bs ≡ true
unfolding doomed
doomed-length bs h e = rw (le-leb 2 (length bs) h, e)

pub doomed_three : (bs : List ℕ) → length bs < 3 → in_range (record_length bs) ≡ true → doomed bs ≡ false
unfolding doomed
doomed_three bs h e = rw (lt-leb 3 (length bs) h, lt-leb 4 (length bs) (omega arith), e) (both_ways (leb 2 (length bs)))
  where
    both_ways : (a : Bool) → ((a && false) || false) ≡ false
    both_ways true = refl
    both_ways false = refl

pub doomed_version : (bs : List ℕ) → 3 ≤ length bs → (get_or bs 2 0 ≡ 1 → ⊥) → in_range (record_length bs) ≡ true → doomed bs ≡ true
unfolding doomed
doomed_version bs h v e = rw (le-leb 2 (length bs) (omega arith), le-leb 3 (length bs) h, ne_eqb (get_or bs 2 0) 1 v, e)

pub doomed_four : (bs : List ℕ) → 3 ≤ length bs → length bs < 4 → get_or bs 2 0 ≡ 1 → in_range (record_length bs) ≡ true → doomed bs ≡ false
unfolding doomed
doomed_four bs g h v e =
    rw (le-leb 2 (length bs) (omega arith), le-leb 3 (length bs) g, lt-leb 4 (length bs) h, eq-eqb (get_or bs 2 0) 1 v, e)

pub doomed-takes : (bs : List ℕ) → 4 ≤ length bs → get_or bs 2 0 ≡ 1 → in_range (record_length bs) ≡ true
    → doomed bs ≡ not (takes (get_or bs 3 0) (record_length bs - 2))
unfolding doomed
doomed-takes bs h v e =
    rw (le-leb 2 (length bs) (omega arith), le-leb 3 (length bs) (omega arith), le-leb 4 (length bs) h, eq-eqb (get_or bs 2 0) 1 v, e)

-- ---- the operation decides

pub takes_at : {op : ℕ} (n k : ℕ) → op ≡ n → takes op k ≡ takes n k
takes_at n k e = ap (λ (x : ℕ). takes x k) e

pub takes_none : (op k : ℕ) → (op ≡ 1 → ⊥) → (op ≡ 2 → ⊥) → (op ≡ 3 → ⊥) → (op ≡ 4 → ⊥) → (op ≡ 5 → ⊥) → (op ≡ 6 → ⊥) → takes op k ≡ false
takes_none op k a b c d e f = rw (ne_eqb op 1 a, ne_eqb op 2 b, ne_eqb op 3 c, ne_eqb op 4 d, ne_eqb op 5 e, ne_eqb op 6 f)

pub command_at : {op : ℕ} (n : ℕ) (xs : List ℕ) → op ≡ n → command_in op xs ≡ command_in n xs
command_at n xs e = ap (λ (x : ℕ). command_in x xs) e

pub command-last : (op : ℕ) (xs : List ℕ) → (op ≡ 1 → ⊥) → (op ≡ 2 → ⊥) → (op ≡ 3 → ⊥) → (op ≡ 4 → ⊥) → (op ≡ 5 → ⊥)
    → command_in op xs ≡ Collect
command-last op xs a b c d e = rw (ne_eqb op 1 a, ne_eqb op 2 b, ne_eqb op 3 c, ne_eqb op 4 d, ne_eqb op 5 e)

-- ---- the four ways of reading

pub read_none : (bs : List ℕ) (ended : Bool) → length bs ≡ 0 → read_record bs ended ≡ cond ended End More
unfolding read_record
read_none bs ended h = rw (eq-eqb (length bs) 0 h)

pub read_bad : (bs : List ℕ) (ended : Bool) → 1 ≤ length bs → doomed bs ≡ true → read_record bs ended ≡ Bad
unfolding read_record
read_bad bs ended h d = rw (ne_eqb (length bs) 0 (λ e. omega arith), d)

pub read-partial : (bs : List ℕ) (ended : Bool) → 1 ≤ length bs → doomed bs ≡ false → length bs < 2 + record_length bs
    → read_record bs ended ≡ partial ended
unfolding read_record
read-partial bs ended h d s = rw (ne_eqb (length bs) 0 (λ e. omega arith), d, lt-leb (2 + record_length bs) (length bs) s)

pub read_whole : (bs : List ℕ) (ended : Bool) → doomed bs ≡ false → 2 + record_length bs ≤ length bs
    → read_record bs ended ≡ Record (command_in (get_or bs 3 0) (arguments_in bs)) (2 + record_length bs)
unfolding read_record
read_whole bs ended d s = rw (ne_eqb (length bs) 0 (λ e. omega arith), d, le-leb (2 + record_length bs) (length bs) s)

-- what is known of bytes that are not doomed
module _ (bs : List ℕ) (d : doomed bs ≡ false) where
  later : (bad_version bs ≡ false) × (bad_arguments bs ≡ false)
  unfolding doomed
  later = either_false (bad_version bs) (bad_arguments bs) (either_false (bad_length bs) (bad_version bs || bad_arguments bs) d).1

  pub hopeful_length : 2 ≤ length bs → (2 ≤ record_length bs) × (record_length bs ≤ 1_100)
  unfolding doomed
  hopeful_length h =
      range-parts (record_length bs)
      (passes (leb 2 (length bs)) (in_range (record_length bs)) (either_false (bad_length bs) (bad_version bs || bad_arguments bs) d).0
      (le-leb 2 (length bs) h))

  pub hopeful_version : 3 ≤ length bs → get_or bs 2 0 ≡ 1
  hopeful_version h = eqb-true (get_or bs 2 0) 1 (passes (leb 3 (length bs)) (eqb (get_or bs 2 0) 1) later.0 (le-leb 3 (length bs) h))

  pub hopeful_takes : 4 ≤ length bs → takes (get_or bs 3 0) (record_length bs - 2) ≡ true
  hopeful_takes h = passes (leb 4 (length bs)) (takes (get_or bs 3 0) (record_length bs - 2)) later.1 (le-leb 4 (length bs) h)

  -- a whole record has its first four bytes
  pub hopeful_short : length bs < 4 → length bs < 2 + record_length bs
  hopeful_short h = lt_of_not-le (λ w. let p = hopeful_length (omega arith) in omega arith)

-- the arguments, as the part from byte 4 to the record's end
pub arguments_part : (bs : List ℕ) (p : ℕ) → p ≡ record_length bs → take (2 + p - 4) (drop 4 bs) ≡ arguments_in bs
arguments_part bs p e = let q : 2 + p - 4 ≡ record_length bs - 2 = omega arith in ap (λ (k : ℕ). take k (drop 4 bs)) q

pub arguments_length : (bs : List ℕ) → 2 + record_length bs ≤ length bs → length (arguments_in bs) ≡ record_length bs - 2
arguments_length bs h = length-take-le (record_length bs - 2) (drop 4 bs) (simp length-drop (omega arith))

-- the operation takes them
pub arguments_taken : (bs : List ℕ) (p : ℕ) → p ≡ record_length bs → doomed bs ≡ false → 4 ≤ length bs → 2 + p ≤ length bs
    → takes (get_or bs 3 0) (length (take (2 + p - 4) (drop 4 bs))) ≡ true
arguments_taken bs p e d h s =
    ap (λ (xs : List ℕ). takes (get_or bs 3 0) (length xs)) (arguments_part bs p e)
    ∙ ap (takes (get_or bs 3 0)) (arguments_length bs (omega arith))
    ∙ hopeful_takes bs d h

pub read-command : (bs : List ℕ) (ended : Bool) (p : ℕ) (c : Command) → p ≡ record_length bs → doomed bs ≡ false → 2 + p ≤ length bs
    → c ≡ command_in (get_or bs 3 0) (take (2 + p - 4) (drop 4 bs)) → Record c (2 + p) ≡ read_record bs ended
read-command bs ended p c e d s h =
    ap (λ (x : Command). Record x (2 + p)) (h ∙ ap (command_in (get_or bs 3 0)) (arguments_part bs p e))
    ∙ ap (λ (k : ℕ). Record (command_in (get_or bs 3 0) (arguments_in bs)) (2 + k)) e
    ∙ sym (read_whole bs ended d (omega arith))
