-- Laws of what specs/Program.antt defines. Assumes nothing.
use mathlib.Core.Path.{◌≡◌, refl, sym, ap, ◌∙◌, subst}
use mathlib.Core.Bool.{Bool, true, false, cond}
use mathlib.Core.List.{List, [], ◌∷◌, ◌++◌}
use Prim.Native.Nat.{ℕ, zero, suc, ◌+◌, ◌*◌, ◌-◌, ◌/◌, ◌%◌, ◌^◌, ◌≤◌, ◌<◌}
use native.Mathlib.Nat.{pow-suc, lt_of_not-le}
use native.Mathlib.Omega.{arith}
use lib.Dec.{T, ltb, ltb→lt, lt→ltb}
use Rattle.book.proofs.Compute.{computing}
use Rattle.book.specs.Program.{fields, end_ok, end_bad, roomrules, digits, decimal, texts_of, written}

-- ---- as bytes

-- the paper's input
abbrev pub listing : List ℕ
listing =
    0x00 ∷ 0x05 ∷ 0x01 ∷ 0x01 ∷ 0x01 ∷ 0x00 ∷ 0x64
    ∷ 0x00 ∷ 0x0F ∷ 0x01 ∷ 0x02 ∷ 0x00 ∷ 0x00 ∷ 0x0A ∷ 0x01 ∷ 0x04 ∷ 0x03 ∷ 0x20 ∷ 0x02 ∷ 0x10 ∷ 0x03 ∷ 0x02 ∷ 0x20 ∷ 0x10
    ∷ 0x00 ∷ 0x0F ∷ 0x01 ∷ 0x03 ∷ 0x00 ∷ 0x00 ∷ 0x00 ∷ 0x00 ∷ 0x03 ∷ 0x00 ∷ 0x06 ∷ 0x01 ∷ 0x70 ∷ 0x04 ∷ 0x10 ∷ 0x68 ∷ 0x30
    ∷ 0x00 ∷ 0x02 ∷ 0x01 ∷ 0x06 ∷ []

-- and its output: 1 0 0 0 / 2 0 0 0 / 3 0 2 3 / 6 0 2 0 / end ok
pub example : roomrules listing ≡ fields 1 0 0 0 ∷ fields 2 0 0 0 ∷ fields 3 0 2 3 ∷ fields 6 0 2 0 ∷ end_ok ∷ []
unfolding computing
example = refl

pub example_bytes : written listing
    ≡ 0x31 ∷ 0x20 ∷ 0x30 ∷ 0x20 ∷ 0x30 ∷ 0x20 ∷ 0x30 ∷ 0x0A
    ∷ 0x32 ∷ 0x20 ∷ 0x30 ∷ 0x20 ∷ 0x30 ∷ 0x20 ∷ 0x30 ∷ 0x0A
    ∷ 0x33 ∷ 0x20 ∷ 0x30 ∷ 0x20 ∷ 0x32 ∷ 0x20 ∷ 0x33 ∷ 0x0A
    ∷ 0x36 ∷ 0x20 ∷ 0x30 ∷ 0x20 ∷ 0x32 ∷ 0x20 ∷ 0x30 ∷ 0x0A
    ∷ 0x65 ∷ 0x6E ∷ 0x64 ∷ 0x20 ∷ 0x6F ∷ 0x6B ∷ 0x0A ∷ []
unfolding computing
example_bytes = ap texts_of example

-- ---- the digits are the number's

-- the number that digits stand for, x before them
abbrev pub read_digits : ℕ → List ℕ → ℕ
read_digits x [] = x
read_digits x (d ∷ l) = read_digits (x * 10 + (d - 48)) l

read-append : (x : ℕ) (l : List ℕ) (d : ℕ) → read_digits x (l ++ (d ∷ [])) ≡ read_digits x l * 10 + (d - 48)
read-append x [] d = refl
read-append x (c ∷ l) d = read-append (x * 10 + (c - 48)) l d

pub digits-read : (j k : ℕ) → read_digits 0 (digits j k) ≡ k
digits-read zero k = omega arith
digits-read (suc j) k = go (ltb k 10) (digits-read j (k / 10))
  where
    go : (t : Bool) → read_digits 0 (digits j (k / 10)) ≡ k / 10
        → read_digits 0 (cond t ((48 + k) ∷ []) (digits j (k / 10) ++ ((48 + k % 10) ∷ []))) ≡ k
    go true h = omega arith
    go false h = read-append 0 (digits j (k / 10)) (48 + k % 10) ∙ omega arith

-- each byte that stands for a number is a digit
abbrev pub Digit : ℕ → Type 0
Digit d = (48 ≤ d) × (d ≤ 57)

abbrev pub AllDigits : List ℕ → Type 0
AllDigits [] = Unit {0}
AllDigits (d ∷ l) = Digit d × AllDigits l

digits_append : (l : List ℕ) (d : ℕ) → AllDigits l → Digit d → AllDigits (l ++ (d ∷ []))
digits_append [] d h i = (i, tt)
digits_append (c ∷ l) d h i = (h.0, digits_append l d h.1 i)

-- a number below 10^(j + 1) has digits alone
pub digits-only : (j k : ℕ) → k < 10 ^ suc j → AllDigits (digits j k)
digits-only zero k h = ((omega arith, omega (arith, pow-suc 10 0)), tt)
digits-only (suc j) k h = go (ltb k 10) refl (digits-only j (k / 10))
  where
    go : (t : Bool) → ltb k 10 ≡ t → (k / 10 < 10 ^ suc j → AllDigits (digits j (k / 10)))
        → AllDigits (cond t ((48 + k) ∷ []) (digits j (k / 10) ++ ((48 + k % 10) ∷ [])))
    go true e below = let l = ltb→lt k 10 (subst T (sym e) tt) in ((omega arith, omega arith), tt)
    go false e below =
        digits_append (digits j (k / 10)) (48 + k % 10) (below (omega (arith, pow-suc 10 (suc j)))) (omega arith, omega arith)

-- "decimals without leading zeros": the first digit of a number that is not 0 is not 0
pub first_digit : (j k : ℕ) → 1 ≤ k → k < 10 ^ suc j → (d : ℕ) (l : List ℕ) → digits j k ≡ d ∷ l → 49 ≤ d
first_digit zero k a b d l e = let i : 48 + k ≡ d = cc in omega arith
first_digit (suc j) k a b d l e = go (ltb k 10) refl (digits j (k / 10)) (first_digit j (k / 10)) (some_digit j (k / 10)) e
  where
    -- a number has a digit
    some_digit : (i x : ℕ) → digits i x ≡ [] → ⊥
    some_digit zero x q = let z : ◌≡◌ {A = ℕ} 0 1 = cc in absurd (omega arith)
    some_digit (suc i) x q = pick (ltb x 10) (digits i (x / 10)) q
      where
        pick : (t : Bool) (m : List ℕ) → cond t ((48 + x) ∷ []) (m ++ ((48 + x % 10) ∷ [])) ≡ [] → ⊥
        pick true m q = let z : ◌≡◌ {A = ℕ} 0 1 = cc in absurd (omega arith)
        pick false [] q = let z : ◌≡◌ {A = ℕ} 0 1 = cc in absurd (omega arith)
        pick false (y ∷ m) q = let z : ◌≡◌ {A = ℕ} 0 1 = cc in absurd (omega arith)

    go : (t : Bool) → ltb k 10 ≡ t → (m : List ℕ) → (1 ≤ k / 10 → k / 10 < 10 ^ suc j → (c : ℕ) (n : List ℕ) → m ≡ c ∷ n → 49 ≤ c)
        → (m ≡ [] → ⊥)
        → cond t ((48 + k) ∷ []) (m ++ ((48 + k % 10) ∷ [])) ≡ d ∷ l → 49 ≤ d
    go true u m below full q = let i : 48 + k ≡ d = cc in omega arith
    go false u [] below full q = absurd (full refl)
    go false u (c ∷ m) below full q =
        let i : c ≡ d = cc in
        let g : 10 < suc k = lt_of_not-le (λ h. subst T u (lt→ltb k 10 h)) in
        let n = below (omega arith) (omega (arith, pow-suc 10 (suc j))) c m refl in
        omega arith

-- the largest count has ten digits
pub decimal_example : decimal 4_294_967_295 ≡ 52 ∷ 50 ∷ 57 ∷ 52 ∷ 57 ∷ 54 ∷ 55 ∷ 50 ∷ 57 ∷ 53 ∷ []
decimal_example = refl

-- a record cut short ends the reading, and so does an unknown operation; calls before the first answered fresh are refused with 2
pub example_ends : roomrules (0x00 ∷ 0x02 ∷ 0x01 ∷ 0x06 ∷ 0x00 ∷ 0x05 ∷ 0x01 ∷ 0x01 ∷ 0x11 ∷ 0x00 ∷ 0x64 ∷ 0x00 ∷ 0x02 ∷ 0x01 ∷ 0x07 ∷ [])
    ≡ fields 6 2 0 0 ∷ fields 1 1 0 0 ∷ end_bad ∷ []
unfolding computing
example_ends = refl
