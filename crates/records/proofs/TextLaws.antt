-- Laws of what specs/Text.antt defines. Assumes nothing.
use mathlib.Core.Path.{◌≡◌, refl, sym, ap, ◌∙◌, subst}
use mathlib.Core.Bool.{Bool, true, false, cond}
use mathlib.Core.List.{List, [], ◌∷◌, ◌++◌, append_assoc}
use Prim.Native.Nat.{ℕ, zero, suc, ◌+◌, ◌/◌, ◌%◌, ◌^◌, ◌≤◌, ◌<◌}
use native.Mathlib.Nat.{pow-suc}
use native.Mathlib.Omega.{arith}
use lib.Dec.{ltb}
use lib.ListN.{length, set, take, drop, length-append}
use lib.Seq.{sets, sets-eq, take_at, length-take-le}
use borrow.Author.Tests.{lt-ltb, le-ltb}
use Rattle.book.specs.Program.{Line, end_ok, end_bad, fields, digits, decimal, text_of}
use Rattle.records.specs.Text.{Wrote, WroteWithin, end_line, field_text}

-- as parts: what was before the place, the bytes, and what was after them
pub wrote-parts : {old new : List ℕ} {at end : ℕ} (bytes : List ℕ) → at + length bytes ≤ length old → Wrote old at bytes new end
    → new ≡ take at old ++ bytes ++ drop end old
wrote-parts {old} {new} {at} {end} bytes room w =
    w.contents ∙ sets-eq bytes old at room ∙ ap (λ (k : ℕ). take at old ++ bytes ++ drop k old) (sym w.past)

-- what is written grows at its end
pub wrote_front : {old new : List ℕ} {at end : ℕ} (bytes : List ℕ) → at + length bytes ≤ length old → Wrote old at bytes new end
    → take end new ≡ take at old ++ bytes
wrote_front {old} {new} {at} {end} bytes room w =
    ap (take end) (wrote-parts bytes room w)
    ∙ take_at (take at old ++ bytes) (drop end old) end
    (length-append (take at old) bytes ∙ ap (λ (k : ℕ). k + length bytes) (length-take-le at old (omega arith)) ∙ sym w.past)

-- ---- one after the other

sets-append : (l : List ℕ) (i : ℕ) (xs ys : List ℕ) → sets (sets l i xs) (i + length xs) ys ≡ sets l i (xs ++ ys)
sets-append l i [] ys = ap (λ (k : ℕ). sets l k ys) (omega arith)
sets-append l i (x ∷ xs) ys = ap (λ (k : ℕ). sets (sets (set l i x) (suc i) xs) k ys) (omega arith) ∙ sets-append (set l i x) (suc i) xs ys

pub wrote_then : {l m n : List ℕ} {i j k : ℕ} (xs ys : List ℕ) → Wrote l i xs m j → Wrote m j ys n k → Wrote l i (xs ++ ys) n k
wrote_then {l} {m} {n} {i} {j} {k} xs ys a b = record {
  contents =
      b.contents ∙ ap (λ (o : List ℕ). sets o j ys) a.contents ∙ ap (λ (h : ℕ). sets (sets l i xs) h ys) a.past
      ∙ sets-append l i xs ys;
  past = omega (arith, b.past, a.past, length-append xs ys);
}

-- one byte
pub wrote_byte : (l : List ℕ) (i b : ℕ) → Wrote l i (b ∷ []) (set l i b) (i + 1)
wrote_byte l i b = record { contents = refl; past = omega arith }

-- nothing yet of a text
pub wrote_none : (l : List ℕ) (i : ℕ) → Wrote l i [] l (i + 0)
wrote_none l i = record { contents = refl; past = refl }

-- ---- decimals

-- more digits than a number has change nothing
digits_more : (j k : ℕ) → k < 10 ^ suc j → digits (suc j) k ≡ digits j k
digits_more zero k h = rw (lt-ltb k 10 (omega (arith, pow-suc 10 0)))
digits_more (suc j) k h =
    ap (λ (l : List ℕ). cond (ltb k 10) ((48 + k) ∷ []) (l ++ ((48 + k % 10) ∷ [])))
    (digits_more j (k / 10) (omega (arith, pow-suc 10 (suc j))))

pub decimal-last : (k : ℕ) → k < 10 → decimal k ≡ (48 + k) ∷ []
decimal-last k h = rw (lt-ltb k 10 h)

pub decimal-more : (k : ℕ) → 10 ≤ k → k < 10 ^ 10 → decimal k ≡ decimal (k / 10) ++ ((48 + k % 10) ∷ [])
decimal-more k g h =
    rw (le-ltb k 10 g) (ap (λ (l : List ℕ). l ++ ((48 + k % 10) ∷ [])) (sym (digits_more 8 (k / 10) (omega (arith, pow-suc 10 9)))))

-- a number of j + 1 digits at most
digits-length : (j k : ℕ) → length (digits j k) ≤ suc j
digits-length zero k = omega arith
digits-length (suc j) k = go (ltb k 10) (digits j (k / 10)) (digits-length j (k / 10))
  where
    go : (t : Bool) (l : List ℕ) → length l ≤ suc j → length (cond t ((48 + k) ∷ []) (l ++ ((48 + k % 10) ∷ []))) ≤ suc (suc j)
    go true l h = omega arith
    go false l h = omega (arith, length-append l ((48 + k % 10) ∷ []))

pub decimal-length : (k : ℕ) → length (decimal k) ≤ 10
decimal-length k = digits-length 9 k

-- a number is its last digit, or what stands before it and its last digit
pub number-last : (l : List ℕ) (i k : ℕ) → k < 10 → WroteWithin 10 l i (decimal k) (set l i (48 + k)) (i + 1)
number-last l i k h = record {
  wrote = subst (λ (ds : List ℕ). Wrote l i ds (set l i (48 + k)) (i + 1)) (sym (decimal-last k h)) (wrote_byte l i (48 + k));
  within = omega arith;
}

pub number_more : {l m : List ℕ} {i j : ℕ} (k : ℕ) → 10 ≤ k → k < 10 ^ 10 → Wrote l i (decimal (k / 10)) m j
    → WroteWithin 10 l i (decimal k) (set m j (48 + k % 10)) (j + 1)
number_more {l} {m} {i} {j} k g h w =
    let v : Wrote l i (decimal k) (set m j (48 + k % 10)) (j + 1) =
    subst (λ (ds : List ℕ). Wrote l i ds (set m j (48 + k % 10)) (j + 1)) (sym (decimal-more k g h))
    (wrote_then (decimal (k / 10)) ((48 + k % 10) ∷ []) w (wrote_byte m j (48 + k % 10))) in
    record { wrote = v; within = omega (arith, v.past, decimal-length k) }

-- ---- lines

-- a line is its four fields one after the other
pub line-fields : (a b c d : ℕ) → ((field_text a 32 ++ field_text b 32) ++ field_text c 32) ++ field_text d 10 ≡ text_of (fields a b c d) []
line-fields a b c d = simp append_assoc

pub wrote_field : {l m : List ℕ} {i j : ℕ} (k after : ℕ) → WroteWithin 10 l i (decimal k) m j
    → WroteWithin 11 l i (field_text k after) (set m j after) (j + 1)
wrote_field {l} {m} {i} {j} k after w = record {
  wrote = wrote_then (decimal k) (after ∷ []) w.wrote (wrote_byte m j after);
  within = omega (arith, w.within);
}

pub wrote-line : {l m₁ m₂ m₃ n : List ℕ} {i j₁ j₂ j₃ e : ℕ} (a b c d : ℕ) → WroteWithin 11 l i (field_text a 32) m₁ j₁
    → WroteWithin 11 m₁ j₁ (field_text b 32) m₂ j₂
    → WroteWithin 11 m₂ j₂ (field_text c 32) m₃ j₃ → WroteWithin 11 m₃ j₃ (field_text d 10) n e
    → WroteWithin 44 l i (text_of (fields a b c d) []) n e
wrote-line {l} {m₁} {m₂} {m₃} {n} {i} {j₁} {j₂} {j₃} {e} a b c d w₁ w₂ w₃ w₄ = record {
  wrote =
      subst (λ (ys : List ℕ). Wrote l i ys n e) (line-fields a b c d)
      (wrote_then ((field_text a 32 ++ field_text b 32) ++ field_text c 32) (field_text d 10)
      (wrote_then (field_text a 32 ++ field_text b 32) (field_text c 32) (wrote_then (field_text a 32) (field_text b 32) w₁.wrote w₂.wrote)
      w₃.wrote) w₄.wrote);
  within = omega (arith, w₁.within, w₂.within, w₃.within, w₄.within);
}

-- the last line
pub wrote-end : {l m : List ℕ} {i e : ℕ} (ok : Bool) → Wrote l i (text_of (end_line ok) []) m e
    → WroteWithin 8 l i (text_of (end_line ok) []) m e
wrote-end true w = record { wrote = w; within = omega (arith, w.past) }
wrote-end false w = record { wrote = w; within = omega (arith, w.past) }

-- what follows a line follows its text
pub text_then : (x : Line) (more : List ℕ) → text_of x more ≡ text_of x [] ++ more
text_then (fields a b c d) more = simp append_assoc
text_then end_ok more = refl
text_then end_bad more = refl
