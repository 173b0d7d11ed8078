-- Bytes of a buffer that move to its front, one after the other. Assumes nothing.
use mathlib.Core.Path.{◌≡◌, refl, sym, ap, ◌∙◌, subst}
use mathlib.Core.List.{List, [], ◌∷◌, ◌++◌}
use Prim.Native.Nat.{ℕ, suc, ◌+◌, ◌≤◌, ◌<◌}
use native.Mathlib.Numerals.{add-one}
use native.Mathlib.Omega.{arith}
use lib.ListN.{length, get_or, set, take, drop, length-set, length-drop}
use lib.Seq.{take-suc, take-suc-set, drop-set-lt, drop-drop, get_or-drop}

-- i bytes from `start` on have moved, and the bytes from i on are as they were
pub record Moved (start : ℕ) (old new : List ℕ) (i : ℕ) : Type 0 where
  pub size : length new ≡ length old
  pub front : take i new ≡ take i (drop start old)
  pub back : drop i new ≡ drop i old

pub moved_none : (start : ℕ) (l : List ℕ) → Moved start l l 0
moved_none start l = record { size = refl; front = refl; back = refl }

pub moved-one : {start i : ℕ} (old new : List ℕ) → start + i < length old → Moved start old new i
    → Moved start old (set new i (get_or new (start + i) 0)) (i + 1)
moved-one {start} {i} old new h m = subst (Moved start old (set new i a)) (sym (add-one i)) (record {
  size = length-set new i a ∙ m.size;
  front =
      take-suc-set new i a (omega (arith, m.size)) ∙ ap (λ (l : List ℕ). l ++ (a ∷ [])) m.front
      ∙ ap (λ (b : ℕ). take i (drop start old) ++ (b ∷ [])) same
      ∙ sym (take-suc (drop start old) i 0 (omega (arith, length-drop start old)));
  back = drop-set-lt (suc i) new i a (omega arith) ∙ one-off new ∙ ap (drop 1) m.back ∙ sym (one-off old);
})
  where
    a : ℕ
    a = get_or new (start + i) 0

    one-off : (l : List ℕ) → drop (suc i) l ≡ drop 1 (drop i l)
    one-off l = ap (λ (k : ℕ). drop k l) (sym (add-one i)) ∙ sym (drop-drop 1 i l)

    -- the byte read has not moved yet
    as_it_was : (l : List ℕ) → get_or l (start + i) 0 ≡ get_or (drop i l) start 0
    as_it_was l = let e : start + i ≡ i + start = omega arith in ap (λ (k : ℕ). get_or l k 0) e ∙ sym (get_or-drop i l start 0)

    same : a ≡ get_or (drop start old) i 0
    same = as_it_was new ∙ ap (λ (l : List ℕ). get_or l start 0) m.back ∙ sym (as_it_was old) ∙ sym (get_or-drop start old i 0)

-- all of them have moved
pub moved_all : {start i held : ℕ} (old new : List ℕ) → i ≤ held → held ≤ i → Moved start old new i
    → take held new ≡ take held (drop start old)
moved_all {start} {i} {held} old new a b m =
    let e : i ≡ held = omega arith in subst (λ (k : ℕ). take k new ≡ take k (drop start old)) e m.front
