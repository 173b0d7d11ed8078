-- Laws of what specs/Words.antt defines. Assumes nothing.
use mathlib.Core.Path.{◌≡◌, refl, sym, ap, ◌∙◌}
use mathlib.Core.Logic.{by_cases}
use mathlib.Core.List.{List}
use Prim.Native.Nat.{ℕ, ◌+◌, ◌-◌, ◌*◌, ◌/◌, ◌%◌, ◌<◌}
use native.Mathlib.Decide.{ℕ_discrete}
use native.Mathlib.Omega.{arith}
use lib.ListN.{length, get_or, set, length-set}
use lib.Seq.{get_or-set_same, get_or-set_other}
use Rattle.coin_search.specs.Words.{MarkPut, StatePut, AddPost}

module _ (w : List ℕ) (i x : ℕ) (l : i < length w) where
  -- a part that is the same in the new word is the same everywhere
  part : {X : Type 0} (f : ℕ → X) → f x ≡ f (get_or w i 0) → (j : ℕ) → f (get_or (set w i x) j 0) ≡ f (get_or w j 0)
  part f e j = by_cases (ℕ_discrete j i)
      (λ q. ap (λ (y : ℕ). f (get_or (set w i x) y 0)) q ∙ ap f (get_or-set_same w i x 0 l) ∙ e ∙ ap (λ (y : ℕ). f (get_or w y 0)) (sym q))
      (λ n. ap f (get_or-set_other w i j x 0 n))

pub mark-put : (w : List ℕ) (s m : ℕ) → s < length w → MarkPut w (set w s (get_or w s 0 % 131_072 + m * 131_072)) s m
mark-put w s m l =
    let y : ℕ = get_or w s 0 in
    let x : ℕ = y % 131_072 + m * 131_072 in
    record {
      size = length-set w s x;
      mark = ap (λ (z : ℕ). z / 131_072) (get_or-set_same w s x 0 l) ∙ high y m;
      others = λ t n. ap (λ (z : ℕ). z / 131_072) (get_or-set_other w s t x 0 n);
      states = part w s x l (λ z. z % 65_536) (low y m);
    }
  where
    high : (y m : ℕ) → (y % 131_072 + m * 131_072) / 131_072 ≡ m
    high y m = omega arith

    low : (y m : ℕ) → (y % 131_072 + m * 131_072) % 65_536 ≡ y % 65_536
    low y m = omega arith

pub state-put : (w : List ℕ) (i s : ℕ) → i < length w → s < 65_536 → StatePut w (set w i (get_or w i 0 - get_or w i 0 % 65_536 + s)) i s
state-put w i s l h =
    let y : ℕ = get_or w i 0 in
    let x : ℕ = y - y % 65_536 + s in
    record {
      size = length-set w i x;
      state = ap (λ (z : ℕ). z % 65_536) (get_or-set_same w i x 0 l) ∙ low y s h;
      others = λ j n. ap (λ (z : ℕ). z % 65_536) (get_or-set_other w i j x 0 n);
      marks = part w i x l (λ z. z / 131_072) (high y s h);
    }
  where
    low : (y s : ℕ) → s < 65_536 → (y - y % 65_536 + s) % 65_536 ≡ s
    low y s h = omega arith

    high : (y s : ℕ) → s < 65_536 → (y - y % 65_536 + s) / 131_072 ≡ y / 131_072
    high y s h = omega arith

pub add_post : {w u v : List ℕ} {s m count : ℕ} → MarkPut w u s m → StatePut u v count s → AddPost w v s m count
add_post {w} {u} {v} {s} {m} {count} a b = record {
  size = b.size ∙ a.size;
  added = record {
    count = refl;
    before = λ i l. b.others i (λ e. omega arith) ∙ a.states i;
    last = b.state;
    mark = b.marks s ∙ a.mark;
    others = λ t n. b.marks t ∙ a.others t n;
  };
}
