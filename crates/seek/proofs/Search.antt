-- Laws of what specs/Search.antt defines. Assumes nothing.
use mathlib.Core.Path.{◌≡◌, refl, sym, ap, ◌∙◌, subst}
use mathlib.Core.Bool.{Bool, true, false, not, ◌&&◌, true≢false}
use mathlib.Core.Logic.{by_cases}
use Prim.Native.Nat.{ℕ, ◌+◌, ◌*◌, ◌%◌, ◌^◌, ◌≤◌, ◌<◌}
use native.Mathlib.Nat.{one-mul, mod-eq_of_lt}
use lib.Pow.{pow_mono}
use native.Mathlib.Decide.{ℕ_discrete}
use native.Mathlib.Omega.{arith}
use lib.Dec.{T}
use Rattle.paths.specs.Runs.{first_of}
use Rattle.paths.proofs.First.{first-is, first-none}

-- nothing below i passes
abbrev pub NoneBelow : (ℕ → Bool) → ℕ → Type 0
NoneBelow q i = (j : ℕ) → j < i → q j ≡ false

pub none-start : (q : ℕ → Bool) → NoneBelow q 0
none-start q j l = absurd (omega arith)

pub none-next : (q : ℕ → Bool) (i : ℕ) → NoneBelow q i → q i ≡ false → NoneBelow q (i + 1)
none-next q i h e j l = by_cases (ℕ_discrete j i) (λ z. ap q z ∙ e) (λ n. h j (omega arith))

-- it passes
pub search-found : {k : ℕ} (q : ℕ → Bool) (i : ℕ) → i < k → NoneBelow q i → q i ≡ true → i ≡ first_of k q
search-found {k} q i l h e = sym (first-is k q i l (subst T (sym e) tt) h)

-- none passes
pub search-none : {k states : ℕ} (q : ℕ → Bool) (i : ℕ) → states ≡ k → states ≤ i → NoneBelow q i → states ≡ first_of k q
search-none {k} q i e b h = e ∙ sym (first-none k q (λ j l. h j (omega arith)))

-- two tests, one after the other
pub both-no : (x y : Bool) {r : Bool} → not r ≡ true → r ≡ x → false ≡ (x && y)
both-no true y h e = absurd (true≢false (sym h ∙ ap not e))
both-no false y h e = refl

pub both_yes : (x y : Bool) {r q : Bool} → not r ≡ false → r ≡ x → q ≡ y → q ≡ (x && y)
both_yes true y h e f = f
both_yes false y h e f = absurd (true≢false (sym (ap not e) ∙ h))

pub swap : (x y : Bool) → (x && y) ≡ (y && x)
swap true true = refl
swap true false = refl
swap false true = refl
swap false false = refl

-- the shift that gives 2^n
pub power_fits : (n : ℕ) → n ≤ 16 → 1 * 2 ^ n % 4_294_967_296 ≡ 2 ^ n
power_fits n l =
    let most : 2 ^ n ≤ 2 ^ 16 = pow_mono l in
    let e : 1 * 2 ^ n ≡ 2 ^ n = one-mul (2 ^ n) in
    let small : 2 ^ n % 4_294_967_296 ≡ 2 ^ n = mod-eq_of_lt (omega (arith, most)) in
    ap (λ (x : ℕ). x % 4_294_967_296) e ∙ small
