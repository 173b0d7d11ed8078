-- Laws of what specs/Steps.antt defines. Assumes nothing.
use mathlib.Core.Path.{◌≡◌, refl, sym, ap, ◌∙◌, subst}
use mathlib.Core.Bool.{Bool, true, false}
use mathlib.Core.List.{List}
use Prim.Native.Nat.{ℕ, ◌-◌, ◌^◌, ◌≤◌, ◌<◌}
use native.Mathlib.Omega.{arith}
use lib.Dec.{T}
use Rattle.mucalculus.proofs.Sets.{and_in, and_out, true_of}
use Rattle.layout.specs.View.{View}
use Rattle.seek.specs.Walk.{HoldsPre, holds_at}
use Rattle.coins.specs.Cost.{step_cost}
use Rattle.coin_search.specs.Words.{mark_of}
use Rattle.coin_search.specs.Hall.{root_at, filled_at, Hall}
use Rattle.coin_search.proofs.Hall.{filled-used, filled_in, not-filled}
use Rattle.coin_calls.specs.Steps.{ExactStep, IsExact}

-- ---- one relation

false-true : {b : Bool} → b ≡ false → b ≡ true → ⊥
false-true {b} e f = subst T (sym f ∙ e) tt

module _ {W : View} {n : ℕ} {prices w : List ℕ} (h : Hall W n prices w) (s t r : ℕ) where
  not-exact : (ExactStep W n prices w s r t → ⊥) → IsExact W n prices w s t r false
  not-exact d = record { yes = λ e. absurd (false-true refl e); no = λ _. d }

  pub exact-empty : {x : ℕ} → x ≡ root_at W.header r → x ≡ 0 → IsExact W n prices w s t r false
  exact-empty e z = not-exact (λ x. not-filled W.header r e z (filled-used W r s t x.leads))

  pub exact_cheap : {m c : ℕ} → m ≡ mark_of w s → c ≡ step_cost prices r → m ≤ c → IsExact W n prices w s t r false
  exact_cheap em ec l = not-exact (λ x. let e = x.exact in let y = x.marked in absurd (omega arith))

  pub exact-other : {m k c : ℕ} → m ≡ mark_of w s → k ≡ mark_of w t → c ≡ step_cost prices r → (k ≡ m - c → ⊥)
      → IsExact W n prices w s t r false
  exact-other em ek ec d = not-exact (λ x. let e = x.exact in d (omega arith))

  module _ {x m k c : ℕ} (l : r < 8) (below : t < 2 ^ n) (ex : x ≡ root_at W.header r) (nx : x ≡ 0 → ⊥) (em : m ≡ mark_of w s)
      (ek : k ≡ mark_of w t) (ec : c ≡ step_cost prices r) (d : c < m) (e : k ≡ m - c) where
    filled : T (filled_at W.header r)
    filled = filled_in W.header r l ex nx

    arrow-is : root_at W.header r - 1 ≡ x - 1
    arrow-is = ap (λ (y : ℕ). y - 1) (sym ex)

    pub exact-asks : HoldsPre W (x - 1)
    exact-asks = subst (HoldsPre W) arrow-is (h.arrows r filled)

    pub exact-says : {b : Bool} → b ≡ holds_at W (x - 1) s t → IsExact W n prices w s t r b
    exact-says {b} eb = record {
      yes = λ q. record {
        below = below;
        leads = and_in (filled_at W.header r) _ filled
            (subst T (sym (ap (λ (y : ℕ). holds_at W y s t) arrow-is ∙ (sym eb ∙ q))) tt);
        marked = omega arith;
        exact = omega arith;
      };
      no = λ q y. false-true q (eb ∙ (ap (λ (z : ℕ). holds_at W z s t) (sym arrow-is)
          ∙ true_of (holds_at W (root_at W.header r - 1) s t) (and_out (filled_at W.header r) _ y.leads).1));
    }

-- ---- all relations

-- none below r is one
abbrev pub Passed : View → ℕ → List ℕ → List ℕ → ℕ → ℕ → ℕ → Type 0
Passed W n prices w s t r = (q : ℕ) → q < r → ExactStep W n prices w s q t → ⊥
