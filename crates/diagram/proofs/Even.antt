-- Laws of what specs/Even.antt defines. Assumes nothing.
use mathlib.Core.Path.{◌≡◌, refl, sym, ap, ◌∙◌}
use mathlib.Core.Logic.{◌≢◌, by_cases}
use mathlib.Core.Bool.{Bool, true, false, cond, Bool-discrete}
use mathlib.Core.List.Memᴰ.{eq_of_singleton as mem-only}
use mathlib.Core.List.{List, [], ◌∷◌, Memᴰ as Mem}
use Prim.Native.Nat.{ℕ, zero, suc, ◌≤◌, ◌<◌}
use native.Mathlib.Decide.{dec_le, ℕ_discrete}
use native.Mathlib.Omega.{arith}
use Rattle.diagram.specs.Level.{Val, Fn, turn, CofactorOf, PartOf}
use Rattle.diagram.proofs.Level.{turn_inj, upd_other, splice-below, splice-above, Reads}
use Rattle.diagram.specs.Rows.{Rows, marked, target, Leads, row, Arrow, den_to, den, WellFormed}
use Rattle.diagram.proofs.Rows.{row-leads}
use Rattle.diagram.proofs.Canon.{level-told}
use Rattle.diagram.specs.Reach.{Reach}
use Rattle.diagram.proofs.Reach.{Reached, ReachedTo, reached_low, reached_high, reach-used, reach-part}
use Rattle.diagram.specs.Even.{ReadsOn, even}

-- What is read by a function, its cofactors read at most.
pub cofactor_reads_on : {P : ℕ → Bool} {f g : Fn} → ReadsOn P f → CofactorOf f g → ReadsOn P g
cofactor_reads_on r c v w h =
    c.same v ∙ r _ _ (λ l p. by_cases (dec_le c.upto l)
    (λ k. splice-above c.upto c.fixed v l k ∙ h l p ∙ sym (splice-above c.upto c.fixed w l k))
    (λ k. splice-below c.upto c.fixed v l (omega arith) ∙ sym (splice-below c.upto c.fixed w l (omega arith))))
    ∙ sym (c.same w)

part_reads_on : {P : ℕ → Bool} {f g : Fn} → ReadsOn P f → PartOf f g → ReadsOn P g
part_reads_on {g = g} r p v w h = turn_inj p.turned (g v) (g w) (cofactor_reads_on r p.cofactor v w h)

module _ {m N : ℕ} {rows : Rows} (wf : WellFormed m N rows) (P : ℕ → Bool) where
  -- The level of the row that an arrow leads to is read.
  pub row-level-read : (a i : ℕ) → Leads a i → rows.used i ≡ true → ReadsOn P (den m rows a) → P (rows.level i) ≡ true
  row-level-read a i e u r =
      by_cases (Bool-discrete (P (rows.level i)) true) (λ q. q)
      (λ ne.
      let off : (k : ℕ) → P k ≡ true → k ≢ rows.level i = λ k p q. ne (ap P (sym q) ∙ p) in
      absurd (level-told wf a i e u
      (λ v. r _ _ (λ k p. upd_other v (rows.level i) false k (off k p) ∙ sym (upd_other v (rows.level i) true k (off k p))))))

  -- An arrow reads only levels that pass P exactly where all rows reached from it are at such levels.
  pub levels-read : (a : ℕ) → Arrow rows a → ReadsOn P (den m rows a) → (i : ℕ) → Reach rows (a ∷ []) i → P (rows.level i) ≡ true
  levels-read a ua r i t =
      let arrows : (b : ℕ) → Mem b (a ∷ []) → Arrow rows b = λ b h. rw (mem-only h) ua in
      let (b, mb, c) = reach-part wf arrows t in
      row-level-read (row i) i (row-leads i) (reach-used wf arrows t) (part_reads_on r (rw (mem-only mb) at c))

module _ (rows : Rows) (P : ℕ → Bool) (roots : List ℕ) (all : (i : ℕ) → Reach rows roots i → P (rows.level i) ≡ true) where
  reads_to_levels : (f k : ℕ) → ReachedTo rows roots k → ReadsOn P (den_to f rows k)
  unfolding den_to
  reads_to_levels zero k r v w h = refl
  reads_to_levels (suc f) zero r v w h = refl
  reads_to_levels (suc f) (suc i) r v w h =
      let e = h (rows.level i) (all i r) in
      let eh = reads_to_levels f (target (rows.high i)) (reached_high rows roots r (rows.high i) refl) v w h in
      let el = reads_to_levels f (target (rows.low i)) (reached_low rows roots r (rows.low i) refl) v w h in
      cc (e, eh, el)

  pub reads_levels : (f a : ℕ) → Reached rows roots a → ReadsOn P (den f rows a)
  unfolding den
  reads_levels f a r v w h = ap (turn (marked a)) (reads_to_levels f (target a) r v w h)

-- A function of even levels below m, an even number, does not read level m − 1.
pub even_reads : {f : Fn} (lo k : ℕ) → even k ≡ false → ReadsOn even f → Reads lo (suc k) f → Reads lo k f
even_reads lo k odd r s v w h =
    r v u (λ l p. sym (ap (λ b. cond b (v l) (w l)) p)) ∙ s u w at_most
  where
    u : Val
    u l = cond (even l) (v l) (w l)

    pick : (l : ℕ) (b : Bool) → v l ≡ w l → cond b (v l) (w l) ≡ w l
    pick l true e = e
    pick l false e = refl

    at_most : (l : ℕ) → lo ≤ l → l < suc k → u l ≡ w l
    at_most l a b =
        by_cases (ℕ_discrete l k)
        (λ e. ap (λ c. cond c (v l) (w l)) (ap even e ∙ odd))
        (λ ne. pick l (even l) (h l a (omega arith)))
