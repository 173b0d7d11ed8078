-- A table that grew is sound if the old one was: what a call that makes rows leaves. Assumes nothing.
use mathlib.Core.Path.{◌≡◌, ap, sym, ◌∙◌, subst}
use Prim.Native.Nat.{ℕ, zero, suc}
use mathlib.Core.List.{[], ◌∷◌}
use native.Mathlib.Omega.{arith}
use Rattle.diagram.specs.Rows.{Rows, Arrow, WellFormed, Extends}
use Rattle.diagram.proofs.Grow.{arrow_extends}
use Rattle.diagram.specs.Even.{even}
use Rattle.diagram.specs.Reach.{Reach}
use Rattle.diagram.proofs.Reach.{one-root}
use Rattle.diagram.proofs.Keep.{extends_keeps, keeps_reach_back}
use Rattle.diagram.specs.Post.{Result, Plain, equal_arrows, found_row, added-row, no_row, Making, as_is, turned}
use Rattle.layout.specs.Places.{BITS}
use Rattle.layout.specs.View.{View}
use Rattle.rows.specs.Used.{rows_of}
use Rattle.rows.proofs.MarkLaws.{reaches_used}
use Rattle.rows.specs.Roots.{Ref}
use Rattle.rows.specs.Sound.{Good, Sound}
use Rattle.rows.proofs.Kept.{RootsKept, valid-kept, within_extends}

-- what an old arrow reaches in the larger table it reaches in the old one
pub reach-back : {m N : ℕ} {old new : Rows} → Extends old new → WellFormed m N old → {a i : ℕ} → Arrow old a → Reach new (a ∷ []) i
    → Reach old (a ∷ []) i
reach-back {old = old} e wf u = keeps_reach_back (extends_keeps wf (one-root (Arrow old) u) e)

-- a good table with more rows and the same roots is sound
pub sound_extends : {W X : View} → Sound W → Good X → X.header BITS ≡ W.header BITS → RootsKept W X → Extends (rows_of W) (rows_of X)
    → Sound X
sound_extends {W} {X} s g z f e = record {
  good = g;
  refs = λ h a l. subst (λ (v : ℕ). Ref (rows_of X) v) (sym (f h a l)) (ref (W.header h) (s.refs h a l));
  even = λ h a l b q i r.
      let q' : W.header h ≡ suc b = sym (f h a (omega arith)) ∙ q in
      let u : Arrow (rows_of W) b = subst (λ (v : ℕ). Ref (rows_of W) v) q' (s.refs h a (omega arith)) in
      let t = reach-back e s.good.rows u r in
      ap even (e.level i (reaches_used s.good.rows u t)) ∙ s.even h a l b q' i t;
  valid = valid-kept W X f s.valid;
  within = within_extends W X f s.valid z s.good.rows s.refs e s.within;
}
  where
    ref : (v : ℕ) → Ref (rows_of W) v → Ref (rows_of X) v
    ref zero u = tt
    ref (suc a) u = arrow_extends e a u

-- the rows of before stand unchanged after a row is made
plain_extends : {m N limit : ℕ} {before after : Rows} {l a b : ℕ} {o : Result} → Plain m N limit before after l a b o → Extends before after
plain_extends (equal_arrows e s) = s.forth
plain_extends (found_row i u x y z s) = s.forth
plain_extends (added-row i h n s f) = s.kept
plain_extends (no_row n all f s) = s.forth

pub made_extends : {m N limit : ℕ} {before after : Rows} {l a b : ℕ} {o : Result} → Making m N limit before after l a b o
    → Extends before after
made_extends (as_is b p) = plain_extends p
made_extends (turned b p e) = plain_extends p
