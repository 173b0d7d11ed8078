-- Laws of what specs/Survey.antt defines. Assumes nothing.
use mathlib.Core.Path.{◌≡◌, refl, sym, ap, ◌∙◌, subst}
use mathlib.Core.Logic.{◌⊎◌, inl, inr, ⊎_elim}
use mathlib.Core.Bool.{Bool, true, false, cond, true≢false}
use mathlib.Core.List.Memᴰ.{cases_cons as mem-cases}
use mathlib.Core.List.Memᴰ.{tail as there}
use mathlib.Core.List.{List, [], ◌∷◌, Memᴰ as Mem}
use mathlib.Core.List.Memᴰ.{not-nil as mem-nil}
use Prim.Native.Nat.{ℕ, suc, ◌≤◌}
use native.Mathlib.Omega.{arith}
use lib.ListN.{length}
use lib.Dec.{eqb}
use Rattle.diagram.specs.Rows.{Rows, target, Leads, level_of, child, follow}
use Rattle.diagram.proofs.Rows.{leads-level}
use Rattle.diagram.specs.Reach.{Reach, root, by-low, by_high}
use Rattle.diagram.proofs.Reach.{ReachedTo, reached_follow}
use Rattle.diagram.specs.Odd.{Follows, self, on}
use Rattle.diagram.specs.Tally.{those}
use Rattle.diagram.proofs.Tally.{Surveyed, AddedRows, surveyed, added-rows}
use Rattle.diagram.specs.Survey.{bump, Passed, Survey, Accounted, AddedSoFar}

-- One more counts once, at its level.
those-more : (p : ℕ → ℕ → Bool) (x : ℕ) (xs : List ℕ) (h : ℕ → ℕ) (l : ℕ) → ((k : ℕ) → p k x ≡ eqb l k)
    → ((k : ℕ) → length (those (p k) xs) ≤ h k)
    → (k : ℕ) → length (those (p k) (x ∷ xs)) ≤ bump h l k
unfolding those bump
those-more p x xs h l e c k = pick (p k x) (eqb l k) (e k) (c k)
  where
    pick : (a b : Bool) → a ≡ b → length (those (p k) xs) ≤ h k
        → length (cond a (x ∷ those (p k) xs) (those (p k) xs)) ≤ cond b (suc (h k)) (h k)
    pick true true q g = omega arith
    pick true false q g = absurd (true≢false q)
    pick false true q g = omega arith
    pick false false q g = g

module _ {m : ℕ} {rows : Rows} {evens : List ℕ} where
  -- The survey begins with nothing,
  pub survey-none : Survey m rows evens [] (λ l. 0)
  unfolding those
  survey-none = record { closed = λ c i b h. absurd (mem-nil h); counted = λ l. omega arith }

  -- takes an arrow to row i after the two that are followed from it,
  pub survey-add : (cs : List ℕ) (above : ℕ → ℕ) (c i : ℕ) → Survey m rows evens cs above → Leads c i
      → Passed rows evens cs (follow rows c i false) → Passed rows evens cs (follow rows c i true)
      → Survey m rows evens (c ∷ cs) (bump above (rows.level i))
  survey-add cs above c i s l low high = record {
    closed = λ x r b mx g. ⊎_elim (λ e. own x r b e g) (λ h. more x r b (s.closed x r b h g)) (mem-cases mx);
    counted =
        those-more (λ k x. eqb (level_of m rows x) k) c cs above (rows.level i) (λ k. ap (λ z. eqb z k) (leads-level m rows c i l))
        s.counted;
  }
    where
      more : (x r : ℕ) (b : Bool) → Passed rows evens cs (follow rows x r b) → Passed rows evens (c ∷ cs) (follow rows x r b)
      more x r b p j q = ⊎_elim (λ h. inl h) (λ h. inr (there h)) (p j q)

      side : (b : Bool) → Passed rows evens cs (follow rows c i b)
      side false = low
      side true = high

      own : (x r : ℕ) (b : Bool) → x ≡ c → Leads x r → Passed rows evens (c ∷ cs) (follow rows x r b)
      own x r b e g =
          let z = ap target e in
          let k : r ≡ i = omega (arith, z, g, l) in
          let f : follow rows c i b ≡ follow rows x r b = ap (λ y. follow rows y i b) (sym e) ∙ ap (λ y. follow rows x y b) (sym k) in
          subst (Passed rows evens (c ∷ cs)) f (more c i b (side b))

  -- and has, once it is done with arrow a, all that is followed from a.
  pub survey-all : (cs : List ℕ) (above : ℕ → ℕ) (a c : ℕ) → Survey m rows evens cs above → Passed rows evens cs a → Follows rows a c
      → Passed rows evens cs c
  survey-all cs above a c s p self = p
  survey-all cs above a c s p (on {c = x} {i = i} b t l) =
      ⊎_elim (λ r. λ j q. inl (subst (ReachedTo rows evens) q (reached_follow rows evens x i b (subst (ReachedTo rows evens) (sym l) r) l)))
      (λ h. s.closed x i b h l) (survey-all cs above a x s p t i l)

  pub survey-done : (cs : List ℕ) (above : ℕ → ℕ) (a : ℕ) → Survey m rows evens cs above → Passed rows evens cs a
      → Surveyed rows evens a above
  survey-done cs above a s p = surveyed m rows evens a cs above (λ c i t l. survey-all cs above a c s p t i l) s.counted

module _ {rows : Rows} {roots : List ℕ} where
  -- The same for the rows added.
  pub added_none : AddedSoFar rows roots [] (λ l. 0)
  unfolding those
  added_none = record { closed = λ i b h. absurd (mem-nil h); counted = λ l. omega arith }

  pub added_more : (is : List ℕ) (added : ℕ → ℕ) (i : ℕ) → AddedSoFar rows roots is added → Accounted rows roots is (rows.low i)
      → Accounted rows roots is (rows.high i)
      → AddedSoFar rows roots (i ∷ is) (bump added (rows.level i))
  added_more is added i s low high = record {
    closed =
        λ x b mx. ⊎_elim (λ e. subst (λ y. Accounted rows roots (i ∷ is) (child rows y b)) (sym e) (more (child rows i b) (side b)))
        (λ h. more (child rows x b) (s.closed x b h)) (mem-cases mx);
    counted = those-more (λ k x. eqb (rows.level x) k) i is added (rows.level i) (λ k. refl) s.counted;
  }
    where
      more : (a : ℕ) → Accounted rows roots is a → Accounted rows roots (i ∷ is) a
      more a p j q = ⊎_elim (λ h. inl h) (λ h. inr (there h)) (p j q)

      side : (b : Bool) → Accounted rows roots is (child rows i b)
      side false = low
      side true = high

  pub added-done : (is bs : List ℕ) (added : ℕ → ℕ) → AddedSoFar rows roots is added → ((b : ℕ) → Mem b bs → Accounted rows roots is b)
      → AddedRows rows roots bs added
  added-done is bs added s each = added-rows rows roots bs is added all s.counted
    where
      all : (i : ℕ) → Reach rows bs i → Reach rows roots i ⊎ Mem i is
      all i (root {a = a} h e) = each a h i e
      all i (by-low {i = x} t e) = ⊎_elim (λ r. inl (by-low r e)) (λ h. s.closed x false h i e) (all x t)
      all i (by_high {i = x} t e) = ⊎_elim (λ r. inl (by_high r e)) (λ h. s.closed x true h i e) (all x t)
