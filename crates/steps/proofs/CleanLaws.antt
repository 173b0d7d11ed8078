-- Laws of what specs/Clean.antt defines. Assumes nothing.
use mathlib.Core.Path.{◌≡◌, refl, sym, subst}
use mathlib.Core.Logic.{◌≢◌, ◌⊎◌, inl, inr, ⊎_elim}
use mathlib.Core.List.Memᴰ.{head as here}
use mathlib.Core.List.Memᴰ.{tail as there}
use mathlib.Core.List.{List, [], ◌∷◌, ◌++◌, Memᴰ as Mem}
use mathlib.Core.List.Memᴰ.{append_cases}
use mathlib.Core.List.Memᴰ.{cases_cons as mem-cases}
use mathlib.Core.List.Memᴰ.{not-nil as mem-nil}
use mathlib.Core.List.Memᴰ.{append_left}
use mathlib.Core.List.Memᴰ.{append_right}
use Prim.Native.Nat.{ℕ, zero, suc}
use native.Mathlib.Omega.{arith}
use Rattle.diagram.specs.Rows.{Rows, Leads, Arrow}
use Rattle.diagram.specs.Collect.{Collects}
use Rattle.diagram.proofs.Collect.{collects-same}
use Rattle.layout.specs.View.{View}
use Rattle.rows.specs.Used.{rows_of}
use Rattle.rows.specs.Filled.{filled}
use Rattle.rows.proofs.Alike.{alike_sound}
use Rattle.collect.specs.Lent.{live}
use Rattle.collect.specs.Freed.{Freed}
use Rattle.collect.specs.Answers.{FreePre}
use Rattle.memory.proofs.Frame.{rows_same, memo_alike}
use Rattle.memory.specs.Forget.{Forgot}
use Rattle.memory.proofs.ForgetLaws.{forgot_remembers}
use Rattle.operations.proofs.Work.{op_trans, op_made, op_memo}
use Rattle.steps.specs.Steps.{operands_of, first_operand, second_operand, live_at}
use Rattle.steps.specs.declared.Step.{Step}
use Rattle.steps.specs.declared.Step.TheVariants as step
use Rattle.steps.specs.Clean.{CleanPre, Cleaned}

-- the operands as the code lends them, and one more arrow
abbrev pub lent : Step → ℕ → List ℕ
lent s kept = first_operand s ∷ second_operand s ∷ kept ∷ []

-- arrows to rows among them are operands, or that arrow
padded : {b c kept a : ℕ} (xs : List ℕ) → (a ≡ b → Mem a xs) → (a ≡ c → Mem a xs) → Mem a (b ∷ c ∷ kept ∷ []) → Mem a xs ⊎ (a ≡ kept)
padded xs f g h =
    ⊎_elim (λ e. inl (f e)) (λ t. ⊎_elim (λ e. inl (g e)) (λ u. ⊎_elim (λ e. inr e) (λ n. absurd (mem-nil n)) (mem-cases u)) (mem-cases t))
    (mem-cases h)

no_row : {A : Type 0} {c : ℕ} → c ≢ 0 → c ≡ 0 → A
no_row n e = absurd (n e)

lent-mem : (s : Step) (kept c : ℕ) → c ≢ 0 → Mem c (lent s kept) → Mem c (operands_of s) ⊎ (c ≡ kept)
lent-mem (step.Bit l) kept c n = padded [] (no_row n) (no_row n)
lent-mem (step.Cube o z) kept c n = padded [] (no_row n) (no_row n)
lent-mem (step.Not a) kept c n = padded (a ∷ []) here (no_row n)
lent-mem (step.And a b) kept c n = padded (a ∷ b ∷ []) here (λ e. there (here e))
lent-mem (step.Or a b) kept c n = padded (a ∷ b ∷ []) here (λ e. there (here e))
lent-mem (step.Shift a) kept c n = padded (a ∷ []) here (no_row n)
lent-mem (step.Exists x a) kept c n = padded (a ∷ []) here (no_row n)

-- the operands are among them
one_lent : {a b c kept : ℕ} → Mem a (b ∷ []) → Mem a (b ∷ c ∷ kept ∷ [])
one_lent h = ⊎_elim (λ e. here e) (λ n. absurd (mem-nil n)) (mem-cases h)

two_lent : {a b c kept : ℕ} → Mem a (b ∷ c ∷ []) → Mem a (b ∷ c ∷ kept ∷ [])
two_lent h = ⊎_elim (λ e. here e) (λ t. ⊎_elim (λ e. there (here e)) (λ n. absurd (mem-nil n)) (mem-cases t)) (mem-cases h)

mem-lent : (s : Step) (kept a : ℕ) → Mem a (operands_of s) → Mem a (lent s kept)
mem-lent (step.Bit l) kept a h = absurd (mem-nil h)
mem-lent (step.Cube o z) kept a h = absurd (mem-nil h)
mem-lent (step.Not b) kept a h = one_lent h
mem-lent (step.And b c) kept a h = two_lent h
mem-lent (step.Or b c) kept a h = two_lent h
mem-lent (step.Shift b) kept a h = one_lent h
mem-lent (step.Exists x b) kept a h = one_lent h

kept-lent : (s : Step) (kept : ℕ) → Mem kept (lent s kept)
kept-lent s kept = there (there (here refl))

-- what freeing asks
module _ {W : View} {roots : List ℕ} {s : Step} {kept a b : ℕ} (ea : a ≡ first_operand s) (eb : b ≡ second_operand s)
    (p : CleanPre W roots s kept) where
  lent-arrow : (c : ℕ) → Mem c (lent s kept) → Arrow (rows_of W) c
  lent-arrow zero h = tt
  lent-arrow (suc c) h =
      ⊎_elim (p.operands (suc c)) (λ e. subst (Arrow (rows_of W)) (sym e) p.kept-arrow)
      (lent-mem s kept (suc c) (λ e. absurd (omega arith)) h)

  pub free-pre : FreePre W (roots ++ (a ∷ b ∷ kept ∷ []))
  free-pre = rw (ea, eb) (record { sound = p.sound; arrows = λ c h. ⊎_elim (p.arrows c) (lent-arrow c) (append_cases roots h) })

  -- the rows that are left
  pub to-live : (c i : ℕ) → Leads c i → Mem c (live W (roots ++ lent s kept)) → Mem c (kept ∷ live_at W roots s)
  to-live c i l h =
      ⊎_elim (λ f. there (append_left (roots ++ operands_of s) f))
      (λ t. ⊎_elim (λ r. there (append_right (filled W) (append_left (operands_of s) r)))
      (λ u. ⊎_elim (λ o. there (append_right (filled W) (append_right roots o))) (λ e. here e)
      (lent-mem s kept c (λ e. absurd (omega (arith, l, e))) u)) (append_cases roots t))
      (append_cases (filled W) h)

  pub to-lent : (c : ℕ) → Mem c (kept ∷ live_at W roots s) → Mem c (live W (roots ++ lent s kept))
  to-lent c h =
      ⊎_elim (λ e. append_right (filled W) (append_right roots (subst (λ (c : ℕ). Mem c (lent s kept)) (sym e) (kept-lent s kept))))
      (λ t. ⊎_elim (λ f. append_left (roots ++ lent s kept) f)
      (λ u. append_right (filled W)
      (⊎_elim (λ r. append_left (lent s kept) r) (λ o. append_right roots (mem-lent s kept c o)) (append_cases roots u)))
      (append_cases (filled W) t))
      (mem-cases h)

  pub cleaned_by : {W₁ X : View} → Freed W W₁ (live W (roots ++ (a ∷ b ∷ kept ∷ []))) → Forgot W₁ X → Cleaned W X roots s kept
  cleaned_by {W₁} {X} f g =
      let f' : Freed W W₁ (live W (roots ++ lent s kept)) = rw (ea, eb) at f in
      record {
        sound = alike_sound (memo_alike g.frame) f.sound;
        memory = λ m. forgot_remembers m g;
        frame = op_trans (op_made f.frame) (op_memo g.frame);
        collects =
            subst (λ (t : Rows). Collects (rows_of W) t (kept ∷ live_at W roots s)) (sym (rows_same g.frame))
            (collects-same to-live (λ c i l. to-lent c) f'.collects);
      }
