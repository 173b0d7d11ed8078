-- Laws of what specs/Answers.antt defines. Assumes nothing.
use mathlib.Core.Path.{◌≡◌, ◌∙◌}
use mathlib.Core.Logic.{⊎_elim}
use mathlib.Core.List.Memᴰ.{append_cases}
use mathlib.Core.List.Memᴰ.{append_left}
use mathlib.Core.List.{List, Memᴰ as Mem}
use Prim.Native.Nat.{ℕ}
use Rattle.diagram.specs.Rows.{Arrow}
use Rattle.layout.specs.Places.{USED, VALID, ROOTS_END}
use Rattle.layout.specs.View.{View}
use Rattle.rows.specs.Used.{rows_of}
use Rattle.rows.specs.Bits.{MARK_WORDS, On}
use Rattle.rows.specs.Mark.{Base}
use Rattle.rows.specs.Roots.{Held, MarksAll}
use Rattle.rows.specs.Sound.{Sound}
use Rattle.rows.specs.Filled.{filled}
use Rattle.rows.proofs.Filled.{filled-arrow}
use Rattle.collect.specs.Gather.{Gathered}
use Rattle.collect.specs.Lent.{live}
use Rattle.collect.proofs.Lent.{filled-marks}
use Rattle.collect.specs.Freed.{Freed}
use Rattle.collect.proofs.Freed.{freed, freed-count}
use Rattle.collect.specs.Answers.{FreePre, CollectPost}

-- what marking asks of a sound table
pub sound-base : {W : View} → Sound W → Base W MARK_WORDS
sound-base s = record { words = s.good.sizes.room; rows = s.good.rows; room = s.good.sizes.N-max }

live-arrow : {W : View} {xs : List ℕ} → FreePre W xs → (a : ℕ) → Mem a (live W xs) → Arrow (rows_of W) a
live-arrow {W} p a h = ⊎_elim (filled-arrow p.sound a) (p.arrows a) (append_cases (filled W) h)

-- the steps of `free_rows`, of `free_many` and of `collect_rows`
module _ (W X : View) (z m : List ℕ) (none : (i : ℕ) → On z i → ⊥) (g : Gathered W X m) where
  pub free-by : (xs : List ℕ) → FreePre W xs → MarksAll (rows_of W) z m (λ a. Mem a (live W xs)) → Freed W X (live W xs)
  free-by xs p k = freed W p.sound (live W xs) (live-arrow p) (λ a h. append_left xs h) z m none k X g

  pub filled-by : Sound W → MarksAll (rows_of W) z m (Held W VALID ROOTS_END) → Freed W X (filled W)
  filled-by s k = freed W s (filled W) (filled-arrow s) (λ a h. h) z m none (filled-marks k) X g

  pub collect-by : Sound W → MarksAll (rows_of W) z m (Held W VALID ROOTS_END) → {r : ℕ} → r ≡ X.header USED → CollectPost W X r
  collect-by s k e = let f = filled-by s k in record { freed = f; needs = e ∙ freed-count W X (filled W) s f }
