-- Laws of what specs/Find.antt defines. Assumes nothing.
use mathlib.Core.Path.{◌≡◌}
use mathlib.Core.Bool.{true}
use mathlib.Core.Logic.{by_cases}
use Prim.Native.Nat.{ℕ, ◌≤◌, ◌<◌}
use native.Mathlib.Decide.{dec_lt}
use native.Mathlib.Omega.{arith}
use Rattle.layout.specs.View.{View}
use Rattle.rows.specs.Used.{used}
use Rattle.rows.specs.Index.{bucket, live, Has, Hit, Index}
use Rattle.rows.specs.Lookup.{Room}
use Rattle.rows.specs.Sound.{Good}
use Rattle.rows.proofs.Sound.{room_of}
use Rattle.table.specs.Find.{FreePost, UnusedPost}

-- every used row with these three words lies ahead of link p
abbrev pub Ahead : View → ℕ → ℕ → ℕ → ℕ → Type 0
Ahead W l lo hi p = (i : ℕ) → used W i ≡ true → Has W i l lo hi → Hit W l lo hi p i

pub find-start : (W : View) (l lo hi : ℕ) → Index W → Ahead W l lo hi (live (used W) (W.head (bucket W.rows l lo hi)))
find-start W l lo hi x i u h = rw (h.level, h.low, h.high) at (x.found i u)

pub good-room : (W : View) → Good W → Room W
good-room W g = room_of W g.sizes g.ranked.count-le

-- the ways out of the search from the cursor
module _ (W : View) where
  pub unused-all : {r : ℕ} → FreePost W 0 W.rows r → UnusedPost W r
  unused-all p = record { le = p.high; free = p.free; all = λ h j l. p.below j (omega arith) (let q = p.high in omega arith) }

  pub unused-after : {c r : ℕ} → FreePost W c W.rows r → r < W.rows → UnusedPost W r
  unused-after p h = record { le = p.high; free = p.free; all = λ g j l. absurd (omega arith) }

  pub unused-before : {c r : ℕ} → c < W.rows → FreePost W 0 c r → r < c → UnusedPost W r
  unused-before g p h = record { le = omega arith; free = λ _. p.free h; all = λ k j l. absurd (omega arith) }

  pub unused-none : {c r q : ℕ} → FreePost W c W.rows r → W.rows ≤ r → FreePost W 0 c q → c ≤ q → UnusedPost W W.rows
  unused-none {c} p h s g = record {
    le = omega arith;
    free = λ k. absurd (omega arith);
    all = λ k j l. by_cases (dec_lt j c) (λ x. s.below j (omega arith) (omega arith)) (λ n. p.below j (omega arith) (omega arith));
  }
