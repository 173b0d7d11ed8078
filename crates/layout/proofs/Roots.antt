-- Laws of what specs/Roots.antt defines. Assumes nothing.
use mathlib.Core.Path.{◌≡◌}
use mathlib.Core.Bool.{false}
use mathlib.Core.List.{List}
use Prim.Native.Nat.{ℕ, ◌+◌, ◌<◌, ◌≤◌}
use borrow.Author.Tests.{lt-ltb, le-ltb}
use Rattle.layout.specs.View.{header_of}
use Rattle.layout.specs.Roots.{filled_word, filled_root}

pub root-past : (ws : List ℕ) (start total k : ℕ) → total ≤ k → filled_root ws start total k ≡ false
unfolding filled_root
root-past ws start total k h = rw (le-ltb k total h)

pub root_is : (ws : List ℕ) (start total k : ℕ) {x : ℕ} → k < total → x ≡ header_of ws (start + k)
    → filled_word x ≡ filled_root ws start total k
unfolding filled_root
root_is ws start total k h e = rw (e, lt-ltb k total h)
