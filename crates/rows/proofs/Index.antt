-- Laws of what specs/Index.antt defines. Assumes nothing.
use mathlib.Core.Path.{◌≡◌, refl}
use mathlib.Core.Bool.{Bool, true, false, cond}
use Prim.Native.Nat.{ℕ, zero, suc, ◌*◌, ◌<◌}
use native.Mathlib.Nat.{mul-lt-mul_of_pos_right}
use native.Mathlib.Omega.{arith}
use Rattle.layout.specs.View.{View}
use Rattle.rows.specs.Used.{used}
use Rattle.rows.specs.Index.{hash, bucket, live, Hit, stop, skip, Down, Link}

pub hash-lt : (l lo hi : ℕ) → hash l lo hi < 4294967296
unfolding hash
hash-lt l lo hi = omega arith

pub bucket-lt : (N l lo hi : ℕ) → 0 < N → bucket N l lo hi < N
unfolding bucket
bucket-lt N l lo hi h =
    let p : hash l lo hi * N < 4294967296 * N = mul-lt-mul_of_pos_right (hash-lt l lo hi) h in
    let q : hash l lo hi * N < N * 4294967296 = omega arith in
    omega arith

-- what a lookup finds is one row
pub hit_one : {W : View} {l lo hi p i j : ℕ} → Hit W l lo hi p i → Hit W l lo hi p j → i ≡ j
hit_one (stop a) (stop b) = refl
hit_one (stop a) (skip n r) = absurd (n a)
hit_one (skip n r) (stop a) = absurd (n a)
hit_one (skip n r) (skip m s) = hit_one r s

pub live-used : (u : ℕ → Bool) (j : ℕ) → u j ≡ true → live u (suc j) ≡ suc j
unfolding live
live-used u j e = rw e

pub live-not : (u : ℕ → Bool) (j : ℕ) → u j ≡ false → live u (suc j) ≡ 0
unfolding live
live-not u j e = rw e

pub live-zero : (u : ℕ → Bool) → live u 0 ≡ 0
unfolding live
live-zero u = refl

pub live_link : (u : ℕ → Bool) (p : ℕ) → Link u (live u p)
unfolding live
live_link u zero = tt
live_link u (suc j) = go (u j) refl
  where
    go : (b : Bool) → u j ≡ b → Link u (cond b (suc j) 0)
    go true e = e
    go false e = tt

pub down_link : (W : View) (k p : ℕ) → Down W k p → Link (used W) p
down_link W k zero d = tt
down_link W k (suc j) d = d.0
