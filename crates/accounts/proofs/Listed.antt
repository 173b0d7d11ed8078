-- Laws of what specs/Listed.antt defines. Assumes nothing.
use mathlib.Core.Path.{◌≡◌, refl, ap}
use mathlib.Core.List.{List, [], ◌∷◌, ◌++◌}
use Prim.Native.Nat.{ℕ, zero, suc, ◌<◌}
use native.Mathlib.Nat.{not-suc-le-zero, le_of_suc-le-suc}
use lib.ListN.{length, get_or, set, take, drop}
use Rattle.accounts.specs.declared.Account.{Account}
use Rattle.accounts.specs.Account.{emptied}
use Rattle.accounts.specs.Listed.{none, emptied_to}

pub length-emptied : (k : ℕ) (l : List Account) → length (emptied_to k l) ≡ length l
length-emptied zero l = refl
length-emptied (suc k) [] = refl
length-emptied (suc k) (a ∷ l) = ap suc (length-emptied k l)

-- one account more
pub emptied-next : (k : ℕ) (l : List Account) → k < length l
    → set (emptied_to k l) k (emptied (get_or (emptied_to k l) k none)) ≡ emptied_to (suc k) l
emptied-next k [] h = absurd (not-suc-le-zero h)
emptied-next zero (a ∷ l) h = refl
emptied-next (suc k) (a ∷ l) h = ap (λ (t : List Account). emptied a ∷ t) (emptied-next k l (le_of_suc-le-suc h))

-- the part that is emptied, and what is after it
pub emptied-front : (k : ℕ) (l : List Account) → emptied_to k (take k l) ++ drop k l ≡ emptied_to k l
emptied-front zero l = refl
emptied-front (suc k) [] = refl
emptied-front (suc k) (a ∷ l) = ap (λ (t : List Account). emptied a ∷ t) (emptied-front k l)
