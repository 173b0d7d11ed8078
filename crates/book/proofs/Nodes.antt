-- Node numbers 0 and 1 are settled: an arrow of a set without states is 0, and of the set of all states 1. Assumes nothing.
use mathlib.Core.Path.{◌≡◌, refl, sym, ◌∙◌, subst}
use mathlib.Core.Bool.{Bool, true, false, not, cond}
use mathlib.Core.List.{List, [], ◌∷◌}
use mathlib.Core.Option.{none, some}
use Prim.Native.Nat.{ℕ, zero, suc, ◌*◌, ◌<◌}
use native.Mathlib.Nat.{le_of_suc-le-suc, not-suc-le-zero}
use lib.Dec.{T, T_not}
use lib.ListN.{length}
use Rattle.mucalculus.specs.Sets.{mem, all}
use Rattle.mucalculus.proofs.Sets.{and_out, true_of, false_of}
use Rattle.diagram.specs.Rows.{Rows, WellFormed}
use Rattle.diagram.proofs.Den.{den-zero, den-one}
use Rattle.diagram.specs.Post.{Denotes}
use Rattle.diagram.proofs.Canon.{canonical}
use Rattle.book.specs.States.{now_of}
use Rattle.book.proofs.States.{now_of-lt}
use Rattle.book.specs.Bridge.{fn_of, Sized}
use Rattle.book.specs.Book.{node_of}
use Rattle.book.specs.Table.{SettledTo}

-- no state is in it
nobody : (A : List Bool) → T (all (λ a. not a) A) → (s : ℕ) → mem A s ≡ false
nobody [] t s = refl
nobody (a ∷ A) t zero = false_of a (T_not a (and_out (not a) (all (λ a. not a) A) t).0)
nobody (a ∷ A) t (suc s) = nobody A (and_out (not a) (all (λ a. not a) A) t).1 s

-- every state is in it
everybody : (A : List Bool) → T (all (λ a. a) A) → (s : ℕ) → s < length A → mem A s ≡ true
everybody [] t s l = absurd (not-suc-le-zero l)
everybody (a ∷ A) t zero l = true_of a (and_out a (all (λ a. a) A) t).0
everybody (a ∷ A) t (suc s) l = everybody A (and_out a (all (λ a. a) A) t).1 s (le_of_suc-le-suc l)

-- the arrow that denotes a set is the settled number
pub node-settled : (n N : ℕ) (rows : Rows) (A : List Bool) (a : ℕ) → Sized n A → WellFormed (2 * n) N rows
    → Denotes (2 * n) rows a (fn_of n A) → SettledTo (node_of A) a
node-settled n N rows A a z wf d = none_of (all (λ a. not a) A) (nobody A)
  where
    all_of : (t : Bool) → (T t → (s : ℕ) → s < length A → mem A s ≡ true) → SettledTo (cond t (some 1) none) a
    all_of true h =
        canonical wf a 1 d.arrow tt
        (λ v. d.same v ∙ h tt (now_of n v) (subst (λ (k : ℕ). now_of n v < k) (sym z) (now_of-lt n v)) ∙ sym (den-one (2 * n) rows v))
    all_of false h = tt

    none_of : (t : Bool) → (T t → (s : ℕ) → mem A s ≡ false) → SettledTo (cond t (some 0) (cond (all (λ a. a) A) (some 1) none)) a
    none_of true h = canonical wf a 0 d.arrow tt (λ v. d.same v ∙ h tt (now_of n v) ∙ sym (den-zero (2 * n) rows v))
    none_of false h = all_of (all (λ a. a) A) (everybody A)
