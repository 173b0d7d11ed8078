-- Laws of what specs/Lists.antt defines. Assumes nothing.
use mathlib.Core.Path.{◌≡◌, refl, sym, ap, ◌∙◌, subst}
use mathlib.Core.Bool.{Bool, cond}
use mathlib.Core.List.{List, [], ◌∷◌}
use Prim.Native.Nat.{ℕ, zero, suc, ◌≤◌, ◌<◌, zero-le}
use native.Mathlib.Nat.{le_refl, not-suc-le-zero, le_of_suc-le-suc}
use native.Mathlib.Omega.{arith}
use lib.Dec.{eqb}
use lib.ListN.{length, get_or, set as place}
use borrow.Author.Tests.{ne_eqb}
use Rattle.std.specs.Prelude.{Result, Ok, Err}
use Rattle.layout.specs.Refusals.{refusal_number}
use Rattle.layout.proofs.Refusals.{refusal-some}
use Rattle.layout.specs.declared.Refusal.{Refusal}
use Rattle.accounts.specs.declared.Account.{Account}
use Rattle.accounts.specs.declared.Terms.{Terms}
use Rattle.accounts.specs.Account.{tally_top, counted}
use Rattle.accounts.proofs.AccountLaws.{counted_none}
use Rattle.accounts.specs.Listed.{none, emptied_to}
use Rattle.accounts.specs.Terms.{terms_of}
use Rattle.book.specs.Book.{Call, set}
use Rattle.book.specs.Table.{Reply}
use Rattle.book.specs.Tallies.{charged, freshened}
use Rattle.contract.specs.Posts.{CallPost, FreshAllPost, SetAllPost}
use Rattle.formula_steps.specs.Replies.{stored_reply}
use Rattle.std.specs.Prelude.{Result, Ok, Err}
use Rattle.formula_steps.specs.declared.Stored.{Stored}
use Rattle.calls.specs.Replies.{started_reply}
use Rattle.account_calls.specs.Lists.{rounds_of, made_count, FreshListPost}

-- ---- set

-- a refusal's number is none of an answer's
refused : {X : Type 0} (e : Refusal) (x y : X) → y ≡ cond (eqb (refusal_number e) 0) x y
refused e x y = sym (ap (λ (t : Bool). cond t x y) (ne_eqb (refusal_number e) 0 (let l = refusal-some e in omega arith)))

-- an account written where it stood
put_same : (l : List Account) (p : ℕ) → p < length l → place l p (get_or l p none) ≡ l
put_same [] p h = absurd (not-suc-le-zero h)
put_same (a ∷ l) zero h = refl
put_same (a ∷ l) (suc p) h = ap (λ (t : List Account). a ∷ t) (put_same l p (le_of_suc-le-suc h))

put-beyond : (l : List Account) (p : ℕ) (a : Account) → length l ≤ p → l ≡ place l p a
put-beyond [] p a h = refl
put-beyond (b ∷ l) zero a h = absurd (not-suc-le-zero h)
put-beyond (b ∷ l) (suc p) a h = ap (λ (t : List Account). b ∷ t) (put-beyond l p a (le_of_suc-le-suc h))

module _ (p r R : ℕ) (bs old new : List ℕ) (l : List Account) where
  abbrev c : Call
  c = set (terms_of l p) r R bs

  -- the account is there, and its rounds were added
  pub found : {m : List Account} (x : Result Stored Refusal) → p < length l → (get_or l p none).tally ≤ tally_top
      → CallPost c old new (stored_reply x)
      → m ≡ place l p (counted (get_or l p none) (rounds_of x)) → SetAllPost p r R bs old new l m (stored_reply x)
  found {m} x i h d e = record { table = d; list = e ∙ added x }
    where
      added : (x : Result Stored Refusal) → place l p (counted (get_or l p none) (rounds_of x)) ≡ charged l c (stored_reply x)
      added (Ok s) = refl
      added (Err k) = ap (place l p) (counted_none (get_or l p none) h) ∙ put_same l p i ∙ refused k _ l

  -- no account at the place: nothing is changed
  pub lost : (x : Result Stored Refusal) → length l ≤ p → CallPost c old new (stored_reply x) → SetAllPost p r R bs old new l l (stored_reply x)
  lost x h d = record { table = d; list = kept x }
    where
      kept : (x : Result Stored Refusal) → l ≡ charged l c (stored_reply x)
      kept (Ok s) = put-beyond l p (counted (get_or l p none) s.rounds) h
      kept (Err k) = refused k _ l

-- ---- fresh

pub made-within : (x : Result (Unit {0}) Refusal) (k : ℕ) → made_count x k ≤ k
made-within (Ok _) k = le_refl k
made-within (Err _) k = zero-le

-- so a list over words and accounts may begin with it (contract, Shared and Bigger)
pub fresh-all : (n N : ℕ) (old new : List ℕ) (before after : List Account) (x : Result (Unit {0}) Refusal)
    → FreshListPost n N old new before after x → FreshAllPost n N old new before after (started_reply x)
fresh-all n N old new before after x p = record { table = p.table.post; list = p.list }

pub made_list : (l : List Account) (x : Result (Unit {0}) Refusal) → emptied_to (made_count x (length l)) l ≡ freshened l (started_reply x)
made_list l (Ok _) = refl
made_list l (Err e) = refused e (emptied_to (length l) l) l

-- ---- a call's terms, as another function made them
pub termed : {t u : Terms} (r R : ℕ) (bs old new : List ℕ) (y : Reply) → t ≡ u → CallPost (set t r R bs) old new y
    → CallPost (set u r R bs) old new y
termed r R bs old new y e d = subst (λ (t : Terms). CallPost (set t r R bs) old new y) e d
