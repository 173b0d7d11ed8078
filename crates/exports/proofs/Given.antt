-- Laws of what specs/Given.antt defines. Assumes nothing.
use mathlib.Core.Path.{◌≡◌, sym, ap, ◌∙◌, subst}
use mathlib.Core.List.{List}
use lib.ListN.{length}
use Prim.Native.Nat.{ℕ, zero, suc, ◌≤◌}
use native.Mathlib.Omega.{arith}
use Rattle.std.specs.Prelude.{Result, Ok, Err}
use Rattle.layout.specs.Refusals.{refusal_number}
use Rattle.layout.proofs.Refusals.{refusal-some}
use Rattle.layout.specs.declared.Refusal.{Refusal}
use Rattle.accounts.specs.declared.Account.{Account}
use Rattle.book.specs.Table.{Reply}
use Rattle.book.specs.Tallies.{freshened}
use Rattle.contract.specs.Posts.{FreshPost}
use Rattle.account_calls.specs.Lists.{FreshListPost}
use Rattle.calls.specs.Replies.{started_reply}
use Rattle.calls.specs.Fresh.{FreshWords}
use Rattle.calls.proofs.FreshLaws.{fresh-words-one}
use Rattle.exports.specs.Given.{given, FreshLeft, FreshGiven}

-- one list of words, so with `fresh-one` (contract, OneAnswer) one answer; the other entry points' contracts are those of `call-one` and
-- `ask-one`
pub fresh-left-one : (n N : ℕ) (old v w : List ℕ) (k : ℕ) → FreshLeft n N old v k → FreshLeft n N old w k → v ≡ w
fresh-left-one n N old v w zero p q = fresh-words-one n N old v w (Ok tt) p q
fresh-left-one n N old v w (suc k) p q = p ∙ sym q

-- a refusal's number is not 0, so a refused fresh keeps all words
pub left-refused : (n N : ℕ) (old new : List ℕ) (e : Refusal) {k : ℕ} → k ≡ refusal_number e → new ≡ old → FreshLeft n N old new k
left-refused n N old new e {k} is same = at k (omega (arith, is, refusal-some e))
  where
    at : (j : ℕ) → 1 ≤ j → FreshLeft n N old new j
    at zero h = absurd (omega arith)
    at (suc j) h = same

pub fresh-given : (n N : ℕ) (old new : List ℕ) (before after : List Account) (x : Result (Unit {0}) Refusal) (k : ℕ)
    → FreshListPost n N old new before after x → given k 0 0 0 ≡ started_reply x
    → FreshGiven n N old new before after k
fresh-given n N old new before after x k p e = record {
  post = subst (FreshPost n N (length before) old new) (sym e) p.table.post;
  left = at x p.table.words e;
  list = p.list ∙ ap (freshened before) (sym e);
}
  where
    at : (y : Result (Unit {0}) Refusal) → FreshWords n N old new y → given k 0 0 0 ≡ started_reply y → FreshLeft n N old new k
    at (Ok _) w e = subst (FreshLeft n N old new) (sym (ap (λ (r : Reply). r.number) e)) w
    at (Err z) w e = left-refused n N old new z (ap (λ (r : Reply). r.number) e) w
