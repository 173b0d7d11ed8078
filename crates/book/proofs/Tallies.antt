-- Laws of what specs/Tallies.antt defines. Assumes nothing.
use mathlib.Core.Path.{◌≡◌, refl, sym, ap, ◌∙◌, subst}
use mathlib.Core.Bool.{Bool, true, false, cond, ◌&&◌}
use mathlib.Core.List.{List, [], ◌∷◌}
use mathlib.Core.Option.{Option, none, some}
use Prim.Native.Nat.{ℕ, zero, suc, ◌+◌, ◌≤◌, ◌<◌, min}
use native.Mathlib.Omega.{arith}
use native.Mathlib.Nat.{not-suc-le-zero, le_of_suc-le-suc}
use lib.Dec.{T, eqb, eqb→eq, eqb_refl}
use lib.ListN.{length, get_or, length-set, set as place}
use Rattle.accounts.specs.declared.Account.{Account}
use Rattle.accounts.specs.Account.{tally_top, tallied, counted, emptied}
use Rattle.accounts.proofs.AccountLaws.{counted_none}
use Rattle.accounts.specs.declared.Terms.{Terms}
use Rattle.accounts.specs.Listed.{none as no_account, emptied_to}
use Rattle.accounts.proofs.Listed.{length-emptied}
use Rattle.book.specs.Book.{Book, Call, effect, does, play}
use Rattle.book.specs.Table.{Reply}
use Rattle.book.specs.Demand.{Event, calls, AllAgree}
use Rattle.book.specs.Tallies.{by_account, charged, freshened, accounts_after, spent_at, rounds_at, book_rounds}

-- ---- lists

get-same : (l : List Account) (i : ℕ) (x : Account) → i < length l → get_or (place l i x) i no_account ≡ x
get-same [] i x h = absurd (not-suc-le-zero h)
get-same (a ∷ l) zero x h = refl
get-same (a ∷ l) (suc i) x h = get-same l i x (le_of_suc-le-suc h)

get_other : (l : List Account) (i j : ℕ) (x : Account) → (j ≡ i → ⊥) → get_or (place l i x) j no_account ≡ get_or l j no_account
get_other [] i j x n = refl
get_other (a ∷ l) zero zero x n = absurd (n refl)
get_other (a ∷ l) zero (suc j) x n = refl
get_other (a ∷ l) (suc i) zero x n = refl
get_other (a ∷ l) (suc i) (suc j) x n = get_other l i j x (λ e. n (ap suc e))

get-emptied : (k : ℕ) (l : List Account) (p : ℕ) → p < k → p < length l → get_or (emptied_to k l) p no_account ≡ emptied (get_or l p no_account)
get-emptied k [] p h i = absurd (not-suc-le-zero i)
get-emptied zero (a ∷ l) p h i = absurd (not-suc-le-zero h)
get-emptied (suc k) (a ∷ l) zero h i = refl
get-emptied (suc k) (a ∷ l) (suc p) h i = get-emptied k l p (le_of_suc-le-suc h) (le_of_suc-le-suc i)

-- ---- one account

-- an account with another tally
abbrev tallying : Account → ℕ → Account
tallying a k = record { rows = a.rows; rounds = a.rounds; tally = k }

counted_twice : (a : Account) (q k : ℕ) → counted (counted a q) k ≡ counted a (q + k)
counted_twice a q k = let e : tallied (tallied a.tally q) k ≡ tallied a.tally (q + k) = omega arith in ap (tallying a) e

counted-bound : (a : Account) (q : ℕ) → (counted a q).tally ≤ tally_top
counted-bound a q = omega arith

-- ---- one call

-- the list keeps its length
length-charged : (l : List Account) (c : Call) (y : Reply) → length (charged l c y) ≡ length l
length-charged l c y = by (effect c).account
  where
    go : (acc : Terms) (t : Bool)
        → length (cond t (place l acc.place (counted (get_or l acc.place no_account) y.rounds)) l) ≡ length l
    go acc true = length-set l acc.place (counted (get_or l acc.place no_account) y.rounds)
    go acc false = refl

    by : (o : Option Terms)
        → length (by_account o l (λ acc.
        cond (eqb y.number 0) (place l acc.place (counted (get_or l acc.place no_account) y.rounds)) l)) ≡ length l
    by none = refl
    by (some acc) = go acc (eqb y.number 0)

-- the account at each place: its own rounds are added, and nothing else is changed
pub charged-at : (l : List Account) (c : Call) (y : Reply) (p : ℕ) → p < length l → (get_or l p no_account).tally ≤ tally_top
    → get_or (charged l c y) p no_account ≡ counted (get_or l p no_account) (spent_at p c y.number y.rounds)
charged-at l c y p i h = by (effect c).account
  where
    go : (acc : Terms) (t u : Bool) → eqb p acc.place ≡ u
        → get_or (cond t (place l acc.place (counted (get_or l acc.place no_account) y.rounds)) l) p no_account
        ≡ counted (get_or l p no_account) (cond (t && u) y.rounds 0)
    go acc true true e =
        let s = eqb→eq p acc.place (subst T (sym e) tt) in
        subst
        (λ (j : ℕ). get_or (place l j (counted (get_or l j no_account) y.rounds)) p no_account ≡ counted (get_or l p no_account) y.rounds) s
        (get-same l p (counted (get_or l p no_account) y.rounds) i)
    go acc true false e =
        get_other l acc.place p (counted (get_or l acc.place no_account) y.rounds) (λ s. subst T (ap (eqb p) s ∙ e) (eqb_refl p))
        ∙ sym (counted_none (get_or l p no_account) h)
    go acc false u e = sym (counted_none (get_or l p no_account) h)

    by : (o : Option Terms)
        → get_or
        (by_account o l (λ acc. cond (eqb y.number 0) (place l acc.place (counted (get_or l acc.place no_account) y.rounds)) l))
        p no_account
        ≡ counted (get_or l p no_account) (by_account o 0 (λ acc. cond (eqb y.number 0 && eqb p acc.place) y.rounds 0))
    by none = sym (counted_none (get_or l p no_account) h)
    by (some acc) = go acc (eqb y.number 0) (eqb p acc.place) refl

-- ---- a list of calls

pub length-after : (l : List Account) (es : List Event) → length (accounts_after l es) ≡ length l
length-after l [] = refl
length-after l (e ∷ es) = length-after (charged l e.0 e.1) es ∙ length-charged l e.0 e.1

-- each account after the list: its limits, and its rounds added
pub account-after : (l : List Account) (es : List Event) (p : ℕ) → p < length l → (get_or l p no_account).tally ≤ tally_top
    → get_or (accounts_after l es) p no_account ≡ counted (get_or l p no_account) (rounds_at p es)
account-after l [] p i h = sym (counted_none (get_or l p no_account) h)
account-after l (e ∷ es) p i h =
    let now = charged-at l e.0 e.1 p i h in
    let q = spent_at p e.0 e.1.number e.1.rounds in
    account-after (charged l e.0 e.1) es p (subst (λ (k : ℕ). p < k) (sym (length-charged l e.0 e.1)) i)
    (subst (λ (a : Account). a.tally ≤ tally_top) (sym now) (counted-bound (get_or l p no_account) q))
    ∙ ap (λ (a : Account). counted a (rounds_at p es)) now ∙ counted_twice (get_or l p no_account) q (rounds_at p es)

-- the replies' rounds are the book's
pub rounds-agree : (p : ℕ) (b : Book) (es : List Event) → AllAgree (play b (calls es)).1 es → rounds_at p es ≡ book_rounds p b (calls es)
rounds-agree p b [] d = refl
rounds-agree p b ((c, y) ∷ es) d =
    ap (λ (k : ℕ). k + rounds_at p es)
    (ap (λ (k : ℕ). spent_at p c k y.rounds) d.0.number ∙ ap (λ (k : ℕ). spent_at p c (does b c).1.number k) d.0.rounds)
    ∙ ap (λ (k : ℕ). spent_at p c (does b c).1.number (does b c).1.rounds + k) (rounds-agree p (does b c).0 es d.1)

-- A TALLY COUNTS THE ROUNDS OF ITS ACCOUNT'S ANSWERED SETS SINCE FRESH, and its limits are those that were lent
pub tally_since_fresh : (l : List Account) (y : Reply) (es : List Event) (p : ℕ) → y.number ≡ 0 → p < length l
    → get_or (accounts_after (freshened l y) es) p no_account
    ≡ record { rows = (get_or l p no_account).rows; rounds = (get_or l p no_account).rounds; tally = min (rounds_at p es) tally_top }
tally_since_fresh l y es p z i =
    let all = emptied_to (length l) l in
    let made : freshened l y ≡ all = ap (λ (k : ℕ). cond (eqb k 0) all l) z in
    let first : get_or all p no_account ≡ emptied (get_or l p no_account) = get-emptied (length l) l p i i in
    let none_yet : (get_or all p no_account).tally ≤ tally_top = subst (λ (a : Account). a.tally ≤ tally_top) (sym first) (omega arith) in
    let e : tallied 0 (rounds_at p es) ≡ min (rounds_at p es) tally_top = omega arith in
    ap (λ (x : List Account). get_or (accounts_after x es) p no_account) made
    ∙ account-after all es p (subst (λ (k : ℕ). p < k) (sym (length-emptied (length l) l)) i) none_yet
    ∙ ap (λ (a : Account). counted a (rounds_at p es)) first ∙ ap (tallying (get_or l p no_account)) e
