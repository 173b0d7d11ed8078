-- THE ACCOUNTS: "an answered set adds its rounds to its own account's tally, up to the old ceiling, and changes nothing else in the list.
-- If each call gets the list as the one before left it, a tally counts the rounds of its account's answered sets since fresh." Assumes
-- nothing.
use Rattle.std.specs.Prelude.{◌≡◌, cond, ◌&&◌, List, [], ◌∷◌, ℕ, ◌+◌, eqb, length, get_or, set as place}
use Rattle.std.proofs.Math.Option.{Option, none, some}
use Rattle.accounts.specs.declared.Account.{Account}
use Rattle.accounts.specs.Account.{counted}
use Rattle.accounts.specs.declared.Terms.{Terms}
use Rattle.accounts.specs.Listed.{none as no_account, emptied_to}
use Rattle.accounts.specs.Terms.{terms_of}
use Rattle.book.specs.Book.{Book, Call, effect, does}
use Rattle.book.specs.Table.{Reply}
use Rattle.book.specs.Demand.{Event}

-- ---- what a call leaves of the list

-- what is due by the account that a call names, x where it names none
abbrev pub by_account : {X : Type 0} → Option Terms → X → (Terms → X) → X
by_account none x h = x
by_account (some acc) x h = h acc

-- an answered set charges its own account; "no refusal changes an account", and no other call gets the list
abbrev pub charged : List Account → Call → Reply → List Account
charged l c y =
    by_account (effect c).account l
    (λ acc. cond (eqb y.number 0) (place l acc.place (counted (get_or l acc.place no_account) y.rounds)) l)

-- "Fresh sets the tallies to 0", where it is answered
abbrev pub freshened : List Account → Reply → List Account
freshened l y = cond (eqb y.number 0) (emptied_to (length l) l) l

-- the list after events, each of which gets it as the one before left it
abbrev pub accounts_after : List Account → List Event → List Account
accounts_after l [] = l
accounts_after l (e ∷ es) = accounts_after (charged l e.0 e.1) es

-- "The book is fed the list's length and the named account's limits": each set, from the list as it stood
abbrev pub FedBy : List Account → Option Terms → Type 0
FedBy l none = Unit {0}
FedBy l (some acc) = acc ≡ terms_of l acc.place

abbrev pub Fed : List Account → Call → Type 0
Fed l c = FedBy l (effect c).account

-- ---- what a tally counts

-- the rounds of an answered set of the account at place p, by a number and its rounds
abbrev pub spent_at : ℕ → Call → ℕ → ℕ → ℕ
spent_at p c number q = by_account (effect c).account 0 (λ acc. cond (eqb number 0 && eqb p acc.place) q 0)

-- of all of them in a list
abbrev pub rounds_at : ℕ → List Event → ℕ
rounds_at p [] = 0
rounds_at p (e ∷ es) = spent_at p e.0 e.1.number e.1.rounds + rounds_at p es

-- by the book's own answers
abbrev pub book_rounds : ℕ → Book → List Call → ℕ
book_rounds p b [] = 0
book_rounds p b (c ∷ cs) = spent_at p c (does b c).1.number (does b c).1.rounds + book_rounds p (does b c).0 cs
