-- Laws of what specs/Shared.antt defines. Assumes nothing.
use mathlib.Core.Path.{◌≡◌, refl, ap, ◌∙◌, subst}
use mathlib.Core.List.{List, [], ◌∷◌}
use Prim.Native.Nat.{ℕ, ◌<◌, min}
use lib.ListN.{length, get_or}
use Rattle.accounts.specs.declared.Account.{Account}
use Rattle.accounts.specs.Account.{tally_top}
use Rattle.accounts.specs.Listed.{none}
use Rattle.accounts.specs.Terms.{terms_of}
use Rattle.book.specs.Book.{fresh, set}
use Rattle.book.specs.Table.{Reply}
use Rattle.book.specs.Demand.{Event, calls, Trace, stop, go, pause, Demand}
use Rattle.book.specs.Tallies.{charged, Fed, accounts_after, rounds_at, book_rounds}
use Rattle.book.proofs.Tallies.{rounds-agree, tally_since_fresh}
use Rattle.contract.specs.Seen.{seen, SoundWords}
use Rattle.contract.specs.Posts.{SetAllPost}
use Rattle.contract.specs.Closed.{performs, rests, asks}
use Rattle.contract.proofs.Closed.{words-demand}
use Rattle.contract.specs.Shared.{Lent, Step, Rest, SharedSession}

-- set's promise, literally, is such a call
pub set-step : (spot r R : ℕ) (bs : List ℕ) (a b : Lent) (y : Reply)
    → SetAllPost spot r R bs a.words b.words a.accounts b.accounts y
    → Step a (set (terms_of a.accounts spot) r R bs) b y
set-step spot r R bs a b y p = (refl, p.table, p.list)

-- each call is fed from the accounts as they stood
abbrev pub AllFed : List Account → List Event → Type 0
AllFed l [] = Unit {0}
AllFed l (e ∷ es) = Fed l e.0 × AllFed (charged l e.0 e.1) es

-- a list on both is one on the words, fed so, and the accounts are charged by each call
pub trace_words : {a b : Lent} {l : List Event} → Trace Lent Step Rest a l b
    → Trace (List ℕ) performs rests a.words l b.words × (b.accounts ≡ accounts_after a.accounts l) × AllFed a.accounts l
trace_words stop = (stop, refl, tt)
trace_words (go {l = l} (f, p, e) t) =
    let (u, i, fed) = trace_words t in
    (go p u, i ∙ ap (λ (x : List Account). accounts_after x l) e, (f, subst (λ (x : List Account). AllFed x l) e fed))
trace_words (pause {l = l} (q, e) t) =
    let (u, i, fed) = trace_words t in
    (pause q u, i ∙ ap (λ (x : List Account). accounts_after x l) e, subst (λ (x : List Account). AllFed x l) e fed)

module _ (n N : ℕ) {l : List Event} {end : Lent} (x : SharedSession n N l end) where
  words_trace : Trace (List ℕ) performs rests x.made.words l end.words × (end.accounts ≡ accounts_after x.made.accounts l)
      × AllFed x.made.accounts l
  words_trace = trace_words x.rest

  -- the third demand, over the words
  pub shared-demand : Demand SoundWords seen asks n N l end.words
  shared-demand = words-demand n N record {
    lent = x.lent.words;
    count = length x.lent.accounts;
    made = x.made.words;
    reply = x.reply;
    start = x.start.table;
    answered = x.answered;
    rest = words_trace.0;
  }

  -- "a tally counts the rounds of its account's answered sets since fresh", and no limit is changed
  pub shared_tally : (p : ℕ) → p < length x.lent.accounts
      → get_or end.accounts p none
      ≡ record {
        rows = (get_or x.lent.accounts p none).rows;
        rounds = (get_or x.lent.accounts p none).rounds;
        tally = min (rounds_at p l) tally_top;
      }
  shared_tally p h =
      ap (λ (k : List Account). get_or k p none) (words_trace.1 ∙ ap (λ (k : List Account). accounts_after k l) x.start.list)
      ∙ tally_since_fresh x.lent.accounts x.reply l p x.answered h

  -- and these rounds are the book's
  pub shared-rounds : (p : ℕ) → rounds_at p l ≡ book_rounds p (fresh n N) (calls l)
  shared-rounds p = rounds-agree p (fresh n N) l shared-demand.agree
