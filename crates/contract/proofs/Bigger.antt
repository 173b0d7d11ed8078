-- Laws of what specs/Bigger.antt defines. Assumes nothing.
use mathlib.Core.Path.{◌≡◌, refl, sym, ap, ◌∙◌, subst, subst₂}
use mathlib.Core.Bool.{Bool, true, false, cond}
use mathlib.Core.List.{List, [], ◌∷◌, ◌++◌}
use mathlib.Core.Option.{Option, none as unnamed, some}
use Prim.Native.Nat.{ℕ, zero, suc, ◌≤◌, ◌<◌, min}
use lib.Dec.{eqb}
use lib.ListN.{length, get_or, set as place}
use Rattle.accounts.specs.declared.Account.{Account}
use Rattle.accounts.specs.Account.{tally_top, counted, emptied}
use Rattle.accounts.specs.Listed.{none, emptied_to}
use Rattle.accounts.proofs.Listed.{length-emptied}
use Rattle.accounts.specs.declared.Terms.{Terms}
use Rattle.accounts.specs.Terms.{terms_of}
use Rattle.book.specs.Book.{Book, fresh, Call, effect, play}
use Rattle.book.specs.Table.{Reply}
use Rattle.book.specs.BookOf.{book_of}
use Rattle.book.specs.Demand.{Event, calls, Trace, Session, Demand}
use Rattle.book.specs.Tallies.{by_account, charged, freshened, accounts_after, Fed}
use Rattle.book.proofs.Tallies.{length-after}
use Rattle.book.specs.Raised.{Eased, SameCall, same_relation, same_set, same-valid, same-clear, same-collect, AllRaised, AllZero, Looser}
use Rattle.book.specs.Raised.{Upgrade, SameVerdicts, Cut, with_row_count}
use Rattle.book.proofs.Raised.{eased_list, bigger_tables, rounds-same, rows-after}
use Rattle.contract.specs.Seen.{seen, SoundWords}
use Rattle.contract.specs.Posts.{FreshPost}
use Rattle.contract.specs.Closed.{makes, performs, rests, asks}
use Rattle.contract.proofs.Closed.{words_implement}
use Rattle.contract.specs.Shared.{Lent, Step, Rest, SharedSession}
use Rattle.contract.proofs.Shared.{AllFed, trace_words, shared_tally, shared-demand}
use Rattle.contract.specs.Bigger.{AllAgain, SharedUpgrade, SharedVerdicts}

-- ---- no call changes a limit

-- a limit of an account, whichever it is
module _ (limit : Account → ℕ) (kept : (a : Account) (q : ℕ) → limit (counted a q) ≡ limit a)
    (Kept-fresh : (a : Account) → limit (emptied a) ≡ limit a) where
  placed-limit : (l : List Account) (i p : ℕ) (x : Account) → limit x ≡ limit (get_or l i none)
      → limit (get_or (place l i x) p none) ≡ limit (get_or l p none)
  placed-limit [] i p x e = refl
  placed-limit (a ∷ l) zero zero x e = e
  placed-limit (a ∷ l) zero (suc p) x e = refl
  placed-limit (a ∷ l) (suc i) zero x e = refl
  placed-limit (a ∷ l) (suc i) (suc p) x e = placed-limit l i p x e

  charged-limit : (l : List Account) (c : Call) (y : Reply) (p : ℕ) → limit (get_or (charged l c y) p none) ≡ limit (get_or l p none)
  charged-limit l c y p = by (effect c).account
    where
      go : (acc : Terms) (t : Bool)
          → limit (get_or (cond t (place l acc.place (counted (get_or l acc.place none) y.rounds)) l) p none) ≡ limit (get_or l p none)
      go acc true =
          placed-limit l acc.place p (counted (get_or l acc.place none) y.rounds) (kept (get_or l acc.place none) y.rounds)
      go acc false = refl

      by : (o : Option Terms)
          → limit
          (get_or (by_account o l (λ acc. cond (eqb y.number 0) (place l acc.place (counted (get_or l acc.place none) y.rounds)) l))
          p none) ≡ limit (get_or l p none)
      by unnamed = refl
      by (some acc) = go acc (eqb y.number 0)

  emptied-limit : (k : ℕ) (l : List Account) (p : ℕ) → limit (get_or (emptied_to k l) p none) ≡ limit (get_or l p none)
  emptied-limit zero l p = refl
  emptied-limit (suc k) [] p = refl
  emptied-limit (suc k) (a ∷ l) zero = Kept-fresh a
  emptied-limit (suc k) (a ∷ l) (suc p) = emptied-limit k l p

  freshened-limit : (l : List Account) (y : Reply) (p : ℕ) → limit (get_or (freshened l y) p none) ≡ limit (get_or l p none)
  freshened-limit l y p = go (eqb y.number 0)
    where
      go : (t : Bool) → limit (get_or (cond t (emptied_to (length l) l) l) p none) ≡ limit (get_or l p none)
      go true = emptied-limit (length l) l p
      go false = refl

length-freshened : (l : List Account) (y : Reply) → length (freshened l y) ≡ length l
length-freshened l y = go (eqb y.number 0)
  where
    go : (t : Bool) → length (cond t (emptied_to (length l) l) l) ≡ length l
    go true = length-emptied (length l) l
    go false = refl

-- so a list with raised limits stays one
looser-same : {l l' k k' : List Account} → Looser l l' → length k ≡ length l → length k' ≡ length l'
    → ((p : ℕ) → (get_or k p none).rows ≡ (get_or l p none).rows) → ((p : ℕ) → (get_or k' p none).rows ≡ (get_or l' p none).rows)
    → ((p : ℕ) → (get_or k p none).rounds ≡ (get_or l p none).rounds) → ((p : ℕ) → (get_or k' p none).rounds ≡ (get_or l' p none).rounds) → Looser k k'
looser-same o e e' a a' b b' = record {
  length = e' ∙ o.length ∙ sym e;
  rows = λ p. subst₂ ◌≤◌ (sym (a p)) (sym (a' p)) (o.rows p);
  rounds = λ p. subst₂ ◌≤◌ (sym (b p)) (sym (b' p)) (o.rounds p);
}

looser-charged : {l l' : List Account} → Looser l l' → (c c' : Call) (y y' : Reply) → Looser (charged l c y) (charged l' c' y')
looser-charged {l} {l'} o c c' y y' = looser-same o (length-after l ((c, y) ∷ [])) (length-after l' ((c', y') ∷ []))
    (charged-limit (λ a. a.rows) (λ a q. refl) (λ a. refl) l c y) (charged-limit (λ a. a.rows) (λ a q. refl) (λ a. refl) l' c' y')
    (charged-limit (λ a. a.rounds) (λ a q. refl) (λ a. refl) l c y) (charged-limit (λ a. a.rounds) (λ a q. refl) (λ a. refl) l' c' y')

looser-freshened : {l l' : List Account} → Looser l l' → (y y' : Reply) → Looser (freshened l y) (freshened l' y')
looser-freshened {l} {l'} o y y' = looser-same o (length-freshened l y) (length-freshened l' y')
    (freshened-limit (λ a. a.rows) (λ a q. refl) (λ a. refl) l y) (freshened-limit (λ a. a.rows) (λ a q. refl) (λ a. refl) l' y')
    (freshened-limit (λ a. a.rounds) (λ a q. refl) (λ a. refl) l y) (freshened-limit (λ a. a.rounds) (λ a q. refl) (λ a. refl) l' y')

-- ---- the same list is one with raised limits

raised-call : {a a' : List Account} {c c' : Call} → SameCall (λ acc acc'. acc'.place ≡ acc.place) c c' → Looser a a' → Fed a c → Fed a' c'
    → SameCall Eased c c'
raised-call (same_relation t bs) o f g = same_relation t bs
raised-call {a} {a'} (same_set acc acc' r R R' bs e i) o f g =
    same_set acc acc' r R R' bs
    (subst₂ Eased (sym f) (sym g)
    (subst (λ (k : ℕ). Eased (terms_of a acc.place) (terms_of a' k)) (sym e) (eased_list o acc.place))) i
raised-call (same-valid bs) o f g = same-valid bs
raised-call (same-clear r) o f g = same-clear r
raised-call same-collect o f g = same-collect

-- and the limits stay raised
raised-list : (l l' : List Event) {a a' : List Account} → Looser a a' → AllFed a l → AllFed a' l' → AllAgain (calls l) (calls l')
    → AllRaised (calls l) (calls l') × Looser (accounts_after a l) (accounts_after a' l')
raised-list [] [] o f g r = (tt, o)
raised-list [] (x ∷ l') o f g r = absurd r
raised-list (x ∷ l) [] o f g r = absurd r
raised-list (x ∷ l) (x' ∷ l') o f g r =
    let more = raised-list l l' (looser-charged o x.0 x'.0 x.1 x'.1) f.1 g.1 r.1 in
    ((raised-call r.0 o f.0 g.0, more.0), more.1)

-- ---- the theorem

module _ (n N M : ℕ) (more : N ≤ M) (most : M ≤ 60_000) {l l' : List Event} {end end' : Lent} (x : SharedSession n N l end)
    (u : SharedUpgrade n M l' end')
    (loose : Looser x.lent.accounts u.lent.accounts) (again : AllAgain (calls l) (calls l')) (zeros : AllZero l) where
  words-first : Trace (List ℕ) performs rests x.made.words l end.words × (end.accounts ≡ accounts_after x.made.accounts l)
      × AllFed x.made.accounts l
  words-first = trace_words x.rest

  words-second : Trace (List ℕ) performs rests u.made.words l' end'.words × (end'.accounts ≡ accounts_after u.made.accounts l')
      × AllFed u.made.accounts l'
  words-second = trace_words u.rest

  raised_both : AllRaised (calls l) (calls l') × Looser (accounts_after x.made.accounts l) (accounts_after u.made.accounts l')
  raised_both =
      raised-list l l' (subst₂ Looser (sym x.start.list) (sym u.start.list) (looser-freshened loose x.reply u.reply))
      words-first.2 words-second.2 again

  raised : AllRaised (calls l) (calls l')
  raised = raised_both.0

  -- the two lists over the words alone
  abbrev session : Session (List ℕ) makes performs rests n N l end.words
  session = record {
    lent = x.lent.words;
    count = length x.lent.accounts;
    made = x.made.words;
    reply = x.reply;
    start = x.start.table;
    answered = x.answered;
    rest = words-first.0;
  }

  abbrev upgrade : Upgrade (List ℕ) length makes performs rests n M (length x.lent.accounts) l' end'.words
  upgrade = record {
    lent = u.lent.words;
    enough = u.enough;
    made = u.made.words;
    reply = u.reply;
    start = subst (λ (k : ℕ). FreshPost n M k u.lent.words u.made.words u.reply) loose.length u.start.table;
    rest = words-second.0;
  }

  same : SameVerdicts seen asks n N M u.reply l l' end.words end'.words
  same = bigger_tables words_implement n N M more most session upgrade raised zeros

  -- the larger list is a session too
  abbrev second : SharedSession n M l' end'
  second = record { lent = u.lent; made = u.made; reply = u.reply; start = u.start; answered = same.started; rest = u.rest }

  -- BIGGER TABLES, SAME VERDICTS
  pub shared_bigger : SharedVerdicts n N M (length x.lent.accounts) u.reply l l' end end'
  shared_bigger = record {
    table = same;
    tallies = λ p h.
        ap (λ (a : Account). a.tally) (shared_tally n M second p (subst (λ (k : ℕ). p < k) (sym loose.length) h))
        ∙ ap (λ (k : ℕ). min k tally_top) (rounds-same p (play (fresh n N) (calls l)).1 l l' raised same.replies)
        ∙ sym (ap (λ (a : Account). a.tally) (shared_tally n N x p h));
    looser = subst₂ Looser (sym words-first.1) (sym words-second.1) raised_both.1;
  }

-- AFTER EACH CALL: after the first calls l and l' of two such lists, wherever they are cut
pub shared-each : (n N M : ℕ) → N ≤ M → M ≤ 60_000
    → (l k l' k' : List Event) {end end' : Lent} (x : SharedSession n N (l ++ k) end) (u : SharedUpgrade n M (l' ++ k') end')
    → Looser x.lent.accounts u.lent.accounts → AllAgain (calls l) (calls l') → AllZero l
    → (c : Cut Lent Step Rest x.made l k end) (c' : Cut Lent Step Rest u.made l' k' end')
    → SharedVerdicts n N M (length x.lent.accounts) u.reply l l' c.mid c'.mid
shared-each n N M more most l k l' k' x u loose again zeros c c' = shared_bigger n N M more most
    (record { lent = x.lent; made = x.made; reply = x.reply; start = x.start; answered = x.answered; rest = c.first })
    (record { lent = u.lent; enough = u.enough; made = u.made; reply = u.reply; start = u.start; rest = c'.first }) loose again zeros

-- A LATER FRESH begins a list of which the same holds, with the accounts as the lists before left them
pub shared-later : (n N M : ℕ) → N ≤ M → M ≤ 60_000
    → {l l' : List Event} {end end' : Lent} (x : SharedSession n N l end) (u : SharedUpgrade n M l' end')
    → Looser x.lent.accounts u.lent.accounts → AllAgain (calls l) (calls l') → AllZero l
    → (m P Q : ℕ) → P ≤ Q → Q ≤ 60_000
    → {k k' : List Event} {last last' : Lent} (y : SharedSession m P k last) (v : SharedUpgrade m Q k' last')
    → y.lent.accounts ≡ end.accounts → v.lent.accounts ≡ end'.accounts → AllAgain (calls k) (calls k') → AllZero k
    → SharedVerdicts m P Q (length y.lent.accounts) v.reply k k' last last'
shared-later n N M more most x u loose again zeros m P Q less few y v e e' =
    shared_bigger m P Q less few y v (subst₂ Looser (sym e) (sym e') (shared_bigger n N M more most x u loose again zeros).looser)

-- ---- calls that store nothing, at the same place of the two lists

module _ (n N M : ℕ) (more : N ≤ M) (most : M ≤ 60_000) (l k l' k' : List Event) {end end' : Lent} (x : SharedSession n N (l ++ k) end)
    (u : SharedUpgrade n M (l' ++ k') end')
    (loose : Looser x.lent.accounts u.lent.accounts) (again : AllAgain (calls l) (calls l')) (zeros : AllZero l)
    (c : Cut Lent Step Rest x.made l k end) (c' : Cut Lent Step Rest u.made l' k' end') where
  verdicts : SharedVerdicts n N M (length x.lent.accounts) u.reply l l' c.mid c'.mid
  verdicts = shared-each n N M more most l k l' k' x u loose again zeros c c'

  demand-first : Demand SoundWords seen asks n N l c.mid.words
  demand-first =
      shared-demand n N
      (record { lent = x.lent; made = x.made; reply = x.reply; start = x.start; answered = x.answered; rest = c.first })

  -- the words are sound in both
  pub each-sound : SoundWords c.mid.words × SoundWords c'.mid.words
  each-sound = (
    demand-first.good,
    (shared-demand n M
        (record {
          lent = u.lent;
          made = u.made;
          reply = u.reply;
          start = u.start;
          answered = verdicts.table.started;
          rest = c'.first;
        })).good,
  )

  -- ANSWERED ALIKE: f is what a call answers, and writes elsewhere, by the book, and g what it does under limits raised or equal; where the
  -- book of N rows answers it (ok), and the one of M rows then does so alike, so do the two tables
  pub each_alike : {X : Type 0} (f g : Book → X) (ok : X → Type 0) → ((b : Book) → b.N ≤ M → ok (f b) → g (with_row_count b M) ≡ f b)
      → ok (f (book_of (seen c.mid.words)))
      → g (book_of (seen c'.mid.words)) ≡ f (book_of (seen c.mid.words))
  each_alike f g ok firm z =
      ap g verdicts.table.sets
      ∙ firm (book_of (seen c.mid.words))
      (subst (λ (m : ℕ). m ≤ M) (sym (ap (λ (b : Book). b.N) demand-first.holds ∙ rows-after M (fresh n N) (calls l))) more) z
