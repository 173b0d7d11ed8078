-- A CHEAPEST RUN IN A LIST: no word changes, so the call may stand anywhere in the lists of the third demand and of "Bigger tables, same
-- verdicts", and it is told alike in the larger table; which cheapest run is written is free in both. Assumes nothing.
use mathlib.Core.Path.{◌≡◌, refl, subst}
use mathlib.Core.List.{List, ◌++◌}
use Prim.Native.Nat.{ℕ, ◌≤◌}
use native.Mathlib.Decide.{ℕ_discrete}
use lib.ListN.{length}
use Rattle.book.specs.Book.{Book}
use Rattle.book.specs.BookOf.{book_of}
use Rattle.book.specs.Demand.{Event, calls, book_after, Session}
use Rattle.book.specs.Raised.{with_row_count, AllZero, Looser, Cut}
use Rattle.contract.specs.Seen.{seen, SoundWords}
use Rattle.contract.specs.Closed.{makes, performs, rests}
use Rattle.contract.proofs.Closed.{words-demand, same-rests}
use Rattle.contract.specs.Shared.{Lent, Step, Rest, SharedSession}
use Rattle.contract.specs.Bigger.{AllAgain, SharedUpgrade}
use Rattle.contract.proofs.Bigger.{shared-each, each-sound}
use Rattle.coins.specs.Post.{FareReply, FareBy, FarePost}
use Rattle.coins.specs.OneFare.{OneFare}
use Rattle.coins.proofs.OneFare.{refused-one, by_one}

-- THE CALL STORES NOTHING: it gets the words to read
pub fare_rests : {a b : ℕ} {words prices work work' states states' relations relations' : List ℕ} {y : FareReply}
    → FarePost a b words prices work work' states states' relations relations' y → rests words words
fare_rests p = same-rests refl

-- ANSWERED BY THE BOOK: wherever it stands in a list, by the calls before it
pub fare_listed : (n N : ℕ) {w : List ℕ} {l : List Event} → Session (List ℕ) makes performs rests n N l w
    → (a b : ℕ) {prices work work' states states' relations relations' : List ℕ} {y : FareReply}
    → FarePost a b w prices work work' states states' relations relations' y → length prices ≡ 8
    → FareBy (book_after n N l) a b prices work states states' relations relations' y
fare_listed n N x a b {prices} {work} {states = states} {states'} {relations} {relations'} {y} p e =
    let d = words-demand n N x in
    subst (λ (c : Book). FareBy c a b prices work states states' relations relations' y) d.holds (p.by-book e d.good)

-- on two sound tables whose books differ in their rows alone, which play no part
module _ {a b : ℕ} (M : ℕ) (words words' : List ℕ) (o : SoundWords words) (o' : SoundWords words')
    (book : book_of (seen words') ≡ with_row_count (book_of (seen words)) M)
    {prices work v w states s t relations q r : List ℕ} {y z : FareReply}
    (f : FarePost a b words prices work v states s relations q y) (g : FarePost a b words' prices work w states t relations r z) where
  rows-free : FareBy (with_row_count (book_of (seen words)) M) a b prices work states t relations r z
      → FareBy (book_of (seen words)) a b prices work states t relations r z
  rows-free p = record { work_fits = p.work_fits; range = p.range; empty = p.empty; told = p.told }

  fare_alike : Dec (length prices ≡ 8) → OneFare s t q r y z
  fare_alike (no d) = refused-one f.kept g.kept 0 (f.prices_fit d) (g.prices_fit d)
  fare_alike (yes e) = by_one f.kept g.kept (book_of (seen words)) a b (f.by-book e o)
      (rows-free (subst (λ (c : Book). FareBy c a b prices work states t relations r z) book (g.by-book e o')))

-- ALIKE: at the same place of a list and of the same list with every limit raised or equal, one reply, and lists that differ in nothing but
-- the run
pub fare_again : (n N M : ℕ) → N ≤ M → M ≤ 60_000
    → (l k l' k' : List Event) {end end' : Lent} (x : SharedSession n N (l ++ k) end) (u : SharedUpgrade n M (l' ++ k') end')
    → Looser x.lent.accounts u.lent.accounts → AllAgain (calls l) (calls l') → AllZero l
    → (c : Cut Lent Step Rest x.made l k end) (c' : Cut Lent Step Rest u.made l' k' end')
    → (a b : ℕ) {prices work v w states s t relations q r : List ℕ} {y z : FareReply}
    → FarePost a b c.mid.words prices work v states s relations q y
    → FarePost a b c'.mid.words prices work w states t relations r z → OneFare s t q r y z
fare_again n N M more most l k l' k' x u loose again zeros c c' a b {prices} f g =
    let (o, o') = each-sound n N M more most l k l' k' x u loose again zeros c c' in
    let book = (shared-each n N M more most l k l' k' x u loose again zeros c c').table.sets in
    fare_alike M c.mid.words c'.mid.words o o' book f g (ℕ_discrete (length prices) 8)
