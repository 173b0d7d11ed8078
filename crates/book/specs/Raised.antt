-- "Bigger tables, same verdicts": the same list of calls with every limit raised or equal is answered throughout, where it was, with the
-- same sets, counts, rounds and peaks; and two filled registers have one number in both or in neither. Assumes nothing.
use Rattle.std.specs.Prelude.{◌≡◌, ◌↔◌, List, [], ◌∷◌, ℕ, ◌+◌, ◌*◌, ◌≤◌, ◌<◌, length, get_or}
use Rattle.std.proofs.Math.Option.{some}
use Rattle.mucalculus.specs.Form.{filled}
use Rattle.accounts.specs.declared.Terms.{Terms}
use Rattle.accounts.specs.declared.Account.{Account}
use Rattle.accounts.specs.Listed.{none as no_account}
use Rattle.accounts.specs.Terms.{lent}
use Rattle.book.specs.Book.{Book, fresh, Call, relation, set, valid, clear, collect, Question, count, Answer, registers, play, answer}
use Rattle.book.specs.Table.{Table, Reply}
use Rattle.book.specs.BookOf.{book_of}
use Rattle.book.specs.Demand.{Event, calls, Trace, Pairwise}

-- ---- raised limits

-- an account's limits raised or equal, at the same place of a list of the same length
pub record Eased (acc acc' : Terms) : Type 0 where
  pub count : acc'.count ≡ acc.count
  pub place : acc'.place ≡ acc.place
  pub rows : acc.rows ≤ acc'.rows
  pub rounds : acc.rounds ≤ acc'.rounds

-- the same call, with its rounds raised or equal and the accounts that it names related by E
pub data SameCall (E : Terms → Terms → Type 0) : Call → Call → Type 0 where
  same_relation : (t : ℕ) (bs : List ℕ) → SameCall E (relation t bs) (relation t bs)
  same_set : (acc acc' : Terms) (r R R' : ℕ) (bs : List ℕ) → E acc acc' → R ≤ R' → SameCall E (set acc r R bs) (set acc' r R' bs)
  same-valid : (bs : List ℕ) → SameCall E (valid bs) (valid bs)
  same-clear : (r : ℕ) → SameCall E (clear r) (clear r)
  same-collect : SameCall E collect collect

-- "the same list" of calls "with every limit raised or equal"
abbrev pub AllRaised : List Call → List Call → Type 0
AllRaised cs ds = Pairwise (SameCall Eased) cs ds

-- the book of a table with M rows
abbrev pub with_row_count : Book → ℕ → Book
with_row_count b M = record { n = b.n; N = M; valid = b.valid; rel = b.rel; reg = b.reg }

-- ---- over any implementation

-- every reply is an answer
abbrev pub AllZero : List Event → Type 0
AllZero [] = Unit {0}
AllZero (x ∷ l) = (x.1.number ≡ 0) × AllZero l

-- two replies where the book answers a: the same but for a value that the book leaves free (a node number above 1)
pub record SameReply (a : Answer) (y y' : Reply) : Type 0 where
  pub number : y'.number ≡ y.number
  pub rounds : y'.rounds ≡ y.rounds
  pub peak : y'.peak ≡ y.peak
  pub value : (x : ℕ) → a.value ≡ some x → y'.value ≡ y.value

abbrev pub AllSame : List Answer → List Event → List Event → Type 0
AllSame [] [] [] = Unit {0}
AllSame [] [] (x ∷ l) = ⊥
AllSame [] (x ∷ l) l' = ⊥
AllSame (a ∷ as') [] l' = ⊥
AllSame (a ∷ as') (x ∷ l) [] = ⊥
AllSame (a ∷ as') (x ∷ l) (x' ∷ l') = SameReply a x.1 x'.1 × AllSame as' l l'

-- the list again, on other words and with a larger row count: fresh, whether it is answered or not, and the calls
pub record Upgrade (W : Type 0) (words : W → ℕ) (makes : W → ℕ → ℕ → ℕ → W → Reply → Type 0) (contract : W → Call → W → Reply → Type 0)
    (rests : W → W → Type 0) (n M count : ℕ) (l : List Event) (end : W) : Type 0 where
  pub lent : W
  pub enough : 256 + 12 * M ≤ words lent
  pub made : W
  pub reply : Reply
  pub start : makes lent n M count made reply
  pub rest : Trace W contract rests made l end

-- the claim after the two lists, which left the words w and w'
pub record SameVerdicts {W : Type 0} (view : W → Table) (asks : W → Question → W → Reply → Type 0)
    (n N M : ℕ) (reply : Reply) (l l' : List Event) (w w' : W) : Type 0 where
  -- "the same list is answered throughout", fresh too
  pub started : reply.number ≡ 0
  pub answered : AllZero l'
  -- "with the same … rounds and peaks", and the rows that collect returns
  pub replies : AllSame (play (fresh n N) (calls l)).1 l l'
  -- "the same sets": the books that the words stand for differ in their rows alone
  pub sets : book_of (view w') ≡ with_row_count (book_of (view w)) M
  -- "counts": a question asked now gets the same answer on both
  pub asked : (q : Question) (v v' : W) (y y' : Reply) → asks w q v y → asks w' q v' y' → SameReply (answer (book_of (view w)) q) y y'
  -- the same registers are filled, and "two filled registers have one number in both or in neither"
  pub same-filled : (r : ℕ) → r < registers → filled ((view w').reg r) ≡ filled ((view w).reg r)
  pub numbers : (r q : ℕ) → r < registers → q < registers → (x y x' y' : ℕ) → (view w).reg r ≡ some x → (view w).reg q ≡ some y
      → (view w').reg r ≡ some x' → (view w').reg q ≡ some y'
      → (x ≡ y) ↔ (x' ≡ y')

-- ---- "after each call": the first calls of a list are a list

-- a list cut in two: the words between
pub record Cut (W : Type 0) (contract : W → Call → W → Reply → Type 0) (rests : W → W → Type 0) (w : W) (l k : List Event) (w' : W)
    : Type 0 where
  pub mid : W
  pub first : Trace W contract rests w l mid
  pub rest : Trace W contract rests mid k w'

-- ---- the accounts

-- a list of accounts "with every limit raised or equal"
pub record Looser (l l' : List Account) : Type 0 where
  pub length : length l' ≡ length l
  pub rows : (p : ℕ) → (get_or l p no_account).rows ≤ (get_or l' p no_account).rows
  pub rounds : (p : ℕ) → (get_or l p no_account).rounds ≤ (get_or l' p no_account).rounds
