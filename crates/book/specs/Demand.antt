-- THE THIRD DEMAND, "a single claim about the whole list and not one for each call". Assumes nothing.
use Rattle.std.specs.Prelude.{◌≡◌, ◌↔◌, Bool, List, [], ◌∷◌, ℕ, ◌<◌}
use Rattle.std.proofs.Math.Option.{Option, none, some}
use Rattle.mucalculus.specs.Form.{filled}
use Rattle.book.specs.Book.{Book, fresh, Call, Question, count, Answer, registers, relations, does, play}
use Rattle.book.specs.Last.{LastSet}
use Rattle.book.specs.Eight.{EightAt}
use Rattle.book.specs.Table.{Table, Reply, Shows, Agrees, noted, Tells}
use Rattle.book.specs.BookOf.{book_of}

-- a call with what it returned
abbrev pub Event : Type 0
Event = Call × Reply

-- the calls of a list of events
abbrev pub calls : List Event → List Call
calls [] = []
calls (x ∷ l) = x.0 ∷ calls l

-- the book after the calls of a list from an answered fresh
abbrev pub book_after : ℕ → ℕ → List Event → Book
book_after n N l = (play (fresh n N) (calls l)).0

-- events in order, each under its call's contract, from the words w to the words w': "each gets the table as the one before left it, and
-- nobody else writes it"; calls that store nothing may stand anywhere between them
pub data Trace (W : Type 0) (contract : W → Call → W → Reply → Type 0) (rests : W → W → Type 0) : W → List Event → W → Type 0 where
  stop : {w : W} → Trace W contract rests w [] w
  go : {w v w' : W} {c : Call} {y : Reply} {l : List Event} → contract w c v y → Trace W contract rests v l w'
      → Trace W contract rests w ((c, y) ∷ l) w'
  pause : {w v w' : W} {l : List Event} → rests w v → Trace W contract rests v l w' → Trace W contract rests w l w'

-- a list from bare words: an answered fresh, then the calls, each under its contract
pub record Session (W : Type 0) (makes : W → ℕ → ℕ → ℕ → W → Reply → Type 0) (contract : W → Call → W → Reply → Type 0)
    (rests : W → W → Type 0) (n N : ℕ) (l : List Event) (end : W) : Type 0 where
  pub lent : W
  pub count : ℕ
  pub made : W
  pub reply : Reply
  pub start : makes lent n N count made reply
  pub answered : reply.number ≡ 0
  pub rest : Trace W contract rests made l end

-- the number of register r, x before the events, "as the calls that last set them returned them"
abbrev pub last_number : Option ℕ → List Event → ℕ → Option ℕ
last_number x [] r = x
last_number x (e ∷ l) r = last_number (noted x e.0 e.1 r) l r

-- two lists, equally long, and R holds of what stands at the same place
abbrev pub Pairwise : {X Y : Type 0} → (X → Y → Type 0) → List X → List Y → Type 0
Pairwise R [] [] = Unit {0}
Pairwise R [] (y ∷ l) = ⊥
Pairwise R (x ∷ k) [] = ⊥
Pairwise R (x ∷ k) (y ∷ l) = R x y × Pairwise R k l

-- "Each call in the list was answered where the book answers it, and elsewhere refused with the book's number"
abbrev pub AllAgree : List Answer → List Event → Type 0
AllAgree as' l = Pairwise (λ a e. Agrees a e.1) as' l

-- each number is 8 exactly where a need within the rounds is above N, over the book as it stood then
abbrev pub AllEight : Book → List Event → Type 0
AllEight b [] = Unit {0}
AllEight b (e ∷ l) = EightAt b e.0 e.1.number × AllEight (does b e.0).0 l

-- the claim for a list that began with an answered fresh of n and N and left the words w
pub record Demand {W : Type 0} (sound : W → Type 0) (view : W → Table) (asks : W → Question → W → Reply → Type 0) (n N : ℕ) (l : List Event)
    (w : W) : Type 0 where
  -- the words are sound
  pub good : sound w
  -- "each register and relation is filled exactly where the book's is"
  pub reg_filled : (r : ℕ) → r < registers → filled ((book_after n N l).reg r) ≡ filled ((view w).reg r)
  pub rel_filled : (q : ℕ) → q < relations → filled ((book_after n N l).rel q) ≡ filled ((view w).rel q)
  -- "and then holds the book's set": they stand for just that book
  pub holds : book_of (view w) ≡ book_after n N l
  pub shows : Shows (book_after n N l) (view w)
  -- each register's set is the meaning of the formula of the last answered set of it, over the book as it stood then
  pub last : (r : ℕ) (A : List Bool) → (book_after n N l).reg r ≡ some A → LastSet (fresh n N) (calls l) r A
  -- "The node numbers of two filled registers, as the calls that last set them returned them, are equal exactly where the book's two sets
  -- are"
  pub numbers : (r q : ℕ) → r < registers → q < registers → (A B : List Bool) (x y : ℕ) → (book_after n N l).reg r ≡ some A
      → (book_after n N l).reg q ≡ some B
      → last_number none l r ≡ some x → last_number none l q ≡ some y → (x ≡ y) ↔ (A ≡ B)
  -- the number last returned is the one that the register has
  pub current : (r : ℕ) → r < registers → (view w).reg r ≡ last_number none l r
  pub agree : AllAgree (play (fresh n N) (calls l)).1 l
  pub eights : AllEight (fresh n N) l
  -- a question asked now changes no word and gets the book's answer; "(node answers the same)": the number last returned for its register
  pub questions : (w' : W) (q : Question) (y : Reply) → asks w q w' y → (w' ≡ w) × Tells (book_after n N l) q (last_number none l) y
