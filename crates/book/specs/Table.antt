-- A table seen apart from its words, when it shows a book, and what a call's and a question's contract has to give. Assumes nothing.
use Rattle.std.specs.Prelude.{◌≡◌, Bool, true, false, ◌&&◌, cond, List, [], ◌∷◌, ◌++◌, ℕ, zero, suc, ◌*◌, ◌<◌, eqb}
use Rattle.std.proofs.Math.Option.{Option, none, some}
use Rattle.diagram.specs.Level.{Fn}
use Rattle.diagram.specs.Rows.{Rows, WellFormed}
use Rattle.diagram.specs.Post.{Denotes}
use Rattle.diagram.specs.Reach.{Reach}
use Rattle.diagram.specs.Keep.{Keeps}
use Rattle.book.specs.Bridge.{fn_of, fn_of_pairs}
use Rattle.book.specs.Book.{Book, Call, relation, set, valid, clear, collect, effect, stores, Question, node, member, count, Answer}
use Rattle.book.specs.Book.{registers, relations, does, answer}

-- a table: its header, its rows, the arrow of V, and the arrow in each register and relation
pub record Table : Type 0 where
  pub n : ℕ
  pub N : ℕ
  pub valid : ℕ
  pub rows : Rows
  pub reg : ℕ → Option ℕ
  pub rel : ℕ → Option ℕ

-- what a call or a question returned: a refusal's number or 0, the rounds, the peak, and a value (of set and node the node number)
pub record Reply : Type 0 where
  pub number : ℕ
  pub rounds : ℕ
  pub peak : ℕ
  pub value : ℕ

-- "filled exactly where the book's is, and then holds the book's set": both empty, or an arrow that denotes the set's function
abbrev pub Place : {X : Type 0} → ℕ → Rows → (X → Fn) → Option X → Option ℕ → Type 0
Place m rows f none none = Unit {0}
Place m rows f none (some a) = ⊥
Place m rows f (some x) none = ⊥
Place m rows f (some x) (some a) = Denotes m rows a (f x)

-- a well-formed table that shows the book
pub record Shows (b : Book) (t : Table) : Type 0 where
  pub n : t.n ≡ b.n
  pub N : t.N ≡ b.N
  pub wf : WellFormed (2 * b.n) b.N t.rows
  pub valid : Denotes (2 * b.n) t.rows t.valid (fn_of b.n b.valid)
  pub reg : (r : ℕ) → r < registers → Place (2 * b.n) t.rows (fn_of b.n) (b.reg r) (t.reg r)
  pub rel : (r : ℕ) → r < relations → Place (2 * b.n) t.rows (fn_of_pairs b.n) (b.rel r) (t.rel r)

-- the arrow in a filled place, in front
abbrev pub add_root : Option ℕ → List ℕ → List ℕ
add_root none l = l
add_root (some a) l = a ∷ l

-- the arrows in the filled places below k
abbrev pub arrows_of : ℕ → (ℕ → Option ℕ) → List ℕ
arrows_of zero h = []
arrows_of (suc k) h = add_root (h 0) (arrows_of k (λ i. h (suc i)))

-- the roots of a table: V's arrow, and the arrows in its filled registers and relations
abbrev pub roots_of : Table → List ℕ
roots_of t = t.valid ∷ (arrows_of registers t.reg ++ arrows_of relations t.rel)

-- ---- what a reply has to be

-- a value is the book's where the rules settle it
abbrev pub SettledTo : Option ℕ → ℕ → Type 0
SettledTo none x = Unit {0}
SettledTo (some y) x = x ≡ y

-- "answered where the book answers it, and elsewhere refused with the book's number", with its rounds, peak and values
pub record Agrees (a : Answer) (y : Reply) : Type 0 where
  pub number : y.number ≡ a.number
  pub rounds : y.rounds ≡ a.rounds
  pub peak : y.peak ≡ a.peak
  pub value : SettledTo a.value y.value

-- "Returned: number, zeros"
abbrev pub Refusal : ℕ → Reply → Type 0
Refusal k y = (y.number ≡ k) × (y.rounds ≡ 0) × (y.peak ≡ 0) × (y.value ≡ 0)

-- ---- a call

-- "A register keeps its number until it is set or cleared": register r's number after a call, from the one before it
abbrev pub noted : Option ℕ → Call → Reply → ℕ → Option ℕ
noted x c y r = cond (stores (effect c).reg y.number r) (cond (effect c).fills (some y.value) none) x

-- the call was an answered valid
abbrev pub stores_valid : Call → Reply → Bool
stores_valid c y = (effect c).valid && eqb y.number 0

-- the places that a call with the number k leaves as they are: all but an answered call's target, which is none here
abbrev pub kept_at : Option ℕ → ℕ → (ℕ → Option ℕ) → ℕ → Option ℕ
kept_at o k h q = cond (stores o k q) none (h q)

-- the roots that a call leaves as they are, V first
abbrev pub kept_roots : Call → Reply → Table → List ℕ
kept_roots c y t =
    add_root (cond (stores_valid c y) none (some t.valid))
    (arrows_of registers (kept_at (effect c).reg y.number t.reg) ++ arrows_of relations (kept_at (effect c).rel y.number t.rel))

-- "unneeded rows (none is left used by an answered collect)": each used row is reached from V, a register or a relation
abbrev pub Swept : Call → Table → Type 0
Swept (relation t bs) after = Unit {0}
Swept (set acc r R bs) after = Unit {0}
Swept (valid bs) after = Unit {0}
Swept (clear r) after = Unit {0}
Swept collect after = (i : ℕ) → after.rows.used i ≡ true → Reach after.rows (roots_of after) i

-- a call served: the table after it shows the book after it, the reply agrees, and what the call must keep is kept
pub record Serves (b : Book) (c : Call) (before after : Table) (y : Reply) : Type 0 where
  pub shows : Shows (does b c).0 after
  pub agrees : Agrees (does b c).1 y
  pub numbers : (r : ℕ) → r < registers → after.reg r ≡ noted (before.reg r) c y r
  pub rels : (q : ℕ) → q < relations → stores (effect c).rel y.number q ≡ false → after.rel q ≡ before.rel q
  -- "V … is kept by every refusal"
  pub valid : stores_valid c y ≡ false → after.valid ≡ before.valid
  -- "Kept: registers, relations, rows they need", row by row
  pub kept : Keeps before.rows after.rows (kept_roots c y before)
  pub swept : Swept c after

-- ---- a question

-- "node answers the same": an answered node gives the number in its register, h r
abbrev pub NodeSays : (ℕ → Option ℕ) → Question → Reply → Type 0
NodeSays h (node q) y = y.number ≡ 0 → h q ≡ some y.value
NodeSays h (member q s) y = Unit {0}
NodeSays h (count q) y = Unit {0}

-- what one question's contract gives on a table that shows the book
pub record Tells (b : Book) (q : Question) (h : ℕ → Option ℕ) (y : Reply) : Type 0 where
  pub agrees : Agrees (answer b q) y
  pub node_says : NodeSays h q y
