-- "The book": 8 relations and 32 registers, each empty or holding a set of pairs or of states, and V; each call's effect and answer, a
-- whole list of calls, and the answer to each question. It stores the meaning; steps give the number and the rounds. Assumes nothing.
use Rattle.std.specs.Prelude.{Bool, true, false, not, cond, ◌&&◌, List, [], ◌∷◌, ◌++◌, ℕ, zero, suc, ◌+◌, ◌*◌, ◌^◌, leb, ltb, eqb}
use Rattle.std.proofs.Math.Option.{Option, none, some}
use Rattle.mucalculus.specs.Sets.{mem, all, all_states}
use Rattle.mucalculus.specs.Order.{weight}
use Rattle.mucalculus.specs.Form.{Form, Pairs, Model, no_env, put, filled}
use Rattle.mucalculus.specs.Means.{means, means_pair, pairs_within}
use Rattle.tokens.specs.declared.Kind.{Kind}
use Rattle.formula.specs.Parse.{form_of, formula_of}
use Rattle.formula.specs.Checks.{first_refusal}
use Rattle.tokens.specs.declared.Kind.TheVariants.{Relation, Set, Valid}
use Rattle.diagram.specs.Level.{Fn}
use Rattle.diagram.specs.Need.{need}
use Rattle.accounts.specs.declared.Terms.{Terms}
use Rattle.accounts.specs.Terms.{lent, named, rows_under, rounds_under}
use Rattle.accounts.specs.declared.Count.{Count}
use Rattle.accounts.specs.Count.{nothing}
use Rattle.book.specs.Over.{states, pairs}
use Rattle.book.specs.Bridge.{fn_of, fn_of_pairs}
use Rattle.book.specs.Ticks.{contents, ticks, relation_ticks, Verdict, counted, full, spent, verdict}

-- "The table has N rows, 32 registers, 8 relations"; tallies are the accounts'
abbrev pub registers : ℕ
registers = 32

-- "8 relations"
abbrev pub relations : ℕ
relations = 8

-- the book: n and N of the answered fresh, V, and what is filled and with what
pub record Book : Type 0 where
  pub n : ℕ
  pub N : ℕ
  pub valid : List Bool
  pub rel : ℕ → Option Pairs
  pub reg : ℕ → Option (List Bool)

-- "All start empty"; "after fresh, V is every state"
abbrev pub fresh : ℕ → ℕ → Book
fresh n N = record { n = n; N = N; valid = all_states (2 ^ n); rel = λ t. none; reg = λ r. none }

-- "Fresh takes n, a row count N (1 to 60,000) and at least 256 + 12 × N words": n from 1 to 16, and so many words lent
abbrev pub fresh_fits : ℕ → ℕ → ℕ → Bool
fresh_fits n N words = (leb 1 n && leb n 16) && ((leb 1 N && leb N 60_000) && leb (256 + 12 * N) words)

-- fresh's number: 1, or 14 "(in fresh, after 1)" where the list is not 1 to 8 long
abbrev pub fresh_number : ℕ → ℕ → ℕ → ℕ → ℕ
fresh_number n N words count = cond (fresh_fits n N words) (cond (lent count) 0 14) 1

-- a call of the third demand's list: its kind and arguments, "formula bytes and R included", "the list's length and the named account's
-- limits too"
pub data Call : Type 0 where
  relation : ℕ → List ℕ → Call  -- relation t, bytes
  set : Terms → ℕ → ℕ → List ℕ → Call  -- set under an account, r, R, bytes
  clear : ℕ → Call  -- clear r
  valid : List ℕ → Call  -- valid, bytes: "Valid may stand among the calls after fresh"
  collect : Call

-- what an answered call changes: a register, which it fills or empties, a relation, V; and the account that it names
pub record Effect : Type 0 where
  pub reg : Option ℕ
  pub fills : Bool
  pub rel : Option ℕ
  pub valid : Bool
  pub account : Option Terms

-- each call's
abbrev pub effect : Call → Effect
effect (relation t bs) = record { reg = none; fills = false; rel = some t; valid = false; account = none }
effect (set acc r R bs) = record { reg = some r; fills = true; rel = none; valid = false; account = some acc }
effect (clear r) = record { reg = some r; fills = false; rel = none; valid = false; account = none }
effect (valid bs) = record { reg = none; fills = false; rel = none; valid = true; account = none }
effect collect = record { reg = none; fills = false; rel = none; valid = false; account = none }

-- a call with the number k was answered, and q is the place, if any, that it changes
abbrev pub stores : Option ℕ → ℕ → ℕ → Bool
stores none k q = false
stores (some r) k q = eqb k 0 && eqb q r

-- a question, which changes nothing
pub data Question : Type 0 where
  node : ℕ → Question  -- node r
  member : ℕ → ℕ → Question  -- member r, state
  count : ℕ → Question  -- count r

-- an answer: the refusal's number or 0, the rounds, the peak, and the value where the rules settle it ("Free for the builder: node numbers
-- above 1")
pub record Answer : Type 0 where
  pub number : ℕ
  pub rounds : ℕ
  pub peak : ℕ
  pub value : Option ℕ

-- "Returned: number, zeros"
abbrev pub refused : ℕ → Answer
refused k = record { number = k; rounds = 0; peak = 0; value = some 0 }

-- answered, with a value, no rounds and no step
abbrev pub answered : Option ℕ → Answer
answered x = record { number = 0; rounds = 0; peak = 0; value = x }

-- ---- what a call sees of the book

-- what a call's formula is read over
abbrev pub model_of : Book → Model
model_of b = record { n = b.n; valid = b.valid; rel = b.rel; reg = b.reg }

-- "V is live always", and "all filled registers and relations" are, the old content of the target too
abbrev pub live_of : Book → List Fn
live_of b = fn_of b.n b.valid ∷ (contents (fn_of b.n) registers b.reg ++ contents (fn_of_pairs b.n) relations b.rel)

-- "where a check asks what is filled, as 7 does, the book's own registers and relations count"
abbrev pub reg_filled : Book → ℕ → Bool
reg_filled b r = ltb r registers && filled (b.reg r)

-- relation t is one of the 8 and filled
abbrev pub rel_filled : Book → ℕ → Bool
rel_filled b t = ltb t relations && filled (b.rel t)

-- the number of checks 4 to 7 and 12 on a call's formula bytes, 0 where they pass
abbrev pub checks : Book → Kind → List ℕ → ℕ
checks b k bs = first_refusal k b.n (reg_filled b) (rel_filled b) bs

-- the formula of the bytes, where check 4 passes
abbrev pub formula_in : Book → Kind → List ℕ → Form
formula_in b k bs = form_of (formula_of k b.n bs)

-- ---- the effect of each call

-- a call's effect and its answer
abbrev pub Done : Type 0
Done = Book × Answer

-- "A call refused by a check before its steps changes nothing"; nor do 8 and 9
abbrev pub refuse : Book → ℕ → Done
refuse b k = (b, refused k)

-- relation t holds Q
abbrev pub with_rel : Book → ℕ → Option Pairs → Book
with_rel b t Q = record { n = b.n; N = b.N; valid = b.valid; rel = put b.rel t Q; reg = b.reg }

-- register r holds A
abbrev pub with_reg : Book → ℕ → Option (List Bool) → Book
with_reg b r A = record { n = b.n; N = b.N; valid = b.valid; rel = b.rel; reg = put b.reg r A }

-- V is E
abbrev pub with_valid : Book → List Bool → Book
with_valid b E = record { n = b.n; N = b.N; valid = E; rel = b.rel; reg = b.reg }

-- "the formula of valid itself is read over all 2^n": over n state bits, all states, and nothing filled
abbrev pub everything : ℕ → Model
everything n = record { n = n; valid = all_states (2 ^ n); rel = λ t. none; reg = λ r. none }

-- the states in which valid's formula holds
abbrev pub states_of : ℕ → Form → List Bool
states_of n f = means (everything n) no_env f

-- no place below k is filled
abbrev pub vacant : {X : Type 0} → ℕ → (ℕ → Option X) → Bool
vacant zero h = true
vacant (suc k) h = not (filled (h 0)) && vacant k (λ i. h (suc i))

-- no register and no relation is filled; 13 where this fails
abbrev pub unfilled : Book → Bool
unfilled b = vacant registers b.reg && vacant relations b.rel

-- the node number where it is settled: "An arrow is 0 (nothing), 1 (everything) or a used row"
abbrev pub node_of : List Bool → Option ℕ
node_of A = cond (all (λ a. not a) A) (some 0) (cond (all (λ a. a) A) (some 1) none)

-- the steps' verdict decides: 8, 9, or what a call leaves and answers by what was counted
abbrev pub ended : Book → Verdict → (Count → Done) → Done
ended b (counted q) go = go q
ended b full go = refuse b 8
ended b spent go = refuse b 9

-- "relation t then holds exactly the pairs in which the formula holds", within V; "Each answered relation or set call also returns its
-- peak"
abbrev pub relation_done : Book → ℕ → Form → Count → Done
relation_done b t f q = (
  with_rel b t (some (pairs_within b.n b.valid (means_pair b.n f))),
  record { number = 0; rounds = 0; peak = q.peak; value = some 0 },
)

-- "register r exactly the states": the set A, made with the count q; set "returns node number and rounds", and its peak
abbrev pub set_done : Book → ℕ → List Bool → Count → Done
set_done b r A q = (with_reg b r (some A), record { number = 0; rounds = q.rounds; peak = q.peak; value = node_of A })

-- relation t, after its checks: "relation has no rounds"
abbrev pub relation_steps : Book → ℕ → Form → Done
relation_steps b t f = ended b (verdict b.N 0 nothing (relation_ticks b.n (live_of b) b.valid f)) (λ q. relation_done b t f q)

-- set r, after its checks: the states "by the meaning above over the book as it stood before the call"; "Both limits hold"
abbrev pub set_steps : Book → Terms → ℕ → ℕ → Form → Done
set_steps b acc r R f =
    ended b (verdict (rows_under b.N acc) (rounds_under R acc) nothing (ticks (states (model_of b) no_env) (live_of b) f))
    (λ q. set_done b r (means (model_of b) no_env f) q)

-- valid, after its checks: "an answered one puts V into the book, and it is full by the same row rule as a relation call"
abbrev pub valid_done : Book → Form → Done
valid_done b f = (with_valid b (states_of b.n f), answered (some 0))

-- the steps of valid: full, or V is put into the book
abbrev pub valid_steps : Book → Form → Done
valid_steps b f = ended b (verdict b.N 0 nothing (ticks (pairs b.n) (live_of b) f)) (λ q. valid_done b f)

-- go on where the number is 0, else refuse with it
abbrev pub passing : Book → ℕ → Done → Done
passing b zero go = go
passing b (suc k) go = refuse b (suc k)

-- checks 4, 5, 12, 6 and 7 over the whole formula, then its steps
abbrev pub formula_call : Book → Kind → List ℕ → (Form → Done) → Done
formula_call b k bs go = let d = go (formula_in b k bs) in passing b (checks b k bs) d

-- each call, its checks in the order of the table of refusals
abbrev pub does : Book → Call → Done
does b (relation t bs) = let d = formula_call b Relation bs (relation_steps b t) in cond (ltb t relations) d (refuse b 3)
does b (set acc r R bs) =
    let d = formula_call b Set bs (set_steps b acc r R) in let e = cond (named acc) d (refuse b 14) in cond (ltb r registers) e (refuse b 3)
-- "13, valid while a register or relation is filled, checked directly after 2"
does b (valid bs) = let d = formula_call b Valid bs (valid_steps b) in cond (unfilled b) d (refuse b 13)
does b (clear r) = cond (ltb r registers) (with_reg b r none, answered (some 0)) (refuse b 3)
does b collect = (b, answered (some (need (2 * b.n) (live_of b))))

-- a whole list of calls: the book after it, and the answers in order
abbrev pub play : Book → List Call → Book × List Answer
play b [] = (b, [])
play b (c ∷ cs) = let d = does b c in let e = play d.0 cs in (e.0, d.1 ∷ e.1)

-- ---- the answer to each question

-- a question of a register, which is refused where it is empty
abbrev pub asked : Option (List Bool) → (List Bool → Option ℕ) → Answer
asked none g = refused 7
asked (some A) g = answered (g A)

-- a Boolean answer as a value
abbrev pub one_of : Bool → ℕ
one_of true = 1
one_of false = 0

-- each question, its checks in the order of the table of refusals; count is "states in the set"
abbrev pub answer : Book → Question → Answer
answer b (node r) = cond (ltb r registers) (asked (b.reg r) node_of) (refused 3)
answer b (member r s) = cond (ltb r registers && ltb s (2 ^ b.n)) (asked (b.reg r) (λ A. some (one_of (mem A s)))) (refused 3)
answer b (count r) = cond (ltb r registers) (asked (b.reg r) (λ A. some (weight true A))) (refused 3)
