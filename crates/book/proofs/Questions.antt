-- NODE, MEMBER and COUNT: from what the code finds in the table to the question's contract. Assumes nothing.
use mathlib.Core.Path.{◌≡◌, refl, sym, ap, ◌∙◌, subst}
use mathlib.Core.Bool.{Bool, true, cond, ◌&&◌}
use mathlib.Core.List.{List}
use mathlib.Core.Option.{Option, none, some}
use Prim.Native.Nat.{ℕ, suc, ◌*◌, ◌^◌, ◌≤◌, ◌<◌}
use native.Mathlib.Omega.{arith}
use lib.Dec.{ltb, lt→ltb, ltb→lt}
use Rattle.mucalculus.specs.Sets.{mem}
use Rattle.mucalculus.proofs.Sets.{true_of, false_of}
use Rattle.mucalculus.specs.Order.{weight}
use Rattle.diagram.specs.Rows.{den}
use Rattle.book.specs.States.{pair_val}
use Rattle.book.proofs.States.{now_of-pair_val}
use Rattle.book.specs.Bridge.{set_of}
use Rattle.book.proofs.Bridge.{set_of-fn_of}
use Rattle.book.specs.Book.{Book, Question, node, member, count, Answer, refused, answered, registers, node_of, asked, one_of, answer}
use Rattle.book.specs.Stored.{Whole}
use Rattle.book.proofs.Effects.{in-range, out_of_range}
use Rattle.book.specs.Table.{Table, Shows, Agrees, NodeSays, Tells}
use Rattle.book.proofs.Nodes.{node-settled}
use Rattle.book.proofs.Held.{denoted}
use Rattle.book.proofs.Leaves.{shows-filled, shows-empty}
use Rattle.book.specs.Leaves.{plain, valued}

-- a refusal with zeros
refusal-agrees : (a : Answer) (k : ℕ) → a ≡ refused k → Agrees a (plain k)
refusal-agrees a k e =
    subst (λ (x : Answer). Agrees x (plain k)) (sym e) (record { number = refl; rounds = refl; peak = refl; value = refl })

-- a value that is settled
value-agrees : (a : Answer) (x : ℕ) → a ≡ answered (some x) → Agrees a (valued x)
value-agrees a x e =
    subst (λ (y : Answer). Agrees y (valued x)) (sym e) (record { number = refl; rounds = refl; peak = refl; value = refl })

-- A REFUSED QUESTION
pub refusal-tells : (b : Book) (q : Question) (h : ℕ → Option ℕ) (k : ℕ) → answer b q ≡ refused (suc k) → Tells b q h (plain (suc k))
refusal-tells b q h k e = record { agrees = refusal-agrees (answer b q) (suc k) e; node_says = says q }
  where
    says : (q : Question) → NodeSays h q (plain (suc k))
    says (node r) = λ z. absurd (omega arith)
    says (member r s) = tt
    says (count r) = tt

-- member's two numbers are in range
module _ (r u limit : ℕ) (x y : Answer) where
  both-range : r < registers → u < limit → cond (ltb r registers && ltb u limit) x y ≡ x
  both-range l h =
      ap (λ (t : Bool). cond (t && ltb u limit) x y) (true_of (ltb r registers) (lt→ltb r registers l)) ∙ in-range x y u limit h

  pub register-range : registers ≤ r → cond (ltb r registers && ltb u limit) x y ≡ y
  register-range l =
      ap (λ (t : Bool). cond (t && ltb u limit) x y) (false_of (ltb r registers) (λ t. let h = ltb→lt r registers t in omega arith))

  pub state-range : r < registers → limit ≤ u → cond (ltb r registers && ltb u limit) x y ≡ y
  state-range l h =
      ap (λ (t : Bool). cond (t && ltb u limit) x y) (true_of (ltb r registers) (lt→ltb r registers l)) ∙ out_of_range x y u limit h

-- ---- 3, and 7

pub node-range : (b : Book) (r : ℕ) → registers ≤ r → answer b (node r) ≡ refused 3
node-range b r l = out_of_range _ (refused 3) r registers l

pub count-range : (b : Book) (r : ℕ) → registers ≤ r → answer b (count r) ≡ refused 3
count-range b r l = out_of_range _ (refused 3) r registers l

module _ (b : Book) (t : Table) (r : ℕ) (s : Shows b t) (l : r < registers) (e : t.reg r ≡ none) where
  asked-empty : (g : List Bool → Option ℕ) → asked (b.reg r) g ≡ refused 7
  asked-empty g = ap (λ (o : Option (List Bool)). asked o g) (shows-empty b t r s l e)

  pub node-empty : answer b (node r) ≡ refused 7
  node-empty = in-range _ (refused 3) r registers l ∙ asked-empty node_of

  pub count-empty : answer b (count r) ≡ refused 7
  count-empty = in-range _ (refused 3) r registers l ∙ asked-empty (λ A. some (weight true A))

  pub member-empty : (u : ℕ) → u < 2 ^ b.n → answer b (member r u) ≡ refused 7
  member-empty u h = both-range r u (2 ^ b.n) _ (refused 3) l h ∙ asked-empty (λ A. some (one_of (mem A u)))

-- ---- answers

module _ (b : Book) (t : Table) (r a : ℕ) (s : Shows b t) (l : r < registers) (e : t.reg r ≡ some a) where
  -- NODE of a filled register
  pub node-tells : Whole b → Tells b (node r) t.reg (valued a)
  node-tells w =
      let (A, i, d) = shows-filled b t r a s l e in
      let same : answer b (node r)
      ≡ answered (node_of A) = in-range _ (refused 3) r registers l ∙ ap (λ (o : Option (List Bool)). asked o node_of) i in
      record {
        agrees = subst (λ (x : Answer). Agrees x (valued a)) (sym same)
            (record {
              number = refl;
              rounds = refl;
              peak = refl;
              value = node-settled b.n b.N t.rows A a (w.reg r A i).0 s.wf d;
            });
        node_says = λ z. e;
      }

  -- MEMBER: the walk from the register's arrow along the state's bits
  pub member-tells : (u : ℕ) → u < 2 ^ b.n → Tells b (member r u) t.reg (valued (one_of (den (2 * b.n) t.rows a (pair_val u 0))))
  member-tells u h =
      let (A, i, d) = shows-filled b t r a s l e in
      let walk : mem A u
      ≡ den (2 * b.n) t.rows a (pair_val u 0) = sym (d.same (pair_val u 0) ∙ ap (mem A) (now_of-pair_val b.n u 0 h)) in
      record {
        agrees = value-agrees (answer b (member r u)) _
            (both-range r u (2 ^ b.n) _ (refused 3) l h ∙ ap (λ (o : Option (List Bool)). asked o (λ A. some (one_of (mem A u)))) i
            ∙ ap (λ (z : Bool). answered (some (one_of z))) walk);
        node_says = tt;
      }

  -- COUNT: the states of the register's arrow
  pub count-tells : Whole b → Tells b (count r) t.reg (valued (weight true (set_of b.n (den (2 * b.n) t.rows a))))
  count-tells w =
      let (A, i, d) = shows-filled b t r a s l e in
      let same : A
      ≡ set_of b.n (den (2 * b.n) t.rows a) = sym (ap (set_of b.n) (denoted d) ∙ set_of-fn_of b.n A (w.reg r A i).0) in
      record {
        agrees = value-agrees (answer b (count r)) _
            (in-range _ (refused 3) r registers l ∙ ap (λ (o : Option (List Bool)). asked o (λ A. some (weight true A))) i
            ∙ ap (λ (B : List Bool). answered (some (weight true B))) same);
        node_says = tt;
      }
