-- Laws of what specs/Leaves.antt defines. Assumes nothing.
use mathlib.Core.Path.{◌≡◌, refl, subst, sym, ap₂, fun_ext}
use mathlib.Core.Bool.{Bool, true, false, cond, ◌&&◌}
use mathlib.Core.List.Memᴰ.{append_left as mem-left}
use mathlib.Core.List.Memᴰ.{head as here}
use mathlib.Core.List.Memᴰ.{tail as there}
use mathlib.Core.List.{List, Memᴰ as Mem}
use mathlib.Core.List.Memᴰ.{append_right as mem-right}
use mathlib.Core.Option.{Option, none, some}
use Prim.Native.Nat.{ℕ, ◌*◌, ◌^◌, ◌<◌}
use lib.Dec.{T, eqb, ltb, ltb→lt}
use Rattle.mucalculus.specs.Form.{Pairs, put, filled}
use Rattle.tokens.specs.declared.Kind.{Kind}
use Rattle.formula.specs.Checks.{first_refusal}
use Rattle.diagram.specs.Level.{Fn}
use Rattle.diagram.specs.Rows.{Rows, WellFormed}
use Rattle.diagram.specs.Post.{Denotes}
use Rattle.diagram.specs.Keep.{Keeps}
use Rattle.diagram.proofs.Keep.{keeps_refl, keeps_denotes}
use Rattle.diagram.proofs.Grow.{empty_well_formed}
use Rattle.book.specs.Bridge.{fn_of, fn_of_pairs}
use Rattle.book.specs.Book.{Book, registers, relations, with_rel, with_reg, with_valid, fresh, checks}
use Rattle.book.specs.Table.{Table, Place, Shows, arrows_of, roots_of}
use Rattle.book.proofs.Held.{held-arrow}
use Rattle.book.proofs.Follow.{denotes-all}
use Rattle.mucalculus.specs.Sets.{all_states}
use Rattle.book.proofs.Roots.{arrows_of-mem, shows-held}
use Rattle.book.specs.Leaves.{Empty}

-- the table with other rows
abbrev pub with_rows : Table → Rows → Table
with_rows t rows = record { n = t.n; N = t.N; valid = t.valid; rows = rows; reg = t.reg; rel = t.rel }

-- with the arrow in register r
abbrev pub store_reg : Table → ℕ → Option ℕ → Table
store_reg t r a = record { n = t.n; N = t.N; valid = t.valid; rows = t.rows; reg = put t.reg r a; rel = t.rel }

abbrev pub store_rel : Table → ℕ → Option ℕ → Table
store_rel t q a = record { n = t.n; N = t.N; valid = t.valid; rows = t.rows; reg = t.reg; rel = put t.rel q a }

-- with another arrow for V
abbrev pub store_valid : Table → ℕ → Table
store_valid t a = record { n = t.n; N = t.N; valid = a; rows = t.rows; reg = t.reg; rel = t.rel }

place_keeps : {X : Type 0} (m : ℕ) (before after : Rows) (roots : List ℕ) (f : X → Fn) (o : Option X) (u : Option ℕ)
    → Keeps before after roots → ((a : ℕ) → u ≡ some a → Mem a roots)
    → Place m before f o u → Place m after f o u
place_keeps m before after roots f none none k i p = tt
place_keeps m before after roots f none (some a) k i p = absurd p
place_keeps m before after roots f (some x) none k i p = absurd p
place_keeps m before after roots f (some x) (some a) k i p = keeps_denotes k (i a refl) p

place-put : {X : Type 0} (m : ℕ) (rows : Rows) (f : X → Fn) (h : ℕ → Option X) (g : ℕ → Option ℕ) (i : ℕ) (o : Option X) (u : Option ℕ)
    → Place m rows f o u → (j : ℕ) → Place m rows f (h j) (g j)
    → Place m rows f (put h i o j) (put g i u j)
place-put m rows f h g i o u p j q = go (eqb j i)
  where
    go : (t : Bool) → Place m rows f (cond t o (h j)) (cond t u (g j))
    go true = p
    go false = q

module _ (b : Book) (t : Table) (s : Shows b t) where
  -- other rows that keep the roots
  pub shows-rows : (rows : Rows) → WellFormed (2 * b.n) b.N rows → Keeps t.rows rows (roots_of t) → Shows b (with_rows t rows)
  shows-rows rows wf k = record {
    n = s.n;
    N = s.N;
    wf = wf;
    valid = keeps_denotes k (here refl) s.valid;
    reg = λ r l. place_keeps (2 * b.n) t.rows rows (roots_of t) (fn_of b.n) (b.reg r) (t.reg r) k
        (λ a e. there (mem-left {s = arrows_of registers t.reg} (arrows_of relations t.rel) (arrows_of-mem registers t.reg r a l e)))
        (s.reg r l);
    rel = λ r l. place_keeps (2 * b.n) t.rows rows (roots_of t) (fn_of_pairs b.n) (b.rel r) (t.rel r) k
        (λ a e. there (mem-right (arrows_of registers t.reg) (arrows_of-mem relations t.rel r a l e))) (s.rel r l);
  }

  -- an arrow stored in a register, or a register emptied
  pub shows-reg : (r : ℕ) (o : Option (List Bool)) (u : Option ℕ) → Place (2 * b.n) t.rows (fn_of b.n) o u
      → Shows (with_reg b r o) (store_reg t r u)
  shows-reg r o u p = record {
    n = s.n;
    N = s.N;
    wf = s.wf;
    valid = s.valid;
    reg = λ q l. place-put (2 * b.n) t.rows (fn_of b.n) b.reg t.reg r o u p q (s.reg q l);
    rel = s.rel;
  }

  -- an arrow stored in a relation
  pub shows-rel : (r : ℕ) (o : Option Pairs) (u : Option ℕ) → Place (2 * b.n) t.rows (fn_of_pairs b.n) o u
      → Shows (with_rel b r o) (store_rel t r u)
  shows-rel r o u p = record {
    n = s.n;
    N = s.N;
    wf = s.wf;
    valid = s.valid;
    reg = s.reg;
    rel = λ q l. place-put (2 * b.n) t.rows (fn_of_pairs b.n) b.rel t.rel r o u p q (s.rel q l);
  }

-- another V
pub shows-valid : (b : Book) (t : Table) → Shows b t → (E : List Bool) (a : ℕ) → Denotes (2 * b.n) t.rows a (fn_of b.n E)
    → Shows (with_valid b E) (store_valid t a)
shows-valid b t s E a d = record { n = s.n; N = s.N; wf = s.wf; valid = d; reg = s.reg; rel = s.rel }

-- a call that makes no row keeps all
pub kept-all : (b : Book) (t : Table) → Shows b t → Keeps t.rows t.rows (roots_of t)
kept-all b t s = keeps_refl s.wf (held-arrow (shows-held b t s))

-- ---- what a register of the table says of the book's

-- a filled register of the table holds the arrow of the book's set
pub shows-filled : (b : Book) (t : Table) (r a : ℕ) → Shows b t → r < registers → t.reg r ≡ some a
    → (A : List Bool) × (b.reg r ≡ some A) × Denotes (2 * b.n) t.rows a (fn_of b.n A)
shows-filled b t r a s l e =
    go (b.reg r) refl (subst (λ (u : Option ℕ). Place (2 * b.n) t.rows (fn_of b.n) (b.reg r) u) e (s.reg r l))
  where
    go : (o : Option (List Bool)) → b.reg r ≡ o → Place (2 * b.n) t.rows (fn_of b.n) o (some a)
        → (A : List Bool) × (b.reg r ≡ some A) × Denotes (2 * b.n) t.rows a (fn_of b.n A)
    go none i p = absurd p
    go (some A) i p = (A, i, p)

-- an empty one is empty in the book
pub shows-empty : (b : Book) (t : Table) (r : ℕ) → Shows b t → r < registers → t.reg r ≡ none → b.reg r ≡ none
shows-empty b t r s l e = go (b.reg r) (subst (λ (u : Option ℕ). Place (2 * b.n) t.rows (fn_of b.n) (b.reg r) u) e (s.reg r l))
  where
    go : (o : Option (List Bool)) → Place (2 * b.n) t.rows (fn_of b.n) o none → o ≡ none
    go none p = refl
    go (some A) p = absurd p

-- ---- what is filled

-- which registers and relations the table has filled
abbrev pub regs_filled : Table → ℕ → Bool
regs_filled t r = ltb r registers && filled (t.reg r)

abbrev pub rels_filled : Table → ℕ → Bool
rels_filled t q = ltb q relations && filled (t.rel q)

place-filled : {X : Type 0} (m : ℕ) (rows : Rows) (f : X → Fn) (o : Option X) (a : Option ℕ) → Place m rows f o a → filled o ≡ filled a
place-filled m rows f none none p = refl
place-filled m rows f none (some a) p = absurd p
place-filled m rows f (some x) none p = absurd p
place-filled m rows f (some x) (some a) p = refl

-- two tests that agree below a limit
below : (k limit : ℕ) (x y : Bool) → (k < limit → x ≡ y) → (ltb k limit && x) ≡ (ltb k limit && y)
below k limit x y h = go (ltb k limit) refl
  where
    go : (u : Bool) → ltb k limit ≡ u → (u && x) ≡ (u && y)
    go true e = h (ltb→lt k limit (subst T (sym e) tt))
    go false e = refl

-- registers and relations are filled exactly where the book's are
module _ (b : Book) (t : Table) (s : Shows b t) where
  pub reg_filled : (r : ℕ) → r < registers → filled (b.reg r) ≡ filled (t.reg r)
  reg_filled r i = place-filled (2 * b.n) t.rows (fn_of b.n) (b.reg r) (t.reg r) (s.reg r i)

  pub rel_filled : (q : ℕ) → q < relations → filled (b.rel q) ≡ filled (t.rel q)
  rel_filled q i = place-filled (2 * b.n) t.rows (fn_of_pairs b.n) (b.rel q) (t.rel q) (s.rel q i)

  -- so the reader's number is the book's
  pub checks-same : (c : Kind) (bs : List ℕ) → checks b c bs ≡ first_refusal c b.n (regs_filled t) (rels_filled t) bs
  checks-same c bs =
      ap₂ (λ (x y : ℕ → Bool). first_refusal c b.n x y bs)
      (fun_ext (λ r. below r registers (filled (b.reg r)) (filled (t.reg r)) (reg_filled r)))
      (fun_ext (λ q. below q relations (filled (b.rel q)) (filled (t.rel q)) (rel_filled q)))

-- ---- fresh

pub shows-fresh : (n N : ℕ) (t : Table) → Empty n N t → Shows (fresh n N) t
shows-fresh n N t e = record {
  n = e.bits;
  N = e.size;
  wf = empty_well_formed (2 * n) N t.rows e.unused;
  valid = subst (λ (a : ℕ). Denotes (2 * n) t.rows a (fn_of n (all_states (2 ^ n)))) (sym e.every) (denotes-all n N t.rows);
  reg = λ r l. subst (λ (o : Option ℕ). Place (2 * n) t.rows (fn_of n) none o) (sym (e.reg r l)) tt;
  rel = λ q l. subst (λ (o : Option ℕ). Place (2 * n) t.rows (fn_of_pairs n) none o) (sym (e.rel q l)) tt;
}
