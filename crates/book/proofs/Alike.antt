-- Tables that are alike in all that counts, registers and relations within their numbers, serve the same. Assumes nothing.
use mathlib.Core.Path.{◌≡◌, refl, sym, ap₂, ◌∙◌, subst}
use mathlib.Core.Bool.{true}
use mathlib.Core.List.{List, ◌∷◌, ◌++◌}
use mathlib.Core.Option.{Option}
use Prim.Native.Nat.{ℕ, zero, suc, ◌*◌, ◌<◌}
use native.Mathlib.Omega.{arith}
use Rattle.diagram.specs.Rows.{Rows, WellFormed}
use Rattle.diagram.specs.Reach.{Reach}
use Rattle.diagram.specs.Keep.{Keeps}
use Rattle.diagram.specs.Post.{Denotes}
use Rattle.book.specs.Bridge.{fn_of, fn_of_pairs}
use Rattle.book.specs.Book.{Book, Call, relation, set, valid, clear, collect, registers, relations, does}
use Rattle.book.specs.Table.{Table, Reply, Place, Shows, add_root, arrows_of, roots_of, kept_roots, Swept, Serves}

pub record Alike (t u : Table) : Type 0 where
  pub n : u.n ≡ t.n
  pub N : u.N ≡ t.N
  pub valid : u.valid ≡ t.valid
  pub rows : u.rows ≡ t.rows
  pub reg : (r : ℕ) → r < registers → u.reg r ≡ t.reg r
  pub rel : (q : ℕ) → q < relations → u.rel q ≡ t.rel q

arrows-same : (k : ℕ) (h g : ℕ → Option ℕ) → ((i : ℕ) → i < k → h i ≡ g i) → arrows_of k h ≡ arrows_of k g
arrows-same zero h g e = refl
arrows-same (suc k) h g e =
    ap₂ add_root (e 0 (omega arith)) (arrows-same k (λ i. h (suc i)) (λ i. g (suc i)) (λ i l. e (suc i) (omega arith)))

module _ {t u : Table} (a : Alike t u) where
  pub roots-same : roots_of u ≡ roots_of t
  roots-same =
      ap₂ (λ (x : ℕ) (l : List ℕ). x ∷ l) a.valid
      (ap₂ ◌++◌ (arrows-same registers u.reg t.reg a.reg) (arrows-same relations u.rel t.rel a.rel))

  pub alike_shows : (b : Book) → Shows b t → Shows b u
  alike_shows b s = record {
    n = a.n ∙ s.n;
    N = a.N ∙ s.N;
    wf = subst (WellFormed (2 * b.n) b.N) (sym a.rows) s.wf;
    valid =
        subst (λ (x : Rows). Denotes (2 * b.n) x u.valid (fn_of b.n b.valid)) (sym a.rows)
        (subst (λ (x : ℕ). Denotes (2 * b.n) t.rows x (fn_of b.n b.valid)) (sym a.valid) s.valid);
    reg = λ r l. subst (λ (x : Rows). Place (2 * b.n) x (fn_of b.n) (b.reg r) (u.reg r)) (sym a.rows)
        (subst (λ (o : Option ℕ). Place (2 * b.n) t.rows (fn_of b.n) (b.reg r) o) (sym (a.reg r l)) (s.reg r l));
    rel = λ q l. subst (λ (x : Rows). Place (2 * b.n) x (fn_of_pairs b.n) (b.rel q) (u.rel q)) (sym a.rows)
        (subst (λ (o : Option ℕ). Place (2 * b.n) t.rows (fn_of_pairs b.n) (b.rel q) o) (sym (a.rel q l)) (s.rel q l));
  }

  pub alike_serves : (b : Book) (c : Call) (before : Table) (y : Reply) → Serves b c before t y → Serves b c before u y
  alike_serves b c before y s = record {
    shows = alike_shows (does b c).0 s.shows;
    agrees = s.agrees;
    numbers = λ r l. a.reg r l ∙ s.numbers r l;
    rels = λ q l z. a.rel q l ∙ s.rels q l z;
    valid = λ z. a.valid ∙ s.valid z;
    kept = subst (λ (x : Rows). Keeps before.rows x (kept_roots c y before)) (sym a.rows) s.kept;
    swept = sweeps c s.swept;
  }
    where
      sweeps : (c : Call) → Swept c t → Swept c u
      sweeps (relation x bs) w = tt
      sweeps (set acc x R bs) w = tt
      sweeps (valid bs) w = tt
      sweeps (clear x) w = tt
      sweeps collect w =
          λ i h. subst (λ (r : Rows). Reach r (roots_of u) i) (sym a.rows)
          (subst (λ (l : List ℕ). Reach t.rows l i) (sym roots-same) (w i (subst (λ (r : Rows). r.used i ≡ true) a.rows h)))
