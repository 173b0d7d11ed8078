-- CLEAR, COLLECT and a refusal by a check: from what the code does to the call's contract. Assumes nothing.
use mathlib.Core.Path.{◌≡◌, refl, sym, ap, ◌∙◌, subst}
use mathlib.Core.Bool.{Bool, false, cond, ◌&&◌}
use mathlib.Core.Option.{Option, none, some}
use Prim.Native.Nat.{ℕ, suc, ◌≤◌, ◌<◌}
use native.Mathlib.Omega.{arith}
use lib.Dec.{eqb, eqb-suc-zero}
use Rattle.diagram.specs.Rows.{Rows}
use Rattle.diagram.specs.Used.{used_count}
use Rattle.diagram.proofs.Keep.{keeps_reach, keeps_trans, keeps_within}
use Rattle.diagram.specs.Collect.{Collects}
use Rattle.diagram.proofs.Collect.{collects_keeps, collects_well_formed, collects-count}
use Rattle.book.specs.Run.{value}
use Rattle.book.specs.Book.{Book, Call, relation, set, valid, clear, collect, effect, stores, answered, registers, Done, refuse}
use Rattle.book.specs.Book.{with_reg, does}
use Rattle.book.specs.Table.{Table, Reply, Shows, Agrees, roots_of, Swept, Serves}
use Rattle.book.proofs.Held.{held_keeps, held_rows}
use Rattle.book.proofs.Roots.{shows-held, kept-before, kept-after}
use Rattle.book.proofs.Leaves.{with_rows, store_reg, shows-rows, shows-reg, kept-all}
use Rattle.book.specs.Leaves.{plain, valued}
use Rattle.book.proofs.Effects.{in-range, out_of_range}

-- ---- clear, collect, and refusals

-- CLEAR of a register in range
pub clear_serves : (b : Book) (t : Table) (r : ℕ) → Shows b t → r < registers → Serves b (clear r) t (store_reg t r none) (plain 0)
clear_serves b t r s l = record {
  shows = subst (λ (x : Done). Shows x.0 (store_reg t r none)) (sym same) (shows-reg b t s r none none tt);
  agrees = subst (λ (x : Done). Agrees x.1 (plain 0)) (sym same) (record { number = refl; rounds = refl; peak = refl; value = refl });
  numbers = λ q h. refl;
  rels = λ q h z. refl;
  valid = λ z. refl;
  kept = keeps_within (kept-before (clear r) (plain 0) t) (kept-all b t s);
  swept = tt;
}
  where
    same : does b (clear r) ≡ (with_reg b r none, answered (some 0))
    same = in-range _ (refuse b 3) r registers l

-- COLLECT, which leaves just the rows that the roots reach and returns their number
pub collect_serves : (b : Book) (t : Table) (rows : Rows) → Shows b t → Collects t.rows rows (roots_of t)
    → Serves b collect t (with_rows t rows) (valued (used_count rows b.N))
collect_serves b t rows s c = record {
  shows = shows-rows b t s rows (collects_well_formed s.wf c) (collects_keeps c);
  agrees =
      record {
        number =
            refl;
        rounds = refl;
        peak = refl;
        value = collects-count s.wf c ∙ held_rows (held_keeps (shows-held b t s) (collects_keeps c));
      };
  numbers = λ q h. refl;
  rels = λ q h z. refl;
  valid = λ z. refl;
  kept = keeps_within (kept-before collect (valued (used_count rows b.N)) t) (collects_keeps c);
  swept = λ i u. keeps_reach (collects_keeps c) (c.only i u);
}

-- a refused call stores nothing
none-stored : (o : Option ℕ) (k q : ℕ) → stores o (suc k) q ≡ false
none-stored none k q = refl
none-stored (some r) k q = ap (λ (x : Bool). x && eqb q r) (eqb-suc-zero k)

-- A REFUSAL by a check: the book refuses, and the table is as it was
pub refusal_serves : (b : Book) (t : Table) (c : Call) (k : ℕ) → Shows b t → does b c ≡ refuse b (suc k) → Serves b c t t (plain (suc k))
refusal_serves b t c k s e = record {
  shows = subst (λ (x : Done). Shows x.0 t) (sym e) s;
  agrees = subst (λ (x : Done). Agrees x.1 (plain (suc k))) (sym e) (record { number = refl; rounds = refl; peak = refl; value = refl });
  numbers =
      λ q h. sym (ap (λ (x : Bool). cond x (cond (effect c).fills (some 0) none) (t.reg q)) (none-stored (effect c).reg k q));
  rels = λ q h z. refl;
  valid = λ z. refl;
  kept = keeps_within (kept-before c (plain (suc k)) t) (kept-all b t s);
  swept = sweeps c e;
}
  where
    -- collect is never refused by a check
    sweeps : (c : Call) → does b c ≡ refuse b (suc k) → Swept c t
    sweeps (relation x bs) h = tt
    sweeps (set acc x R bs) h = tt
    sweeps (valid bs) h = tt
    sweeps (clear x) h = tt
    sweeps collect h = let z : ◌≡◌ {A = ℕ} 0 (suc k) = ap (λ (d : Done). d.1.number) h in absurd (omega arith)

-- CLEAR out of range
pub clear_out_of_range : (b : Book) (r : ℕ) → registers ≤ r → does b (clear r) ≡ refuse b 3
clear_out_of_range b r l = out_of_range _ (refuse b 3) r registers l

-- A COLLECTION AFTERWARDS leaves what the call gives
pub tidied_serves : (b : Book) (c : Call) (t u : Table) (y : Reply) (rows : Rows) → Serves b c t u y → Collects u.rows rows (roots_of u)
    → Serves b c t (with_rows u rows) y
tidied_serves b c t u y rows s k = record {
  shows = shows-rows (does b c).0 u s.shows rows (collects_well_formed s.shows.wf k) (collects_keeps k);
  agrees = s.agrees;
  numbers = s.numbers;
  rels = s.rels;
  valid = s.valid;
  kept = keeps_trans s.kept (keeps_within (kept-after c y t u s.numbers s.rels s.valid) (collects_keeps k));
  swept = sweeps c;
}
  where
    sweeps : (c : Call) → Swept c (with_rows u rows)
    sweeps (relation x bs) = tt
    sweeps (set acc x R bs) = tt
    sweeps (valid bs) = tt
    sweeps (clear x) = tt
    sweeps collect = λ i h. keeps_reach (collects_keeps k) (k.only i h)
