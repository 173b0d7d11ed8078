-- Tables that grow: what stays when rows are added, and that one new row keeps a table well formed. Assumes nothing.
use mathlib.Core.Path.{◌≡◌, refl, sym, ap, ◌∙◌}
use mathlib.Core.Logic.{◌≢◌, by_cases}
use mathlib.Core.Bool.{true, false, cond, true≢false}
use Prim.Native.Nat.{ℕ, zero, suc, ◌≤◌, ◌<◌}
use native.Mathlib.Decide.{ℕ_discrete}
use native.Mathlib.Omega.{arith}
use lib.Dec.{eqb, eqb_refl, eqb→eq}
use Rattle.diagram.specs.Level.{Val, turn}
use Rattle.diagram.proofs.Level.{T_true, T_false}
use Rattle.diagram.specs.Rows.{Rows, marked, target, Arrow, ArrowTo, level_of, level_to, den_to, den, RowOk, WellFormed, Extends, Same}
use Rattle.diagram.specs.Rows.{Adds}

pub extends_refl : (rows : Rows) → Extends rows rows
extends_refl rows = record { used = λ i u. u; level = λ i u. refl; low = λ i u. refl; high = λ i u. refl }

pub extends_trans : {a b c : Rows} → Extends a b → Extends b c → Extends a c
extends_trans p q = record {
  used = λ i u. q.used i (p.used i u);
  level = λ i u. q.level i (p.used i u) ∙ p.level i u;
  low = λ i u. q.low i (p.used i u) ∙ p.low i u;
  high = λ i u. q.high i (p.used i u) ∙ p.high i u;
}

pub same_refl : (rows : Rows) → Same rows rows
same_refl rows = record { forth = extends_refl rows; back = extends_refl rows }

module _ {old new : Rows} (e : Extends old new) where
  to_extends : (k : ℕ) → ArrowTo old k → ArrowTo new k
  to_extends zero u = tt
  to_extends (suc i) u = e.used i u

  pub arrow_extends : (a : ℕ) → Arrow old a → Arrow new a
  arrow_extends a u = to_extends (target a) u

  level_to_extends : (m k : ℕ) → ArrowTo old k → level_to m new k ≡ level_to m old k
  level_to_extends m zero u = refl
  level_to_extends m (suc i) u = e.level i u

  pub level_extends : (m a : ℕ) → Arrow old a → level_of m new a ≡ level_of m old a
  level_extends m a u = level_to_extends m (target a) u

  -- What an old arrow denotes is kept.
  den_to_extends : {m N : ℕ} → WellFormed m N old → (f k : ℕ) → ArrowTo old k → (v : Val) → den_to f new k v ≡ den_to f old k v
  unfolding den_to
  den_to_extends wf zero k u v = refl
  den_to_extends wf (suc f) zero u v = refl
  den_to_extends wf (suc f) (suc i) u v =
      let o = wf.ok i u in
      let eh = den_to_extends wf f (target (old.high i)) o.high-arrow v in
      let el = den_to_extends wf f (target (old.low i)) o.low-arrow v in
      cc (eh, el, e.level i u, e.low i u, e.high i u)

  pub den_extends : {m N : ℕ} → WellFormed m N old → (f a : ℕ) → Arrow old a → (v : Val) → den f new a v ≡ den f old a v
  unfolding den
  den_extends wf f a u v = ap (turn (marked a)) (den_to_extends wf f (target a) u v)

  -- An old row stays as the table wants it.
  pub row_ok_extends : {m : ℕ} (i : ℕ) → old.used i ≡ true → RowOk m old i → RowOk m new i
  row_ok_extends {m} i u o =
      let nl = e.level i u in
      record {
        shallow = rw nl o.shallow;
        low-arrow = rw (e.low i u) (arrow_extends (old.low i) o.low-arrow);
        high-arrow = rw (e.high i u) (arrow_extends (old.high i) o.high-arrow);
        low_deeper = rw (nl, e.low i u, level_extends m (old.low i) o.low-arrow) o.low_deeper;
        high_deeper = rw (nl, e.high i u, level_extends m (old.high i) o.high-arrow) o.high_deeper;
        reduced = rw (e.low i u, e.high i u) o.reduced;
        plain = rw (e.high i u) o.plain;
      }

-- The same rows are as well formed.
pub same_well_formed : {m N : ℕ} {old new : Rows} → Same old new → WellFormed m N old → WellFormed m N new
same_well_formed s wf = record {
  bounded = λ i u. wf.bounded i (s.back.used i u);
  ok = λ i u. row_ok_extends s.forth i (s.back.used i u) (wf.ok i (s.back.used i u));
  shared = λ i j u w el ea eb. wf.shared i j (s.back.used i u) (s.back.used j w)
      (cc (s.back.level i u, s.back.level j w)) (cc (s.back.low i u, s.back.low j w)) (cc (s.back.high i u, s.back.high j w));
}

-- Rows may be freed where every arrow of the rows that stay leads to one that stays.
pub freed_well_formed : {m N : ℕ} {old new : Rows} → Extends new old → WellFormed m N old
    → ((i : ℕ) → new.used i ≡ true → Arrow new (new.low i)) → ((i : ℕ) → new.used i ≡ true → Arrow new (new.high i))
    → WellFormed m N new
freed_well_formed {m} {old = old} {new = new} e wf low high = record {
  bounded = λ i u. wf.bounded i (e.used i u);
  ok = λ i u.
      let o = wf.ok i (e.used i u) in
      let el = e.level i u in
      let ea = e.low i u in
      let eb = e.high i u in
      let la = level_extends e m (new.low i) (low i u) in
      let lb = level_extends e m (new.high i) (high i u) in
      record {
        shallow = rw el at o.shallow;
        low-arrow = low i u;
        high-arrow = high i u;
        low_deeper = rw (← la, ← ea, ← el) o.low_deeper;
        high_deeper = rw (← lb, ← eb, ← el) o.high_deeper;
        reduced = rw (ea, eb) at o.reduced;
        plain = rw eb at o.plain;
      };
  shared = λ i j u w el ea eb. wf.shared i j (e.used i u) (e.used j w)
      (cc (e.level i u, e.level j w)) (cc (e.low i u, e.low j w)) (cc (e.high i u, e.high j w));
}

-- A table with no used row is well formed.
pub empty_well_formed : (m N : ℕ) (rows : Rows) → ((i : ℕ) → rows.used i ≡ false) → WellFormed m N rows
empty_well_formed m N rows none =
    let never : (i : ℕ) → rows.used i ≡ true → ⊥ = λ i u. true≢false (sym u ∙ none i) in
    record {
      bounded = λ i u. absurd (never i u);
      ok = λ i u. absurd (never i u);
      shared = λ i j u w el ea eb. absurd (never i u);
    }

-- One more row, with arrows that differ and lead to greater levels, the high one without a NOT, and that no used row has already, keeps a
-- table well formed.
module _ {m N N' : ℕ} {old new : Rows} {i l a b : ℕ} (wf : WellFormed m N old) (s : Adds old new i l a b)
    (room : i < N') (more : N ≤ N') (lm : l < m) (ua : Arrow old a) (ub : Arrow old b)
    (la : l < level_of m old a) (lb : l < level_of m old b) (ne : a ≢ b) (pb : marked b ≡ false)
    (fresh : (j : ℕ) → old.used j ≡ true → old.level j ≡ l → old.low j ≡ a → old.high j ≡ b → ⊥) where
  new_ok : RowOk m new i
  new_ok = record {
    shallow = rw s.level lm;
    low-arrow = rw s.low (arrow_extends s.kept a ua);
    high-arrow = rw s.high (arrow_extends s.kept b ub);
    low_deeper = rw (s.level, s.low, level_extends s.kept m a ua) la;
    high_deeper = rw (s.level, s.high, level_extends s.kept m b ub) lb;
    reduced = rw (s.low, s.high) ne;
    plain = rw s.high pb;
  }

  -- No old row equals the new one.
  apart : (j : ℕ) → old.used j ≡ true → new.level j ≡ new.level i → new.low j ≡ new.low i → new.high j ≡ new.high i → ⊥
  apart j u el ea eb =
      fresh j u (cc (s.kept.level j u, s.level)) (cc (s.kept.low j u, s.low)) (cc (s.kept.high j u, s.high))

  pub adds_well_formed : WellFormed m N' new
  adds_well_formed = record {
    bounded = λ j u. by_cases (ℕ_discrete j i) (λ e. rw e room) (λ h. let q = wf.bounded j (s.only j u h) in omega arith);
    ok = λ j u. by_cases (ℕ_discrete j i) (λ e. rw e new_ok) (λ h. row_ok_extends s.kept j (s.only j u h) (wf.ok j (s.only j u h)));
    shared = λ j k u w el ea eb. by_cases (ℕ_discrete j i)
        (λ e. by_cases (ℕ_discrete k i) (λ g. e ∙ sym g)
        (λ h. absurd (apart k (s.only k w h) (cc) (cc) (cc))))
        (λ h. by_cases (ℕ_discrete k i)
        (λ g. absurd (apart j (s.only j u h) (cc) (cc) (cc)))
        (λ g.
        let uj = s.only j u h in
        let uk = s.only k w g in
        wf.shared j k uj uk (cc (s.kept.level j uj, s.kept.level k uk)) (cc (s.kept.low j uj, s.kept.low k uk))
        (cc (s.kept.high j uj, s.kept.high k uk))));
  }

-- The table with row i set to level l and arrows a and b.
unfoldable pub put : Rows → ℕ → ℕ → ℕ → ℕ → Rows
put rows i l a b = record {
  used = λ j. cond (eqb j i) true (rows.used j);
  level = λ j. cond (eqb j i) l (rows.level j);
  low = λ j. cond (eqb j i) a (rows.low j);
  high = λ j. cond (eqb j i) b (rows.high j);
}

-- A row that was not used is added by putting it.
pub put-adds : (rows : Rows) (i l a b : ℕ) → rows.used i ≡ false → Adds rows (put rows i l a b) i l a b
unfolding put
put-adds rows i l a b n =
    let at = T_true (eqb i i) (eqb_refl i) in
    let off : (j : ℕ) → j ≢ i → eqb j i ≡ false = λ j h. T_false (eqb j i) (λ t. h (eqb→eq j i t)) in
    let other : (j : ℕ) → rows.used j ≡ true → j ≢ i = λ j u e. true≢false (sym u ∙ ap rows.used e ∙ n) in
    record {
      kept = record {
        used = λ j u. rw (off j (other j u)) u;
        level = λ j u. rw (off j (other j u));
        low = λ j u. rw (off j (other j u));
        high = λ j u. rw (off j (other j u));
      };
      only = λ j u h. rw (off j h) at u;
      unused = n;
      used = rw at;
      level = rw at;
      low = rw at;
      high = rw at;
    }
