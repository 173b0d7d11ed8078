-- Laws of what specs/Gather.antt defines. Assumes nothing.
use mathlib.Core.Path.{◌≡◌, refl, ap, sym, ◌∙◌, subst}
use mathlib.Core.Bool.{true, false, true≢false}
use mathlib.Core.Logic.{by_cases}
use mathlib.Core.List.{List}
use Prim.Native.Nat.{ℕ, ◌+◌, ◌*◌, ◌≤◌, ◌<◌}
use native.Mathlib.Omega.{arith}
use native.Mathlib.Decide.{ℕ_discrete}
use borrow.Author.Tests.{ne_eqb}
use Rattle.layout.specs.Places.{MAX_ROWS, words_for, USED, LOW, HIGH, LEVEL, RANK}
use Rattle.diagram.proofs.Canon.{not-true}
use Rattle.layout.specs.View.{View, put_header, put_head, upd}
use Rattle.rows.specs.Used.{used, Ranked}
use Rattle.rows.proofs.Used.{used_in, InList, listed-used}
use Rattle.rows.specs.Index.{Has}
use Rattle.table.specs.Columns.{set_heads}
use Rattle.table.specs.Append.{appended}
use Rattle.table.proofs.AppendLaws.{append-used, append-kept, append-only, append-ranked, append-index}
use Rattle.rows.specs.Lookup.{Room}
use Rattle.rows.specs.Bits.{On}
use Rattle.collect.specs.Gather.{Headed, Shared, Part, GatherPre, Gathered}

pub headed_refl : (W : View) → Headed W W
headed_refl W = record { heads = W.head; same = refl }

pub headed_put : {W X Y : View} (b v : ℕ) → Headed W X → Y ≡ put_head X b v → Headed W Y
headed_put b v h e = record { heads = upd h.heads b v; same = rw (e, h.same) }

pub headed_list : {W X : View} (k : ℕ) → Headed W X → X.list k ≡ W.list k
headed_list k h = ap (λ (v : View). v.list k) h.same

place_of : (X : View) (j : ℕ) → used X j ≡ true → InList X.rows (X.header USED) (λ x. X.cell x RANK) X.list j
place_of X j u = used_in X.rows (X.header USED) (λ x. X.cell x RANK) X.list j u

-- no row is used
module _ (E : View) (total : ℕ) (zero-count : E.header USED ≡ 0) where
  none : (j : ℕ) → used E j ≡ true → ⊥
  none j u = let p = (place_of E j u).place in omega arith

  pub part-zero : (mark : ℕ → Type 0) → Part (put_header E USED total) mark 0 E
  part-zero mark = record {
    rows = refl;
    size = refl;
    header = λ h n. rw (ne_eqb h 3 n);
    cells = λ j l _ _. refl;
    slot = refl;
    beyond = refl;
    count-le = omega arith;
    left = λ p _. refl;
    ranked = record { count-le = omega arith; within = λ k h. absurd (omega arith); back = λ k h. absurd (omega arith) };
    index = record { nexts = λ j u. absurd (none j u); found = λ j u. absurd (none j u) };
    from = λ j u. absurd (none j u);
    has = λ j u m h. absurd (omega arith);
  }

module _ (W : View) (ranked : Ranked W) (shared : Shared W) (mark : ℕ → Type 0) (k : ℕ) (room : k < W.header USED)
    (X : View) (p : Part W mark k X) where
  -- the row at place k, and that only it has rank k
  at : (j : ℕ) → used W j ≡ true → W.cell j RANK ≡ k → j ≡ W.list k
  at j u e = sym (place_of W j u).there ∙ ap W.list e

  pub part-skip : (mark (W.list k) → ⊥) → Part W mark (k + 1) X
  part-skip n = record {
    rows = p.rows;
    size = p.size;
    header = p.header;
    cells = p.cells;
    slot = p.slot;
    beyond = p.beyond;
    count-le = let c = p.count-le in omega arith;
    left = λ q h. p.left q (omega arith);
    ranked = p.ranked;
    index = p.index;
    from = λ j u. let f = p.from j u in (f.0, f.1, (let l = f.2 in omega arith));
    has = λ j u m h. by_cases (ℕ_discrete (W.cell j RANK) k)
        (λ e. absurd (n (subst mark (at j u e) m)))
        (λ q. p.has j u m (omega arith));
  }

  abbrev i : ℕ
  i = W.list k

  row : i < X.rows
  row = rw p.rows (ranked.within k room)

  unused : used X i ≡ false
  unused = not-true _ (λ u. let f = (p.from i u).2 in let e = ranked.back k room in omega arith)

  space : X.header USED < X.rows
  space = let c = p.count-le in let r = p.rows in let l = ranked.count-le in omega arith

  same : (j l : ℕ) → l < 3 → X.cell j l ≡ W.cell j l
  same j l h = p.cells j l (omega arith) (omega arith)

  alone : (j : ℕ) → used X j ≡ true → Has X j (X.cell i LEVEL) (X.cell i LOW) (X.cell i HIGH) → ⊥
  alone j u h =
      let e : j ≡ i = shared j i (p.from j u).0 (listed-used W ranked k room)
      (sym (same j 2 (omega arith)) ∙ h.level ∙ same i 2 (omega arith))
      (sym (same j 0 (omega arith)) ∙ h.low ∙ same i 0 (omega arith))
      (sym (same j 1 (omega arith)) ∙ h.high ∙ same i 1 (omega arith)) in
      true≢false (sym u ∙ ap (used X) e ∙ unused)

  pub part-keep : mark (W.list k) → Part W mark (k + 1) (appended X (W.list k))
  part-keep m = record {
    rows = p.rows;
    size = p.size;
    header = λ h n. rw (ne_eqb h 3 n) (p.header h n);
    cells = λ j l a b. rw (ne_eqb l 4 b, ne_eqb l 3 a) (p.cells j l a b);
    slot = p.slot;
    beyond = p.beyond;
    count-le = let c = p.count-le in omega arith;
    left = λ q h. let c = p.count-le in rw (ne_eqb q (X.header USED) (omega arith)) (p.left q (omega arith));
    ranked = append-ranked X i p.ranked p.index row unused space alone;
    index = append-index X i p.ranked p.index row unused space alone;
    from = λ j u. by_cases (ℕ_discrete j i)
        (λ e. rw e (listed-used W ranked k room, m, (let b = ranked.back k room in omega arith)))
        (λ n. let f = p.from j (append-only X i p.ranked p.index row unused space alone j u n) in
        (f.0, f.1, (let l = f.2 in omega arith)));
    has = λ j u mj h. by_cases (ℕ_discrete (W.cell j RANK) k)
        (λ e. subst (λ (x : ℕ). used (appended X i) x ≡ true) (sym (at j u e))
        (append-used X i p.ranked p.index row unused space alone))
        (λ q. append-kept X i p.ranked p.index row unused space alone j (p.has j u mj (omega arith)));
  }

-- the steps of `gather`
module _ (W : View) {E₁ E : View} {total : ℕ} (et : total ≡ W.header USED) (e₁ : E₁ ≡ put_header W USED 0) (h : Headed E₁ E) where
  abbrev full : View
  full = put_header (set_heads (put_header W 3 0) h.heads) USED total

  is : E ≡ set_heads (put_header W USED 0) h.heads
  is = h.same ∙ ap (λ (v : View). set_heads v h.heads) e₁

  pub gather-pre : (size : ℕ) → words_for W.rows ≤ W.size → W.rows ≤ MAX_ROWS → W.rows ≤ 32 * size → Ranked W → Shared W
      → GatherPre E total size
  gather-pre size a b c r s = subst (λ (v : View). GatherPre v total size) (sym is) (record {
    words = a;
    max = b;
    marks = c;
    none = refl;
    ranked = rw et (record { count-le = r.count-le; within = r.within; back = r.back });
    shared = rw et s;
  })

  pub gathered_by : {X : View} (m : List ℕ) → Part (put_header E USED total) (λ j. On m j) total X → Gathered W X m
  gathered_by {X} m q =
      let p : Part full (λ j. On m j) total X = subst (λ (v : View). Part (put_header v USED total) (λ j. On m j) total X) is q in
      record {
        rows = p.rows;
        size = p.size;
        header = λ x n. p.header x n ∙ rw (ne_eqb x 3 n);
        cells = p.cells;
        slot = p.slot;
        beyond = p.beyond;
        ranked = p.ranked;
        index = p.index;
        from = λ j u. let f = p.from j u in (rw et at f.0, f.1);
        has = λ j u o. let l = (place_of W j u).place in p.has j (rw et u) o (omega arith);
      }

-- the row at place k, as it is read
module _ {E X : View} {total size : ℕ} {mark : ℕ → Type 0} {k : ℕ} (g : GatherPre E total size) (p : Part (put_header E USED total) mark k X)
    (l : k < total) where
  pub next-is : {r : ℕ} → r ≡ X.list k → r ≡ E.list k
  next-is e = e ∙ p.left k (omega arith)

  pub next_row : {r : ℕ} → r ≡ X.list k → r < E.rows
  next_row e = rw (next-is e) (g.ranked.within k l)

  pub next-room : Room X × (X.header USED < E.rows)
  next-room =
      let a = g.words in
      let b = g.max in
      let c = p.count-le in
      let d = g.ranked.count-le in
      let r = p.rows in
      let s = p.size in
      (record { words = omega arith; count-le = p.ranked.count-le; max = omega arith }, omega arith)

  pub next-keep : {r : ℕ} {Y : View} → r ≡ X.list k → mark r → Y ≡ appended X r → Part (put_header E USED total) mark (k + 1) Y
  next-keep e m q = rw (q, next-is e) (part-keep (put_header E USED total) g.ranked g.shared mark k l X p (subst mark (next-is e) m))

  pub next-skip : {r : ℕ} {Y : View} → r ≡ X.list k → (mark r → ⊥) → Y ≡ X → Part (put_header E USED total) mark (k + 1) Y
  next-skip e n q = rw q (part-skip (put_header E USED total) g.ranked g.shared mark k l X p (λ m. n (subst mark (sym (next-is e)) m)))
