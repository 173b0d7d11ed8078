-- Laws of what specs/Append.antt defines. Assumes nothing.
use mathlib.Core.Path.{◌≡◌, refl, ap, sym, ◌∙◌}
use mathlib.Core.Bool.{true, false, true≢false}
use mathlib.Core.Logic.{◌≢◌, by_cases}
use Prim.Native.Nat.{ℕ, zero, suc, ◌+◌, ◌<◌}
use native.Mathlib.Numerals.{add-one}
use native.Mathlib.Omega.{arith}
use native.Mathlib.Decide.{ℕ_discrete}
use borrow.Author.Tests.{eq-eqb, ne_eqb}
use Rattle.layout.specs.Places.{USED, LOW, HIGH, LEVEL, NEXT, RANK}
use Rattle.layout.specs.View.{View, put_cell, put_header, put_list, put_head}
use Rattle.rows.specs.Used.{used, Ranked}
use Rattle.rows.proofs.Used.{used-yes, used_in, listed-used}
use Rattle.rows.specs.Index.{key_of, live, Link, Has, Hit, stop, skip, Down, Index}
use Rattle.rows.proofs.Index.{live-used, live_link}
use Rattle.rows.proofs.Framed.{hit_frame, live_more}
use Rattle.table.specs.Append.{appended}

module _ (W : View) (i : ℕ) (ranked : Ranked W) (index : Index W) (row : i < W.rows) (unused : used W i ≡ false)
    (space : W.header USED < W.rows)
    (alone : (j : ℕ) → used W j ≡ true → Has W j (W.cell i LEVEL) (W.cell i LOW) (W.cell i HIGH) → ⊥) where
  abbrev X : View
  X = appended W i

  apart : (j : ℕ) → used W j ≡ true → j ≢ i
  apart j u e = true≢false (sym u ∙ ap (used W) e ∙ unused)

  rank_new : X.cell i RANK ≡ W.header USED
  rank_new = rw (eq-eqb i i refl)

  rank_old : (j : ℕ) → j ≢ i → X.cell j RANK ≡ W.cell j RANK
  rank_old j n = rw (ne_eqb j i n)

  next-new : X.cell i NEXT ≡ live (used W) (W.head (key_of W i))
  next-new = rw (eq-eqb i i refl)

  next_old : (j : ℕ) → j ≢ i → X.cell j NEXT ≡ W.cell j NEXT
  next_old j n = rw (ne_eqb j i n)

  list_new : X.list (W.header USED) ≡ i
  list_new = rw (eq-eqb (W.header USED) (W.header USED) refl)

  list_old : (k : ℕ) → k ≢ W.header USED → X.list k ≡ W.list k
  list_old k n = rw (ne_eqb k (W.header USED) n)

  head-new : X.head (key_of W i) ≡ suc i
  head-new = rw (eq-eqb (key_of W i) (key_of W i) refl) (add-one i)

  head_old : (b : ℕ) → b ≢ key_of W i → X.head b ≡ W.head b
  head_old b n = rw (ne_eqb b (key_of W i) n)

  -- the used rows are those of before, and row i
  pub append-used : used X i ≡ true
  append-used = used-yes _ _ _ _ _ (record { row = row; place = rw rank_new (omega arith); there = rw rank_new list_new })

  pub append-kept : (j : ℕ) → used W j ≡ true → used X j ≡ true
  append-kept j u =
      let p = used_in W.rows (W.header USED) (λ x. W.cell x RANK) W.list j u in
      let e = rank_old j (apart j u) in
      let l = p.place in
      used-yes _ _ _ _ _
      (record { row = p.row; place = rw e (omega arith); there = rw e (list_old (W.cell j RANK) (omega arith) ∙ p.there) })

  pub append-only : (j : ℕ) → used X j ≡ true → j ≢ i → used W j ≡ true
  append-only j u n =
      let p = used_in W.rows (W.header 3 + 1) (λ x. X.cell x RANK) X.list j u in
      let e = rank_old j n in
      let l : W.cell j RANK < W.header 3 + 1 = rw e at p.place in
      let t : X.list (W.cell j RANK) ≡ j = rw e at p.there in
      let m : W.cell j RANK ≢ W.header USED = λ q. n (sym t ∙ ap X.list q ∙ list_new) in
      used-yes _ _ _ _ _ (record { row = p.row; place = omega arith; there = sym (list_old (W.cell j RANK) m) ∙ t })

  pub append-ranked : Ranked X
  append-ranked = record {
    count-le = omega arith;
    within = λ k h. by_cases (ℕ_discrete k (W.header USED))
        (λ e. rw (e, list_new) row)
        (λ n. rw (list_old k n) (ranked.within k (omega arith)));
    back = λ k h. by_cases (ℕ_discrete k (W.header USED))
        (λ e. rw (e, list_new, rank_new))
        (λ n. rw (list_old k n)
        (rank_old (W.list k) (apart (W.list k) (listed-used W ranked k (omega arith))) ∙ ranked.back k (omega arith)));
  }

  down_more : (k p : ℕ) → Down W k p → Down X k p
  down_more k zero d = tt
  down_more k (suc j) d = (append-kept j d.0, rw (rank_old j (apart j d.0)) d.1)

  link_down : (p : ℕ) → Link (used W) p → Down X (W.header USED) p
  link_down zero l = tt
  link_down (suc j) u =
      (append-kept j u, rw (rank_old j (apart j u)) (used_in W.rows (W.header USED) (λ x. W.cell x RANK) W.list j u).place)

  old_hit : {l lo hi p j : ℕ} → Hit W l lo hi p j → Link (used W) p → Hit X l lo hi p j
  old_hit r u = hit_frame W X index.nexts (λ j u. refl) (λ j u. refl) (λ j u. refl) (λ j u. next_old j (apart j u)) r u

  -- a used row of before is found
  found_old : (j : ℕ) → used W j ≡ true → Hit X (W.cell j LEVEL) (W.cell j LOW) (W.cell j HIGH) (live (used X) (X.head (key_of W j))) j
  found_old j u =
      let f = index.found j u in
      let r : Hit X (W.cell j LEVEL) (W.cell j LOW) (W.cell j HIGH) (live (used W) (W.head (key_of W j))) j = old_hit f
      (live_link (used W) (W.head (key_of W j))) in
      by_cases (ℕ_discrete (key_of W j) (key_of W i))
      (λ e.
      let q : Hit X (W.cell j LEVEL) (W.cell j LOW) (W.cell j HIGH) (X.cell i NEXT) j = rw next-new (rw e at r) in
      rw (e, head-new, live-used (used X) i append-used)
      (skip (λ h. alone j u (record { level = sym h.level; low = sym h.low; high = sym h.high })) q))
      (λ n. rw (head_old (key_of W j) n, live_more (used W) (used X) append-kept (W.head (key_of W j)) f) r)

  pub append-index : Index X
  append-index = record {
    nexts = λ j u. by_cases (ℕ_discrete j i)
        (λ e. rw (e, rank_new, next-new) (link_down (live (used W) (W.head (key_of W i))) (live_link (used W) (W.head (key_of W i)))))
        (λ n. rw (rank_old j n, next_old j n) (down_more (W.cell j RANK) (W.cell j NEXT) (index.nexts j (append-only j u n))));
    found = λ j u. by_cases (ℕ_discrete j i)
        (λ e. rw (e, head-new, live-used (used X) i append-used) (stop (record { level = refl; low = refl; high = refl })))
        (λ n. found_old j (append-only j u n));
  }

-- the steps of `append`
pub append-by : (W : View) (i : ℕ) {W₁ W₂ W₃ W₄ W₅ : View} {b f u : ℕ} → b ≡ key_of W i → f ≡ live (used W) (W.head b) → u ≡ W.header USED
    → W₁ ≡ put_cell W i NEXT f → W₂ ≡ put_cell W₁ i RANK u → W₃ ≡ put_list W₂ u i → W₄ ≡ put_head W₃ b (i + 1) → W₅ ≡ put_header W₄ USED (u + 1)
    → W₅ ≡ appended W i
append-by W i eb ef eu e₁ e₂ e₃ e₄ e₅ = rw (e₅, e₄, e₃, e₂, e₁, ef, eb, eu)
