-- The roots in the header's words are the roots of the table as the book sees it. Assumes nothing.
use mathlib.Core.Path.{◌≡◌, ap, ◌∙◌}
use mathlib.Core.Logic.{⊎_elim, by_cases, ◌≢◌}
use mathlib.Core.List.Memᴰ.{cases_cons as mem-cases}
use mathlib.Core.List.Memᴰ.{head as here}
use mathlib.Core.List.Memᴰ.{tail as there}
use mathlib.Core.List.{Memᴰ as Mem}
use mathlib.Core.List.Memᴰ.{append_cases}
use mathlib.Core.List.Memᴰ.{append_left as mem-left}
use mathlib.Core.List.Memᴰ.{append_right as mem-right}
use mathlib.Core.Option.{some}
use Prim.Native.Nat.{ℕ, suc, ◌+◌, ◌-◌}
use native.Mathlib.Omega.{arith}
use native.Mathlib.Decide.{dec_lt}
use Rattle.layout.specs.Places.{VALID, FIRST_REGISTER, FIRST_RELATION}
use Rattle.layout.specs.View.{View}
use Rattle.diagram.specs.Rows.{Rows}
use Rattle.diagram.proofs.Reach.{reached_root, reach-on, reach-from}
use Rattle.diagram.specs.Collect.{Collects}
use Rattle.rows.specs.Used.{rows_of}
use Rattle.rows.specs.Within.{valid_of}
use Rattle.rows.specs.Filled.{filled}
use Rattle.rows.proofs.Filled.{mem-filled, filled-mem}
use Rattle.book.specs.Book.{registers, relations}
use Rattle.book.specs.Table.{arrows_of, roots_of}
use Rattle.book.proofs.Roots.{arrows_of-mem, of_arrows_of}
use Rattle.contract.specs.Seen.{arrow_in, seen_in}
use Rattle.contract.proofs.Seen.{word_of, valid_word}

module _ (W : View) where
  -- the arrow in word start + k, as the book sees it
  seen_at : (start k h a : ℕ) → start + k ≡ h → W.header h ≡ suc a → arrow_in (W.header (start + k)) ≡ some a
  seen_at start k h a e q = ap (λ (x : ℕ). arrow_in (W.header x)) e ∙ ap arrow_in q

  -- the arrow in V's word
  valid-at : (h a : ℕ) → VALID ≡ h → W.header h ≡ suc a → a ≡ valid_of W
  valid-at h a e q = let x = ap W.header e ∙ q in omega arith

  pub filled_root : (a : ℕ) → Mem a (filled W) → Mem a (roots_of (seen_in W))
  filled_root a m =
      let x = mem-filled W a m in
      let from = x.from in
      let below = x.below in
      by_cases (dec_lt x.at FIRST_REGISTER) (λ l. here (valid-at x.at a (omega arith) x.holds)) (λ k. there (
      by_cases (dec_lt x.at FIRST_RELATION)
      (λ l. mem-left {s = arrows_of registers (seen_in W).reg} (arrows_of relations (seen_in W).rel)
      (arrows_of-mem registers (seen_in W).reg (x.at - FIRST_REGISTER) a (omega arith)
      (seen_at FIRST_REGISTER (x.at - FIRST_REGISTER) x.at a (omega arith) x.holds)))
      (λ n. mem-right (arrows_of registers (seen_in W).reg)
      (arrows_of-mem relations (seen_in W).rel (x.at - FIRST_RELATION) a (omega arith)
      (seen_at FIRST_RELATION (x.at - FIRST_RELATION) x.at a (omega arith) x.holds)))))

  module _ (v : W.header VALID ≢ 0) where
    pub root-filled : (a : ℕ) → Mem a (roots_of (seen_in W)) → Mem a (filled W)
    root-filled a m = ⊎_elim
        (λ e. filled-mem W a
        (record { at = VALID; from = omega arith; below = omega arith; holds = let w = valid_word W v in omega arith }))
        (λ x. ⊎_elim
        (λ r. let p = of_arrows_of registers (seen_in W).reg a r in
        let l = p.1 in
        filled-mem W a
        (record {
          at = FIRST_REGISTER + p.0;
          from = omega arith;
          below = omega arith;
          holds = word_of (W.header (FIRST_REGISTER + p.0)) a p.2;
        }))
        (λ r. let p = of_arrows_of relations (seen_in W).rel a r in
        let l = p.1 in
        filled-mem W a
        (record {
          at = FIRST_RELATION + p.0;
          from = omega arith;
          below = omega arith;
          holds = word_of (W.header (FIRST_RELATION + p.0)) a p.2;
        }))
        (append_cases (arrows_of registers (seen_in W).reg) x))
        (mem-cases m)

    -- a collection from the one list is a collection from the other
    pub collects-roots : {rows : Rows} → Collects (rows_of W) rows (filled W) → Collects (rows_of W) rows (roots_of (seen_in W))
    collects-roots c = record {
      kept = c.kept;
      only = λ i u. let (a, m, r) = reach-from (c.only i u) in
          reach-on (reached_root (rows_of W) (roots_of (seen_in W)) a (filled_root a m)) r;
      all = λ i s. let (a, m, r) = reach-from s in c.all i (reach-on (reached_root (rows_of W) (filled W) a (root-filled a m)) r);
    }
