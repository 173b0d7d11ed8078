-- The second call's contract from its checks, and from what follows them. Assumes nothing.
use mathlib.Core.Path.{◌≡◌, refl, sym, ap, ◌∙◌, subst}
use mathlib.Core.Logic.{◌≢◌}
use mathlib.Core.Bool.{Bool, true, false, ◌&&◌}
use mathlib.Core.List.{List}
use Prim.Native.Nat.{ℕ, suc, ◌+◌, ◌-◌, ◌*◌, ◌%◌, ◌^◌, ◌≤◌, ◌<◌}
use native.Mathlib.Omega.{arith}
use lib.Dec.{T, ltb, ltb→lt, lt→ltb}
use Rattle.accounts.specs.declared.Terms.{Terms}
use Rattle.accounts.specs.Terms.{named}
use Rattle.mucalculus.specs.Form.{filled as has_content}
use Rattle.mucalculus.proofs.Sets.{true_of, false_of, and_in, and_out}
use Rattle.layout.specs.Refusals.{keeps_all}
use Rattle.layout.specs.Places.{BITS, FIRST_REGISTER, FIRST_RELATION}
use Rattle.layout.specs.View.{View, header_of}
use Rattle.diagram.specs.Keep.{Keeps}
use Rattle.diagram.proofs.Keep.{keeps_refl}
use Rattle.rows.specs.Used.{rows_of}
use Rattle.rows.specs.Sound.{Sound, table_of}
use Rattle.rows.proofs.Filled.{filled-arrow}
use Rattle.book.specs.Book.{registers, relations, reg_filled, rel_filled, collect}
use Rattle.book.specs.Ticks.{Verdict, counted, full, spent}
use Rattle.book.specs.Table.{Reply, roots_of}
use Rattle.book.specs.BookOf.{book_of}
use Rattle.book.specs.Leaves.{plain}
use Rattle.contract.specs.Seen.{seen, SoundWords}
use Rattle.contract.proofs.Checked.{kept-refused}
use Rattle.contract.proofs.Roots.{root-filled}
use Rattle.formula_steps.proofs.After.{register-is, relation-is, same-table, rows-kept, words-kept, same-book}
use Rattle.seek.proofs.Search.{power_fits}
use Rattle.games.specs.Call.{numbers_in_range, game_verdict, all_filled, verdict_reply, reacts}
use Rattle.games.proofs.Call.{ranges_out, near, reacts_three, reacts_unlisted, reacts-empty, reacts-verdict}
use Rattle.game_calls.specs.Reacting.{NamedPre, ReactingPre, Reacting}
use Rattle.game_calls.specs.Post.{ReactPost}

-- how many states there are, as the code has it
pub states-is : (bits n : ℕ) → bits ≡ n → n ≤ 16 → 1 * 2 ^ bits % 4_294_967_296 ≡ 2 ^ n
states-is bits n e l = power_fits bits (omega arith) ∙ ap (λ (m : ℕ). 2 ^ m) e

-- ---- refusals by the checks

module _ (acc : Terms) (R goal guest machine s t : ℕ) (ws : List ℕ) where
  -- CHECK 2
  pub react-unsound : (SoundWords ws → ⊥) → ReactPost acc R goal guest machine s t ws ws (plain 2)
  react-unsound n =
      record {
        unsound = λ _. ((refl, refl, refl, refl), refl);
        told = λ w. absurd (n w);
        book = refl;
        kept = kept-refused collect 1 ws;
      }

  module _ (w : SoundWords ws) where
    -- what the book answers, with no word changed
    pub react-stays : {y : Reply} → reacts (book_of (seen ws)) goal guest machine acc R s t ≡ y
        → ReactPost acc R goal guest machine s t ws ws y
    react-stays e = record {
      unsound = λ n. absurd (n w);
      told = λ _. record {
        reply = sym e;
        sound = w;
        rows = keeps_refl w.good.rows (λ r m. filled-arrow w r (root-filled (table_of ws) w.valid r m));
      };
      book = refl;
      kept = record { all = λ _. refl; size = refl; header = λ h l i. refl; spare = λ i l. refl; beyond = λ p l. refl; exact = tt };
    }

    -- CHECK 3
    pub react-range : numbers_in_range goal guest machine ≡ false → ReactPost acc R goal guest machine s t ws ws (plain 3)
    react-range e =
        react-stays (reacts_three (book_of (seen ws)) acc R goal guest machine s t
        (ap (λ (b : Bool). b && (ltb s (2 ^ header_of ws BITS) && ltb t (2 ^ header_of ws BITS))) e))

    module _ {states : ℕ} (es : states ≡ 2 ^ header_of ws BITS) where
      far : (near (book_of (seen ws)) acc R goal guest machine s t ≡ true → ⊥) → ReactPost acc R goal guest machine s t ws ws (plain 3)
      far h =
          react-stays (reacts_three (book_of (seen ws)) acc R goal guest machine s t
          (false_of (near (book_of (seen ws)) acc R goal guest machine s t) (λ p. h (true_of (near (book_of
          (seen ws)) acc R goal guest machine s t) p))))

      parts : near (book_of (seen ws)) acc R goal guest machine s t ≡ true → (s < states) × (t < states)
      parts e =
          let x = and_out (numbers_in_range goal guest machine) _ (subst T (sym e) tt) in
          let y = and_out (ltb s (2 ^ header_of ws BITS)) _ x.1 in
          let i = ltb→lt s (2 ^ header_of ws BITS) y.0 in
          let j = ltb→lt t (2 ^ header_of ws BITS) y.1 in
          (omega arith, omega arith)

      pub react-state : states ≤ s → ReactPost acc R goal guest machine s t ws ws (plain 3)
      react-state l = far (λ e. let h = (parts e).0 in omega arith)

      pub react-press : states ≤ t → ReactPost acc R goal guest machine s t ws ws (plain 3)
      react-press l = far (λ e. let h = (parts e).1 in omega arith)

      module _ (r : numbers_in_range goal guest machine ≡ true) (ls : s < states) (lt : t < states) where
        abbrev k : ℕ
        k = 2 ^ header_of ws BITS

        is_near : near (book_of (seen ws)) acc R goal guest machine s t ≡ true
        is_near =
            true_of (near (book_of (seen ws)) acc R goal guest machine s t)
            (and_in (numbers_in_range goal guest machine) _ (subst T (sym r) tt)
            (and_in (ltb s k) _ (lt→ltb s k (omega arith)) (lt→ltb t k (omega arith))))

        -- CHECK 14
        pub react_unlisted : named acc ≡ false → ReactPost acc R goal guest machine s t ws ws (plain 14)
        react_unlisted e = react-stays (reacts_unlisted (book_of (seen ws)) acc R goal guest machine s t is_near e)

        module _ (l : named acc ≡ true) where
          pub react-passes : NamedPre acc ws goal guest machine s t
          react-passes = record { sound = w; ranges = r; state = omega arith; press = omega arith; listed = l }

          -- CHECK 7
          empty : (all_filled (book_of (seen ws)) goal guest machine ≡ true → ⊥) → ReactPost acc R goal guest machine s t ws ws (plain 7)
          empty h =
              react-stays (reacts-empty (book_of (seen ws)) acc R goal guest machine s t is_near l
              (false_of (all_filled (book_of (seen ws)) goal guest machine) (λ p. h (true_of (all_filled (book_of
              (seen ws)) goal guest machine) p))))

          -- all are filled only if each is
          each : all_filled (book_of (seen ws)) goal guest machine ≡ true
              → T (has_content ((book_of (seen ws)).reg goal)) × T (has_content ((book_of (seen ws)).rel guest))
              × T (has_content ((book_of (seen ws)).rel machine))
          each e =
              let x = and_out (reg_filled (book_of (seen ws)) goal) _ (subst T (sym e) tt) in
              let y = and_out (rel_filled (book_of (seen ws)) guest) _ x.1 in (
                (and_out (ltb goal registers) _ x.0).1,
                (and_out (ltb guest relations) _ y.0).1,
                (and_out (ltb machine relations) _ y.1).1,
              )

          pub react-goal : {x : ℕ} → x ≡ header_of ws (FIRST_REGISTER + goal) → x ≡ 0 → ReactPost acc R goal guest machine s t ws ws
              (plain 7)
          react-goal e z = empty (λ h.
              subst T (ap has_content (register-is ws (ranges_out goal guest machine r).goal_in (sym z ∙ e))) (each h).0)

          pub react-guest : {x : ℕ} → x ≡ header_of ws (FIRST_RELATION + guest) → x ≡ 0 → ReactPost acc R goal guest machine s t ws ws
              (plain 7)
          react-guest e z = empty (λ h.
              subst T (ap has_content (relation-is ws (ranges_out goal guest machine r).guest_in (sym z ∙ e))) (each h).1)

          pub react-machine : {x : ℕ} → x ≡ header_of ws (FIRST_RELATION + machine) → x ≡ 0
              → ReactPost acc R goal guest machine s t ws ws (plain 7)
          react-machine e z = empty (λ h.
              subst T (ap has_content (relation-is ws (ranges_out goal guest machine r).machine_in (sym z ∙ e))) (each h).2)

          -- ---- and then the rounds

          module _ {x y z : ℕ} (ex : x ≡ header_of ws (FIRST_REGISTER + goal)) (ey : y ≡ header_of ws (FIRST_RELATION + guest))
              (ez : z ≡ header_of ws (FIRST_RELATION + machine)) (fx : x ≢ 0) (fy : y ≢ 0) (fz : z ≢ 0) where
            pub react-asks : ReactingPre ws goal guest machine (x - 1) (y - 1) (z - 1) s t
            react-asks =
                let i = ranges_out goal guest machine r in
                record {
                  sound = w;
                  goal_in = i.goal_in;
                  guest_in = i.guest_in;
                  machine_in = i.machine_in;
                  goal-is = omega arith;
                  guest-is = omega arith;
                  machine-is = omega arith;
                  state = omega arith;
                  press = omega arith;
                }

            filled : all_filled (book_of (seen ws)) goal guest machine ≡ true
            filled =
                let i = ranges_out goal guest machine r in
                let qx : suc (x - 1) ≡ header_of ws (FIRST_REGISTER + goal) = omega arith in
                let qy : suc (y - 1) ≡ header_of ws (FIRST_RELATION + guest) = omega arith in
                let qz : suc (z - 1) ≡ header_of ws (FIRST_RELATION + machine) = omega arith in
                true_of (all_filled (book_of (seen ws)) goal guest machine)
                (and_in (reg_filled (book_of (seen ws)) goal) _
                (and_in (ltb goal registers) _ (lt→ltb goal registers i.goal_in)
                (subst T (sym (ap has_content (register-is ws i.goal_in qx))) tt))
                (and_in (rel_filled (book_of (seen ws)) guest) _
                (and_in (ltb guest relations) _ (lt→ltb guest relations i.guest_in)
                (subst T (sym (ap has_content (relation-is ws i.guest_in qy))) tt))
                (and_in (ltb machine relations) _ (lt→ltb machine relations i.machine_in)
                (subst T (sym (ap has_content (relation-is ws i.machine_in qz))) tt))))

            -- what the rounds end with is none of the checks' numbers
            late : (v : Verdict) (ok : Bool) (u : ℕ) → T (keeps_all (verdict_reply v ok u).number) → ⊥
            late full ok u h = h
            late spent ok u h = h
            late (counted q) true u h = h
            late (counted q) false u h = h

            pub react-ends : (new : List ℕ) {a : Reply} → Reacting acc R goal guest machine s t ws new a
                → ReactPost acc R goal guest machine s t ws new a
            react-ends new {a} d =
                let n : T (keeps_all a.number)
                → ⊥ = λ h. late (game_verdict (book_of (seen ws)) goal guest machine acc R) _ _
                (subst (λ (u : Reply). T (keeps_all u.number)) d.reply h) in
                record {
                  unsound = λ g. absurd (g w);
                  told = λ _. record {
                    reply = d.reply ∙ sym (reacts-verdict (book_of (seen ws)) acc R goal guest machine s t is_near l filled);
                    sound = subst Sound (sym (same-table ws new a w d.sound d.frame d.kept)) d.sound;
                    rows = subst (λ (u : View). Keeps (seen ws).rows (rows_of u) (roots_of (seen ws)))
                        (sym (same-table ws new a w d.sound d.frame d.kept))
                        (rows-kept ws new a w d.sound d.frame d.kept);
                  };
                  book = same-book ws new a w d.sound d.frame d.kept;
                  kept = words-kept ws new a w d.sound d.frame d.kept n;
                }
