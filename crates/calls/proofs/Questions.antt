-- NODE, MEMBER and COUNT: from what is read and found to the questions' contracts. Assumes nothing.
use mathlib.Core.Path.{◌≡◌, refl, ap, sym, ◌∙◌, subst}
use mathlib.Core.Bool.{Bool, true}
use mathlib.Core.Logic.{◌≢◌, by_cases}
use mathlib.Core.List.{List}
use mathlib.Core.Option.{none, some}
use Prim.Native.Nat.{ℕ, suc, ◌+◌, ◌-◌, ◌*◌, ◌/◌, ◌%◌, ◌^◌, ◌≤◌, ◌<◌}
use native.Mathlib.Omega.{arith}
use native.Mathlib.Nat.{div-add-mod', mod-lt, div-eq_of_lt}
use native.Mathlib.Decide.{dec_lt}
use lib.Pow.{pow_pos}
use Rattle.mucalculus.specs.Order.{weight}
use Rattle.diagram.specs.Rows.{den}
use Rattle.layout.specs.Places.{REGISTERS, BITS, ROWS, FIRST_REGISTER}
use Rattle.layout.specs.View.{view, header_of}
use Rattle.rows.specs.Used.{rows_of}
use Rattle.rows.proofs.Roots.{ref-arrow}
use Rattle.rows.specs.Sound.{table_of}
use Rattle.collect.proofs.Answers.{sound-base}
use Rattle.states.specs.Walk.{WalkPre}
use Rattle.book.specs.States.{pair_val}
use Rattle.book.specs.Bridge.{set_of}
use Rattle.book.specs.Book.{Question, node, member, count, one_of, refused}
use Rattle.book.specs.Table.{Reply, Shows, Tells}
use Rattle.book.specs.BookOf.{book_of}
use Rattle.book.proofs.BookOf.{whole-book_of}
use Rattle.book.specs.Leaves.{plain, valued}
use Rattle.book.proofs.Questions as book
use Rattle.contract.specs.Seen.{arrow_in, seen, SoundWords}
use Rattle.contract.proofs.Seen.{sound-table, sound-shows-book}
use Rattle.contract.specs.Posts.{AskPost}
use Rattle.contract.proofs.Checked.{ask-refused}

-- a state is below 2^n exactly if nothing is left of it after n bits
pub state_out : (s n : ℕ) → s / 2 ^ n ≢ 0 → 2 ^ n ≤ s
state_out s n h = by_cases (dec_lt s (2 ^ n)) (λ l. absurd (h (div-eq_of_lt l))) (λ g. omega arith)

pub state_in : (s n : ℕ) → s / 2 ^ n ≡ 0 → s < 2 ^ n
state_in s n e =
    let p : 0 < 2 ^ n = pow_pos n in
    let d = div-add-mod' s (2 ^ n) in
    let m = mod-lt s p in
    subst (λ (q : ℕ). q * 2 ^ n + s % 2 ^ n ≡ s → s < 2 ^ n) (sym e) (λ z. omega arith) d

module _ (ws : List ℕ) (s : SoundWords ws) where
  -- what a sound table tells
  told : (q : Question) (y : Reply) → Tells (book_of (seen ws)) q (seen ws).reg y → AskPost q ws y
  told q y t = record { same = refl; unsound = λ n. absurd (n s); told = λ _. t }

  shows : Shows (book_of (seen ws)) (seen ws)
  shows = sound-shows-book ws s

  module _ (r : ℕ) where
    -- 3: "register, relation or state number out of range"
    pub node-range : REGISTERS ≤ r → AskPost (node r) ws (plain 3)
    node-range l = ask-refused ws s 2 (node r) (book.node-range (book_of (seen ws)) r l)

    pub count-range : REGISTERS ≤ r → AskPost (count r) ws (plain 3)
    count-range l = ask-refused ws s 2 (count r) (book.count-range (book_of (seen ws)) r l)

    pub member-range : (u : ℕ) → REGISTERS ≤ r → AskPost (member r u) ws (plain 3)
    member-range u l = ask-refused ws s 2 (member r u) (book.register-range r u (2 ^ header_of ws BITS) _ (refused 3) l)

    -- n as it was read
    module _ {n : ℕ} (en : n ≡ header_of ws BITS) where
      pub member_out : (u : ℕ) → r < REGISTERS → u / 2 ^ n ≢ 0 → AskPost (member r u) ws (plain 3)
      member_out u l h =
          ask-refused ws s 2 (member r u)
          (book.state-range r u (2 ^ header_of ws BITS) _ (refused 3) l (subst (λ (k : ℕ). 2 ^ k ≤ u) en (state_out u n h)))

    -- the register's word, as it was read
    module _ (l : r < REGISTERS) {x : ℕ} (ex : x ≡ header_of ws (FIRST_REGISTER + r)) where
      -- 7: "register or relation named is empty"
      empty : x ≡ 0 → (seen ws).reg r ≡ none
      empty z = ap arrow_in (sym ex ∙ z)

      pub node-empty : x ≡ 0 → AskPost (node r) ws (plain 7)
      node-empty z = ask-refused ws s 6 (node r) (book.node-empty (book_of (seen ws)) (seen ws) r shows l (empty z))

      pub count-empty : x ≡ 0 → AskPost (count r) ws (plain 7)
      count-empty z = ask-refused ws s 6 (count r) (book.count-empty (book_of (seen ws)) (seen ws) r shows l (empty z))

      pub member-empty : {n : ℕ} → n ≡ header_of ws BITS → (u : ℕ) → u / 2 ^ n ≡ 0 → x ≡ 0 → AskPost (member r u) ws (plain 7)
      member-empty {n} en u h z = ask-refused ws s 6 (member r u)
          (book.member-empty (book_of (seen ws)) (seen ws) r shows l (empty z) u (subst (λ (k : ℕ). u < 2 ^ k) en (state_in u n h)))

      module _ (f : x ≢ 0) where
        holds : (seen ws).reg r ≡ some (x - 1)
        holds = let e : header_of ws (FIRST_REGISTER + r) ≡ suc (x - 1) = omega arith in ap arrow_in e

        -- NODE
        pub node-told : AskPost (node r) ws (valued (x - 1))
        node-told =
            told (node r) (valued (x - 1))
            (book.node-tells (book_of (seen ws)) (seen ws) r (x - 1) shows l holds (whole-book_of (seen ws) (sound-table (table_of ws) s)))

        -- what `walk` and `count_states` ask
        pub walk-pre : {rows : ℕ} → rows ≡ header_of ws ROWS → WalkPre (view rows ws) (x - 1)
        walk-pre er = rw er (record {
          mark = record {
            base = sound-base s;
            arrow = ref-arrow (rows_of (table_of ws)) x f (rw ex (s.refs (FIRST_REGISTER + r) (omega arith) (omega arith)));
          };
          bits = s.good.sizes.n_max;
          evens = s.even (FIRST_REGISTER + r) (omega arith) (omega arith) (x - 1) (omega arith);
        })

        -- MEMBER
        pub member-told : {n rows : ℕ} → n ≡ header_of ws BITS → rows ≡ header_of ws ROWS → (u : ℕ) → u / 2 ^ n ≡ 0 → (b : Bool) {t : Bool}
            → t ≡ den (2 * header_of ws BITS) (rows_of (view rows ws)) (x - 1) (pair_val u 0) → t ≡ b
            → AskPost (member r u) ws (valued (one_of b))
        member-told {n} en er u h b e q =
            let v : one_of b
            ≡ one_of (den (2 * header_of ws BITS) (rows_of (table_of ws)) (x - 1) (pair_val u 0)) = ap one_of (sym q ∙ (rw er at e)) in
            rw v (told (member r u) _
            (book.member-tells (book_of (seen ws)) (seen ws) r (x - 1) shows l holds u
            (subst (λ (k : ℕ). u < 2 ^ k) en (state_in u n h))))

        -- COUNT
        pub count-told : {n rows k : ℕ} → n ≡ header_of ws BITS → rows ≡ header_of ws ROWS
            → k ≡ weight true (set_of n (den (2 * n) (rows_of (view rows ws)) (x - 1))) → AskPost (count r) ws (valued k)
        count-told en er e =
            rw (rw (en, er) at e)
            (told (count r) _
            (book.count-tells (book_of (seen ws)) (seen ws) r (x - 1) shows l holds
            (whole-book_of (seen ws) (sound-table (table_of ws) s))))
