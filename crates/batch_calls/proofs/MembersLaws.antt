-- Each return of `members` meets its contract. Assumes nothing.
use mathlib.Core.Path.{◌≡◌, refl, ap, sym, ◌∙◌, subst}
use mathlib.Core.Logic.{◌≢◌, ⊎_elim}
use mathlib.Core.Bool.{Bool}
use mathlib.Core.List.Memᴰ.{cases_cons as mem-cases}
use mathlib.Core.List.Memᴰ.{not-nil as mem-nil}
use mathlib.Core.List.{List, [], ◌∷◌, map, Memᴰ as Mem}
use mathlib.Core.Option.{none, some}
use Prim.Native.Nat.{ℕ, zero, suc, ◌+◌, ◌-◌, ◌*◌, ◌^◌, ◌≤◌, ◌<◌}
use native.Mathlib.Omega.{arith}
use lib.ListN.{length, get_or, take, drop, length-map, length-drop}
use lib.Seq.{ext_get_or, length-take-le, get_or-take, get_or-drop}
use Rattle.mucalculus.specs.Sets.{mem}
use Rattle.diagram.specs.Rows.{den}
use Rattle.layout.specs.Places.{REGISTERS, BITS, ROWS, FIRST_REGISTER}
use Rattle.layout.specs.View.{view, header_of}
use Rattle.rows.specs.Used.{rows_of}
use Rattle.rows.proofs.Roots.{ref-arrow}
use Rattle.rows.specs.Sound.{table_of}
use Rattle.collect.proofs.Answers.{sound-base}
use Rattle.collect.proofs.Lent.{get_or-mem}
use Rattle.book.specs.States.{pair_val}
use Rattle.book.proofs.States.{now_of-pair_val}
use Rattle.book.specs.Book.{registers, one_of}
use Rattle.book.specs.BookOf.{book_of}
use Rattle.book.proofs.Stored.{some_inj, none-some}
use Rattle.book.specs.Leaves.{plain, valued}
use Rattle.book.proofs.Leaves.{shows-filled}
use Rattle.contract.specs.Seen.{arrow_in, seen, SoundWords}
use Rattle.contract.proofs.Seen.{sound-shows-book}
use Rattle.batch.proofs.Entered.{entered_reads}
use Rattle.batch.proofs.Arrange.{inside-now, stays, kept-after}
use Rattle.batch.specs.Parts.{Segment, Among}
use Rattle.batch.specs.Asked.{AskPre, Asked}
use Rattle.batch_calls.specs.Posts.{Fit, Below, InRange, answers_of, Stands, Answered, BatchPost}
use Rattle.batch_calls.specs.Laid.{Laid}

-- the members of a list stand at its places
mem-at : (ss : List ℕ) (s : ℕ) → Mem s ss → (i : ℕ) × (i < length ss) × (get_or ss i 0 ≡ s)
mem-at [] s m = absurd (mem-nil m)
mem-at (x ∷ xs) s m = ⊎_elim
    (λ e. (0, omega arith, sym e))
    (λ t. let (i, l, e) = mem-at xs s t in (suc i, omega arith, e))
    (mem-cases m)

-- what a list that is made place by place has there
pub map_at : (f : ℕ → ℕ) (ss : List ℕ) (i : ℕ) → i < length ss → get_or (map f ss) i 0 ≡ f (get_or ss i 0)
map_at f [] i l = absurd (omega arith)
map_at f (x ∷ xs) zero l = refl
map_at f (x ∷ xs) (suc i) l = map_at f xs i (omega arith)

-- lists of the same length whose entries from place k on are equal
drop-same : (k : ℕ) (u v : List ℕ) → length u ≡ length v → ((i : ℕ) → k ≤ i → get_or u i 0 ≡ get_or v i 0) → drop k u ≡ drop k v
drop-same k u v size h = ext_get_or 0 (drop k u) (drop k v)
    (length-drop k u ∙ ap (λ (n : ℕ). n - k) size ∙ sym (length-drop k v))
    (λ i l. get_or-drop k u i 0 ∙ h (k + i) (omega arith) ∙ sym (get_or-drop k v i 0))

-- the walk from a register's arrow tells whether the book's set has the state
pub set_walk : {r a : ℕ} (words : List ℕ) → SoundWords words → r < registers → (seen words).reg r ≡ some a
    → (A : List Bool) → (book_of (seen words)).reg r ≡ some A → (u : ℕ) → u < 2 ^ header_of words BITS
    → den (2 * header_of words BITS) (rows_of (table_of words)) a (pair_val u 0) ≡ mem A u
set_walk {r} {a} words s l ea A e u h =
    let (B, is, d) = shows-filled (book_of (seen words)) (seen words) r a (sound-shows-book words s) l ea in
    d.same (pair_val u 0) ∙ ap (mem B) (now_of-pair_val (header_of words BITS) u 0 h) ∙ ap (λ (C : List Bool). mem C u) (some_inj (sym is ∙ e))

-- n as it was read
pub range-is : {n r : ℕ} {states : List ℕ} (words : List ℕ) → n ≡ header_of words BITS → r < REGISTERS → Below n states
    → InRange (header_of words BITS) r states
range-is words e l b = record { register = l; below = rw e at b }

pub range-not : {n r : ℕ} {states : List ℕ} (words : List ℕ) → n ≡ header_of words BITS → (Below n states → ⊥)
    → InRange (header_of words BITS) r states → ⊥
range-not words e n g = n (rw e g.below)

-- a filled register's arrow
filled : (words : List ℕ) (r x : ℕ) → x ≡ header_of words (FIRST_REGISTER + r) → x ≢ 0 → (seen words).reg r ≡ some (x - 1)
filled words r x ex h = let e : header_of words (FIRST_REGISTER + r) ≡ suc (x - 1) = omega arith in ap arrow_in e

module _ {r : ℕ} (words : List ℕ) {states order answers : List ℕ} where
  -- 1
  pub refuse-sizes : (Fit states order answers → ⊥) → BatchPost r words states order order answers answers (plain 1)
  refuse-sizes n = record {
    sizes = λ _. (refl, refl, refl, refl);
    unsound = λ f. absurd (n f);
    range = λ f. absurd (n f);
    empty = λ f. absurd (n f);
    answered = λ f. absurd (n f);
    kept = λ _. (refl, refl);
  }

  module _ (f : Fit states order answers) where
    -- 2
    pub refuse-unsound : (SoundWords words → ⊥) → BatchPost r words states order order answers answers (plain 2)
    refuse-unsound n = record {
      sizes = λ z. absurd (z f);
      unsound = λ _ _. (refl, refl, refl, refl);
      range = λ _ s. absurd (n s);
      empty = λ _ s. absurd (n s);
      answered = λ _ s. absurd (n s);
      kept = λ _. (refl, refl);
    }

    module _ (s : SoundWords words) where
      -- 3
      pub refuse-range : (InRange (header_of words BITS) r states → ⊥) → BatchPost r words states order order answers answers (plain 3)
      refuse-range n = record {
        sizes = λ z. absurd (z f);
        unsound = λ _ z. absurd (z s);
        range = λ _ _ _. (refl, refl, refl, refl);
        empty = λ _ _ z. absurd (n z);
        answered = λ _ _ z. absurd (n z);
        kept = λ _. (refl, refl);
      }

      module _ (g : InRange (header_of words BITS) r states) {x : ℕ} (ex : x ≡ header_of words (FIRST_REGISTER + r)) where
        -- 7
        pub refuse-empty : x ≡ 0 → BatchPost r words states order order answers answers (plain 7)
        refuse-empty z =
            let e : (seen words).reg r ≡ none = ap arrow_in (sym ex ∙ z) in
            record {
              sizes = λ n. absurd (n f);
              unsound = λ _ n. absurd (n s);
              range = λ _ _ n. absurd (n g);
              empty = λ _ _ _ _. (refl, refl, refl, refl);
              answered = λ _ _ _ a q _ _. absurd (none-some (sym e ∙ q));
              kept = λ _. (refl, refl);
            }

        module _ (h : x ≢ 0) where
          -- what the walk asks
          pub ask-pre : {rows k : ℕ} {laid : List ℕ} → rows ≡ header_of words ROWS → k ≡ length states → Laid order laid k
              → length laid ≡ length order
              → AskPre (view rows words) (x - 1) states laid answers 0 k
          ask-pre {rows} {k} {laid} er ek d size =
              let l = g.register in
              let places : (m : ℕ) → k ≤ m → Segment m laid 0 k = λ m b. record {
                ordered = omega arith;
                within = let w = f.order-room in omega arith;
                below = λ i _ j. rw (d.first i j) (omega arith);
              } in
              record {
                walk = rw er (record {
                  mark = record {
                    base = sound-base s;
                    arrow = ref-arrow (rows_of (table_of words)) x h
                        (rw ex (s.refs (FIRST_REGISTER + r) (omega arith) (omega arith)));
                  };
                  bits = s.good.sizes.n_max;
                  evens = s.even (FIRST_REGISTER + r) (omega arith) (omega arith) (x - 1) (omega arith);
                });
                places = places (length states) (omega arith);
                room = places (length answers) (let w = f.answer-room in omega arith);
                few = let w = f.few in omega arith;
                once = λ i j _ il _ jl e. sym (d.first i il) ∙ e ∙ d.first j jl;
              }

          -- ANSWERED, with what was read written out
          module _ {q : ℕ} {laid order' answers' : List ℕ} (d : Laid order laid (length states)) (order-size : length order' ≡ length order)
              (answers-size : length answers' ≡ length answers)
              (c : Asked (table_of words) (x - 1) states laid order' answers answers' 0 (length states) q) where
            -- the entry at place j is where it stood
            entry : (j : ℕ) → j < length states → get_or order' j 0 ≡ c.arranged.was j
            entry j l = c.arranged.moved j ∙ d.first (c.arranged.was j) (c.arranged.inside j (omega arith) l).1

            stands_at : (i : ℕ) → i < length states → Stands order' (length states) i
            stands_at i l =
                let n = inside-now c.arranged i (omega arith) l in
                record {
                  at = c.arranged.now i;
                  below = n.1;
                  is = stays c.arranged i ∙ d.first i l;
                  only = λ j m e. sym (c.arranged.back j) ∙ ap c.arranged.now (sym (entry j m) ∙ e);
                }

            to_mem : (t : ℕ) → Among states laid 0 (length states) t → Mem t states
            to_mem t m =
                let e = ap (λ (p : ℕ). get_or states p 0) (sym (d.first m.at m.last)) ∙ m.is in
                subst (λ (u : ℕ). Mem u states) e (get_or-mem states m.at m.last)

            of_mem : (t : ℕ) → Mem t states → Among states laid 0 (length states) t
            of_mem t m =
                let (i, l, e) = mem-at states t m in
                record { at = i; first = omega arith; last = l; is = ap (λ (p : ℕ). get_or states p 0) (d.first i l) ∙ e }

            -- answer i, by the walk and by the book's set
            walked : (i : ℕ) → i < length states
                → get_or answers' i 0 ≡ one_of (den (2 * header_of words BITS) (rows_of (table_of words)) (x - 1) (pair_val (get_or states i 0) 0))
            walked i l = subst
                (λ (p : ℕ). get_or answers' p 0 ≡ one_of (den (2 * header_of words BITS) (rows_of (table_of words)) (x - 1)
                (pair_val (get_or states p 0) 0)))
                (d.first i l) (c.answered i (omega arith) l)

            by-set : (A : List Bool) → (book_of (seen words)).reg r ≡ some A → (i : ℕ) → i < length states
                → get_or answers' i 0 ≡ one_of (mem A (get_or states i 0))
            by-set A e i l = walked i l ∙ ap one_of (set_walk words s g.register (filled words r x ex h) A e (get_or states i 0)
                (g.below i l))

            all-answered : (A : List Bool) → (book_of (seen words)).reg r ≡ some A
                → Answered (x - 1) A words states order order' answers answers' (valued q)
            all-answered A e = record {
              reply = ap valued (entered_reads states to_mem of_mem c.reads);
              told =
                  let size = length-take-le (length states) answers' (let w = f.answer-room in omega arith) in
                  ext_get_or 0 (take (length states) answers') (answers_of A states)
                  (size ∙ sym (length-map states (λ u. one_of (mem A u))))
                  (λ i l. let m : i < length states = omega arith in
                  get_or-take (length states) answers' i 0 m ∙ by-set A e i m ∙ sym (map_at (λ u. one_of (mem A u)) states i m));
              rest = drop-same (length states) answers' answers answers-size
                  (λ i l. c.kept i (λ p _ m z. let w = d.first p m in omega arith));
              rearranged = record {
                size = order-size;
                each = stands_at;
                places = λ j l. rw (entry j l) (c.arranged.inside j (omega arith) l).1;
                rest = drop-same (length states) order' order order-size (λ i l. kept-after c.arranged i l ∙ d.rest i l);
              };
            }

            answer_at : BatchPost r words states order order' answers answers' (valued q)
            answer_at = record {
              sizes = λ n. absurd (n f);
              unsound = λ _ n. absurd (n s);
              range = λ _ _ n. absurd (n g);
              empty = λ _ _ _ n. absurd (none-some (sym n ∙ filled words r x ex h));
              answered = λ _ _ _ a e A i. subst (λ (b : ℕ). Answered b A words states order order' answers answers' (valued q))
                  (some_inj (sym (filled words r x ex h) ∙ e)) (all-answered A i);
              kept = λ n. absurd (n refl);
            }

          pub answer : {rows k q : ℕ} {laid order' answers' : List ℕ} → rows ≡ header_of words ROWS → k ≡ length states → Laid order laid k
              → length order' ≡ length order → length answers' ≡ length answers → Asked (view rows words) (x - 1) states laid order'
              answers answers' 0 k q
              → BatchPost r words states order order' answers answers' (valued q)
          answer er ek d o a c = answer_at (rw ek at d) o a (rw ek at (rw er at c))
