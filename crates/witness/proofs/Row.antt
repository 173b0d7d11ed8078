-- A row made in a table where none is used, and a collection that frees all rows, V being every state: each with the words that it leaves
-- meets its contract. Assumes nothing.
use mathlib.Core.Path.{◌≡◌, refl, sym, ap, ◌∙◌, subst, fun_ext}
use mathlib.Core.Logic.{by_cases}
use mathlib.Core.Bool.{Bool, true, false, ◌&&◌, true≢false}
use mathlib.Core.List.Memᴰ.{head as here}
use mathlib.Core.List.{List, ◌∷◌}
use Prim.Native.Nat.{ℕ, zero, suc, ◌+◌, ◌*◌, ◌≤◌, ◌<◌}
use native.Mathlib.Omega.{arith}
use native.Mathlib.Decide.{ℕ_discrete}
use lib.ListN.{length, set as write}
use borrow.Author.Tests.{ne_eqb}
use Rattle.accounts.specs.declared.Terms.{Terms}
use Rattle.accounts.specs.Terms.{rows_under, rounds_under}
use Rattle.accounts.specs.Count.{nothing, needing}
use Rattle.mucalculus.specs.Form.{Form, now}
use Rattle.tokens.specs.declared.Kind.TheVariants.{Set}
use Rattle.layout.specs.Places.{REGISTERS, BITS, ROWS, USED, CURSOR, VALID, ALL_STATES, FIRST_REGISTER, ROOTS_END, LOW, HIGH, LEVEL, NEXT}
use Rattle.layout.specs.Places.{RANK, MEMO_KEY, words_for, cells_at, list_at, heads_at}
use Rattle.layout.specs.View.{View, view, header_of, put_header, put_cell, put_list, put_head}
use Rattle.layout.proofs.Arrows.{row-no}
use Rattle.mucalculus.specs.Means.{exist}
use Rattle.diagram.specs.Level.{Fn, Val}
use Rattle.diagram.specs.Used.{used_count}
use Rattle.diagram.specs.Rows.{target, den, WellFormed}
use Rattle.diagram.proofs.Den.{den-one}
use Rattle.diagram.specs.Need.{step_need}
use Rattle.diagram.specs.Post.{at, added-row, Making, turned}
use Rattle.diagram.proofs.Grow.{extends_refl, same_refl}
use Rattle.diagram.specs.Reach.{Reach, root, by-low, by_high}
use Rattle.diagram.proofs.Recur.{bit-made}
use Rattle.diagram.specs.Step.{StepPost, few-used}
use Rattle.diagram.proofs.Step.{step-first}
use Rattle.diagram.specs.Steps.{bit_f, and_f}
use Rattle.rows.specs.Used.{used, rows_of}
use Rattle.rows.proofs.Used.{used_in, used-no, arrow_constant}
use Rattle.rows.proofs.MarkLaws.{reaches_used}
use Rattle.rows.specs.Roots.{Ref, Held as RootHeld}
use Rattle.rows.specs.Within.{valid_of}
use Rattle.rows.proofs.Within.{within_all}
use Rattle.rows.specs.Index.{bucket, live}
use Rattle.rows.proofs.Index.{bucket-lt, live-not, live-zero}
use Rattle.rows.specs.Sound.{Good, Sound, table_of}
use Rattle.rows.specs.Filled.{filled}
use Rattle.rows.proofs.Filled.{mem-filled}
use Rattle.table.proofs.AddLaws.{frame_trans, frame-written, frame-append, written, row_added, added-adds, added-good}
use Rattle.table.proofs.AppendLaws.{append-by}
use Rattle.table.proofs.Count.{count-used}
use Rattle.table.specs.Find.{Absent}
use Rattle.collect.specs.Answers.{CollectPost}
use Rattle.collect.specs.Freed.{Freed}
use Rattle.collect.proofs.Freed.{freed-count}
use Rattle.book.proofs.Bridge.{fn_of-clip}
use Rattle.book.specs.Book.{Book, set, collect, model_of, live_of, checks, formula_in}
use Rattle.book.specs.Table.{roots_of}
use Rattle.book.specs.Leaves.{valued}
use Rattle.book.proofs.Held.{denotes-same, held-arrow, held-push, held_keeps, held-need}
use Rattle.book.specs.Held.{Held}
use Rattle.book.specs.Follow.{ends}
use Rattle.book.proofs.Follow.{evals-bit}
use Rattle.book.specs.BookOf.{book_of}
use Rattle.book.proofs.Formulas.{set_reply}
use Rattle.contract.specs.Seen.{seen, SoundWords}
use Rattle.contract.specs.Posts.{CallPost}
use Rattle.operations.specs.Work.{OpFrame}
use Rattle.operations.proofs.Work.{op_made}
use Rattle.calls.proofs.Changes.{collect-done}
use Rattle.formula_steps.specs.Evaluated.{register_stored, as_it_was}
use Rattle.formula_steps.proofs.Ends.{set_value, through-done}
use Rattle.witness.proofs.Words.{Viewed, viewed, put_header_lem, put_cell_lem, put_list_lem, put_head_lem, stored_in}
use Rattle.witness.proofs.Made.{held, Ends, Roomy, unlimited, has-valid, unused}

-- ---- the words

-- row 0 gets its level and arrows and remembers nothing; the search for an unused row starts behind it
unfoldable pub row_put_in : List ℕ → ℕ → ℕ → ℕ → List ℕ
row_put_in ws l lo hi =
    write (write (write (write (write ws CURSOR 1) (cells_at 0 + LOW) lo) (cells_at 0 + HIGH) hi) (cells_at 0 + LEVEL) l)
    (cells_at 0 + MEMO_KEY) 0

-- it is the only one in its chain, in the list of used rows, and in bucket b
unfoldable pub joined_in : ℕ → List ℕ → ℕ → List ℕ
joined_in N ws b =
    write (write (write (write (write ws (cells_at 0 + NEXT) 0) (cells_at 0 + RANK) 0) (list_at N + 0) 0) (heads_at N + b) 1) USED 1

-- register r holds bit p by that row: "the high arrow of a row never does" carry a NOT, so it is the row of the complement, low arrow
-- everything and high arrow nothing, and arrow 3 leads to it with a NOT
unfoldable pub bit_in : ℕ → List ℕ → ℕ → ℕ → ℕ → List ℕ
bit_in N ws b r p = stored_in (joined_in N (row_put_in ws (2 * p) 1 0) b) r 3

-- no row is used, and bucket 0 is empty
unfoldable pub freed_in : ℕ → List ℕ → List ℕ
freed_in N ws = write (write ws USED 0) (heads_at N + 0) 0

-- no link counts where no row is used
live-none : (u : ℕ → Bool) → ((i : ℕ) → u i ≡ false) → (p : ℕ) → live u p ≡ 0
live-none u n zero = live-zero u
live-none u n (suc j) = live-not u j (n j)

module _ (W : View) (none : W.header USED ≡ 0) where
  no_row : (i : ℕ) → used W i ≡ false
  no_row i = used-no _ _ _ _ i (λ q. let p = q.place in absurd (omega arith))

  -- the first row added
  abbrev joined : ℕ → ℕ → ℕ → ℕ → View
  joined b l lo hi = put_header (put_head (put_list (put_cell (put_cell (written W 0 l lo hi) 0 NEXT 0) 0 RANK 0) 0 0) b 1) USED 1

  joined_is : (b l lo hi : ℕ) → b ≡ bucket W.rows l lo hi → joined b l lo hi ≡ row_added W 0 l lo hi
  joined_is b l lo hi e =
      append-by (written W 0 l lo hi) 0 e (sym (live-none (used W) no_row (W.head b))) (sym none) refl refl refl refl refl

view-row : (N b l lo hi : ℕ) (ws : List ℕ) → words_for N ≤ length ws → header_of ws USED ≡ 0 → b ≡ bucket N l lo hi → b < N
    → Viewed N (joined_in N (row_put_in ws l lo hi) b) (row_added (view N ws) 0 l lo hi)
unfolding row_put_in joined_in
view-row N b l lo hi ws room none e i =
    let v₁ = put_header_lem (viewed room) CURSOR 1 (omega arith) in
    let v₂ = put_cell_lem v₁ 0 LOW lo (omega arith) (omega arith) in
    let v₃ = put_cell_lem v₂ 0 HIGH hi (omega arith) (omega arith) in
    let v₄ = put_cell_lem v₃ 0 LEVEL l (omega arith) (omega arith) in
    let v₅ = put_cell_lem v₄ 0 MEMO_KEY 0 (omega arith) (omega arith) in
    let v₆ = put_cell_lem v₅ 0 NEXT 0 (omega arith) (omega arith) in
    let v₇ = put_cell_lem v₆ 0 RANK 0 (omega arith) (omega arith) in
    let v₈ = put_list_lem v₇ 0 0 (omega arith) in
    let v₉ = put_head_lem v₈ b 1 i in
    let v = put_header_lem v₉ USED 1 (omega arith) in
    record { room = v.room; is = v.is ∙ joined_is (view N ws) none b l lo hi e }

-- register r holds bit p
abbrev pub bit_stored : View → ℕ → ℕ → View
bit_stored W r p = register_stored (row_added W 0 (2 * p) 1 0) r 3

pub view-bit : (N b r p : ℕ) (ws : List ℕ) → words_for N ≤ length ws → header_of ws USED ≡ 0 → 0 < N → b ≡ bucket N (2 * p) 1 0
    → r < REGISTERS
    → Viewed N (bit_in N ws b r p) (bit_stored (view N ws) r p)
unfolding bit_in stored_in
view-bit N b r p ws room none some e l =
    put_header_lem (view-row N b (2 * p) 1 0 ws room none e (let i = bucket-lt N (2 * p) 1 0 some in omega arith)) (FIRST_REGISTER + r) 4
    (omega arith)

pub view-freed : (N : ℕ) (ws : List ℕ) → words_for N ≤ length ws → 0 < N
    → Viewed N (freed_in N ws) (put_head (put_header (view N ws) USED 0) 0 0)
unfolding freed_in
view-freed N ws room some = put_head_lem (put_header_lem (viewed room) USED 0 (omega arith)) 0 0 some

-- ---- set r to bit p where no row is used

module _ (old : List ℕ) (s : SoundWords old) (none : header_of old USED ≡ 0) (every : header_of old VALID ≡ ALL_STATES)
    (p : ℕ) (low : p < header_of old BITS) where
  abbrev W : View
  W = table_of old

  abbrev X : View
  X = row_added W 0 (2 * p) 1 0

  absent : Absent W (2 * p) 1 0
  absent j u h = unused old none j u

  room : 0 < W.rows
  room = s.good.sizes.N_pos

  grown : Good X
  grown = added-good W 0 (2 * p) 1 0 s.good room (no_row W none 0) absent
      (record { shallow = omega arith; low-arrow = tt; high-arrow = tt; low_deeper = omega arith; high_deeper = omega arith }) (omega arith)
      refl

  frame : OpFrame W X
  frame = op_made (frame_trans (frame-written W 0 (2 * p) 1 0) (frame-append (written W 0 (2 * p) 1 0) 0))

  made : Making (2 * W.header BITS) W.rows W.rows (rows_of W) (rows_of X) (2 * p) 0 1 (at 3)
  made = turned refl
      (added-row 0 room (omega arith) (added-adds W 0 (2 * p) 1 0 s.good room (no_row W none 0) absent)
      (λ j u _ _ _. unused old none j u)) refl

  few : used_count (rows_of X) W.rows ≤ W.rows
  few = let c = count-used X grown.ranked in let l = grown.ranked.count-le in omega (arith, c, l)

  step : StepPost (2 * W.header BITS) W.rows W.rows (rows_of W) (rows_of X) (roots_of (seen old)) (at 3) (bit_f (2 * p))
  step = step-first (roots_of (seen old)) s.good.rows (held-arrow (held old s)) (bit-made s.good.rows (omega arith) made)
      (few-used few (same_refl (rows_of X)))

  abbrev b : Book
  b = book_of (seen old)

  -- its AND with V, which is every state, makes no row
  abbrev m : ℕ
  m = 2 * W.header BITS

  abbrev w : ℕ
  w = (seen old).valid

  abbrev both : Fn
  both = and_f (den m (rows_of X) 3) (den m (rows_of X) w)

  and-true : (x y : Bool) → y ≡ true → x ≡ (x && y)
  and-true true y e = sym e
  and-true false y e = refl

  both-bit : both ≡ bit_f (2 * p)
  both-bit = fun_ext (λ v. sym (and-true (den m (rows_of X) 3 v) (den m (rows_of X) w v) (all_true v)) ∙ step.result.0.same v)
    where
      all_true : (v : Val) → den m (rows_of X) w v ≡ true
      all_true v = let e : w ≡ 1 = omega arith in ap (λ (a : ℕ). den m (rows_of X) a v) e ∙ den-one m (rows_of X) v

  held-bit : Held m (rows_of X) (3 ∷ roots_of (seen old)) (bit_f (2 * p) ∷ live_of b)
  held-bit = held-push (held_keeps (held old s) step.kept) step.result.0

  again : StepPost m W.rows W.rows (rows_of X) (rows_of X) (3 ∷ roots_of (seen old)) (at 3) both
  again = step-first (3 ∷ roots_of (seen old)) grown.rows (held-arrow held-bit)
      (record {
        wf = grown.rows;
        kept = extends_refl (rows_of X);
        fresh = λ i u n. absurd (true≢false (sym u ∙ n));
        result = denotes-same (sym both-bit) step.result.0;
      })
      (few-used few (same_refl (rows_of X)))

  -- q and j are what its two steps need
  pub bit-done : (acc : Terms) (r R k q j : ℕ) (bs : List ℕ) → r < REGISTERS → Roomy b.N R acc → k ≡ bucket W.rows (2 * p) 1 0
      → checks b Set bs ≡ 0 → now p ≡ formula_in b Set bs → q ≡ step_need (2 * b.n) (live_of b) (bit_f (2 * p))
      → j ≡ step_need (2 * b.n) (bit_f (2 * p) ∷ live_of b) (bit_f (2 * p))
      → CallPost (set acc r R bs) old (bit_in W.rows old k r p) (set_reply (ends 3 (needing (needing nothing q) j)))
  bit-done acc r R k q j bs l roomy e passes is i h =
      through-done s tt (λ a. a)
      (set_value old s X grown frame acc r R bs l roomy.place passes 3 (needing (needing nothing q) j)
      (subst (λ (f : Form). Ends old s (rows_of X) (rows_under b.N acc) (rounds_under R acc) f (ends 3 (needing (needing nothing q) j))) is
      (unlimited old s R (now p) (ends 3 (needing (needing nothing q) j)) acc roomy
      (evals-bit b.n b.N (held old s) (exist (model_of b)) w (here refl) (here (fn_of-clip b.n b.valid)) (has-valid old s w refl)
      p nothing low
      step q (i ∙ sym (held-need (held old s) (bit_f (2 * p))))
      (at 3) again j (h ∙ sym (ap (step_need (2 * b.n) (bit_f (2 * p) ∷ live_of b)) both-bit) ∙ sym (held-need held-bit both))))))
      (as_it_was refl)
      (view-bit W.rows k r p old s.good.sizes.room none room e l).is

-- ---- collect where registers and relations are all empty, V being every state

module _ (old : List ℕ) (s : SoundWords old) (every : header_of old VALID ≡ ALL_STATES)
    (bare : (h : ℕ) → FIRST_REGISTER ≤ h → h < ROOTS_END → header_of old h ≡ 0) where
  abbrev U : View
  U = table_of old

  abbrev Z : View
  Z = put_head (put_header U USED 0) 0 0

  no-used : (i : ℕ) → used Z i ≡ true → ⊥
  no-used i u = let p = (used_in _ _ _ _ i u).place in omega arith

  -- V's arrow is a constant, and no other root is filled
  no-root : {a i : ℕ} → RootHeld U VALID ROOTS_END a → target a ≡ suc i → ⊥
  no-root {a} {i} x e = by_cases (ℕ_discrete x.at VALID)
      (λ q.
      let y : header_of old VALID ≡ suc a = ap (header_of old) (sym q) ∙ x.holds in
      let o : a ≡ 1 = omega arith in
      let z : ◌≡◌ {A = ℕ} 0 (suc i) = sym (ap target o) ∙ e in
      omega arith)
      (λ n. let f = x.from in let z = bare x.at (omega arith) x.below in let y = x.holds in omega arith)

  unreached : {i : ℕ} → Reach (rows_of U) (filled U) i → ⊥
  unreached (root m e) = no-root (mem-filled U _ m) e
  unreached (by-low r e) = unreached r
  unreached (by_high r e) = unreached r

  empty : (h : ℕ) → FIRST_REGISTER ≤ h → h < ROOTS_END → Z.header h ≡ 0
  empty h a l = rw (ne_eqb h USED (omega arith)) (bare h a l)

  rows : WellFormed (2 * Z.header BITS) Z.rows (rows_of Z)
  rows = record { bounded = λ i u. absurd (no-used i u); ok = λ i u. absurd (no-used i u); shared = λ i j u. absurd (no-used i u) }

  refs : (h : ℕ) → VALID ≤ h → h < ROOTS_END → Ref (rows_of Z) (Z.header h)
  refs h a l = by_cases (ℕ_discrete h VALID)
      (λ q. subst (Ref (rows_of Z)) (sym (ap Z.header q ∙ every)) (arrow_constant (rows_of Z) 1 (row-no 1 (omega arith))))
      (λ n. subst (Ref (rows_of Z)) (sym (empty h (omega arith) l)) tt)

  emptied : Sound Z
  emptied = record {
    good = record {
      sizes = s.good.sizes;
      rows_is = s.good.rows_is;
      layout_is = s.good.layout_is;
      ranked = record { count-le = omega arith; within = λ k h. absurd (omega arith); back = λ k h. absurd (omega arith) };
      rows = rows;
      index = record { nexts = λ i u. absurd (no-used i u); found = λ i u. absurd (no-used i u) };
    };
    refs = refs;
    valid = λ e. let z : Z.header VALID ≡ ALL_STATES = every in omega arith;
    even = λ h a l b q i r. absurd (no-used i (reaches_used rows (subst (Ref (rows_of Z)) q (refs h a (omega arith))) r));
    within = within_all Z (valid_of Z) (let z : Z.header VALID ≡ ALL_STATES = every in omega arith);
  }

  freed : Freed U Z (filled U)
  freed = record {
    sound = emptied;
    frame = record { rows = refl; size = refl; header = λ h a b. rw (ne_eqb h USED a); memo = λ j k l. refl; slot = refl; beyond = refl };
    collects = record {
      kept = record { used = λ i u. absurd (no-used i u); level = λ i u. refl; low = λ i u. refl; high = λ i u. refl };
      only = λ i u. absurd (no-used i u);
      all = λ i r. absurd (unreached r);
    };
  }

  pub freed-done : CallPost collect old (freed_in (header_of old ROWS) old) (valued 0)
  freed-done =
      let v = view-freed (header_of old ROWS) old s.good.sizes.room s.good.sizes.N_pos in
      collect-done old _ s refl
      (subst (λ (x : View). CollectPost U x 0) (sym v.is) (record { freed = freed; needs = freed-count U Z (filled U) s freed }))
