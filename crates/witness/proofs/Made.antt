-- Calls whose formulas take no step, on any words: each with the words that it leaves meets its contract. Assumes nothing.
use mathlib.Core.Path.{◌≡◌, refl, sym, ap, ◌∙◌, subst, subst₂}
use mathlib.Core.Bool.{Bool, true, false, ◌&&◌}
use mathlib.Core.List.{List, [], ◌∷◌}
use Prim.Native.Nat.{ℕ, ◌+◌, ◌*◌, ◌<◌, ◌≤◌}
use native.Mathlib.Omega.{arith}
use lib.Dec.{T}
use lib.ListN.{set as write}
use Rattle.accounts.specs.declared.Terms.{Terms}
use Rattle.accounts.specs.Terms.{named, alone, rows_under, rounds_under}
use Rattle.accounts.specs.declared.Count.{Count}
use Rattle.accounts.specs.Count.{nothing, another}
use Rattle.mucalculus.specs.Form.{Form, bot, top, var, no_env}
use Rattle.mucalculus.proofs.Form.{bind}
use Rattle.mucalculus.specs.Means.{exist}
use Rattle.tokens.specs.declared.Kind.TheVariants.{Relation, Set, Valid}
use Rattle.layout.specs.Places.{REGISTERS, RELATIONS, ROWS, USED, VALID, ALL_STATES, FIRST_REGISTER, FIRST_RELATION}
use Rattle.layout.specs.View.{header_of}
use Rattle.layout.proofs.View.{view-header}
use Rattle.diagram.specs.Rows.{Rows}
use Rattle.diagram.proofs.Den.{den-zero}
use Rattle.diagram.specs.Steps.{shift_f}
use Rattle.diagram.specs.Post.{at, Denotes}
use Rattle.diagram.proofs.Grow.{extends_refl}
use Rattle.diagram.specs.Reach.{Reach}
use Rattle.diagram.proofs.Reach.{reach-used}
use Rattle.rows.specs.Used.{Sizes, used, rows_of}
use Rattle.rows.proofs.Used.{used_in}
use Rattle.rows.specs.Sound.{table_of}
use Rattle.rows.specs.Filled.{filled}
use Rattle.rows.proofs.Filled.{filled-arrow}
use Rattle.table.proofs.AddLaws.{frame_refl}
use Rattle.collect.specs.Freed.{Freed}
use Rattle.collect.proofs.Freed.{freed-count}
use Rattle.formula.specs.Parse.{form_of, formula_of}
use Rattle.formula.specs.Checks.{first_refusal}
use Rattle.book.specs.Book.{Book, relation, set, valid, clear, collect, unfilled, model_of, live_of, reg_filled, rel_filled, formula_in}
use Rattle.book.proofs.Compute.{computing}
use Rattle.book.proofs.Listed.{frame}
use Rattle.book.specs.Table.{roots_of}
use Rattle.book.specs.Leaves.{plain, valued}
use Rattle.book.specs.Held.{Held}
use Rattle.book.proofs.Roots.{shows-held}
use Rattle.book.proofs.Effects.{set-refused}
use Rattle.book.specs.Bridge.{fn_of}
use Rattle.book.specs.Over.{states}
use Rattle.book.specs.Run.{run, pair_f, pairs_fit, pairs_count, relation_fits, relation_count}
use Rattle.book.specs.Follow.{Ended, ends, nine, Evals}
use Rattle.book.proofs.Follow.{denotes-clip}
use Rattle.book.specs.Pairs.{PairMatches, PairEvals}
use Rattle.book.proofs.Pairs.{pair-none, pair-all}
use Rattle.book.specs.Turns.{start_arrow}
use Rattle.book.specs.BookOf.{book_of}
use Rattle.book.proofs.Formulas.{set_reply, relation_reply}
use Rattle.book.specs.Formulas.{relation_f}
use Rattle.contract.specs.Seen.{seen, SoundWords}
use Rattle.contract.proofs.Seen.{sound-shows-book}
use Rattle.contract.specs.Posts.{FreshPost, CallPost}
use Rattle.contract.proofs.Checked.{call-refused}
use Rattle.operations.proofs.Work.{op_refl}
use Rattle.calls.proofs.FreshLaws.{fresh-ready}
use Rattle.calls.proofs.Changes.{clear-done, collect-done}
use Rattle.formula_steps.specs.Evaluated.{as_it_was}
use Rattle.formula_steps.proofs.Ends.{set_value, set-spent, relation-value, valid-value, through-done}
use Rattle.witness.proofs.Words.{zeros, fresh_of, stored_in, length-zeros, view-fresh, view-stored}
use Rattle.witness.proofs.Rounds.{self-ends, self-spent}

-- ---- the formulas' bytes, with any n and whatever is filled

-- 70 30 and 80 30: mu P. P and nu P. P
abbrev pub self : Bool → List ℕ
self true = frame (0x70 ∷ 0x30 ∷ [])
self false = frame (0x80 ∷ 0x30 ∷ [])

self-form : (b : Bool) (n : ℕ) → bind b 0 (var 0) ≡ form_of (formula_of Set n (self b))
unfolding computing
self-form true n = refl
self-form false n = refl

self-passes : (b : Bool) (n : ℕ) (regs rels : ℕ → Bool) → first_refusal Set n regs rels (self b) ≡ 0
unfolding computing
self-passes true n regs rels = refl
self-passes false n regs rels = refl

-- 70 02 30: mu P. NOT P
abbrev pub odd : List ℕ
odd = frame (0x70 ∷ 0x02 ∷ 0x30 ∷ [])

odd_refused : (n : ℕ) (regs rels : ℕ → Bool) → first_refusal Set n regs rels odd ≡ 6
unfolding computing
odd_refused n regs rels = refl

-- 00: false
abbrev pub no_pairs : List ℕ
no_pairs = frame (0x00 ∷ [])

no_pairs_form : (n : ℕ) → bot ≡ form_of (formula_of Relation n no_pairs)
unfolding computing
no_pairs_form n = refl

no_pairs_passes : (n : ℕ) (regs rels : ℕ → Bool) → first_refusal Relation n regs rels no_pairs ≡ 0
unfolding computing
no_pairs_passes n regs rels = refl

-- 01: true
abbrev pub every : List ℕ
every = frame (0x01 ∷ [])

every-form : (n : ℕ) → top ≡ form_of (formula_of Valid n every)
unfolding computing
every-form n = refl

every-passes : (n : ℕ) (regs rels : ℕ → Bool) → first_refusal Valid n regs rels every ≡ 0
unfolding computing
every-passes n regs rels = refl

-- ---- fresh

pub fresh-done : (n N k : ℕ) → Sizes n N k → FreshPost n N 1 (zeros k) (fresh_of n N k) (plain 0)
fresh-done n N k z =
    fresh-ready n N 1 (zeros k) (fresh_of n N k) (subst (Sizes n N) (sym (length-zeros k)) z) refl (view-fresh n N k z.room)

-- ---- the calls on a sound table

-- an account that limits neither N rows nor R rounds further
pub record Roomy (N R : ℕ) (acc : Terms) : Type 0 where
  pub place : T (named acc)
  pub rows : N ≤ acc.rows
  pub rounds : R ≤ acc.rounds

-- one account with the largest limits
pub alone_roomy : (N R : ℕ) → N ≤ 60_000 → R ≤ 4_294_967_295 → Roomy N R alone
alone_roomy N R l i = record { place = tt; rows = omega arith; rounds = i }

module _ (old : List ℕ) (s : SoundWords old) where
  abbrev b : Book
  b = book_of (seen old)

  pub held : Held (2 * b.n) (rows_of (table_of old)) (roots_of (seen old)) (live_of b)
  held = shows-held b (seen old) (sound-shows-book old s)

  -- valid of every state
  abbrev Fixes : Form → Type 0
  Fixes f =
      PairEvals b.n b.N (rows_of (table_of old)) (rows_of (table_of old)) (roots_of (seen old)) (pairs_fit b.n b.N (live_of b) f)
      (pair_f b.n f) (pairs_count b.n (live_of b) f nothing) (at 1) nothing

  pub every-done : T (unfilled b) → CallPost (valid every) old (write old VALID ALL_STATES) (plain 0)
  every-done u =
      through-done s tt (λ a. a)
      (valid-value old s (table_of old) s.good (op_refl (table_of old)) every u (every-passes b.n (reg_filled b) (rel_filled b)) 1 nothing
      (subst Fixes (every-form b.n) (pair-all b.n b.N held b.N nothing s.good.rows)))
      (as_it_was refl)
      (view-header (header_of old ROWS) old s.good.sizes.room VALID ALL_STATES (omega arith))

  -- relation t of no pairs, where its three steps within V fit and come to p
  module _ (t : ℕ) (l : t < RELATIONS) (p : Count) where
    abbrev counted : Form → Count
    counted f = relation_count b.n (live_of b) b.valid f nothing

    abbrev Loads : Form → Type 0
    Loads f =
        PairEvals b.n b.N (rows_of (table_of old)) (rows_of (table_of old)) (roots_of (seen old))
        (relation_fits b.n b.N (live_of b) b.valid f) (relation_f b.n b.valid f) (counted f) (at 0) p

    loads : relation_fits b.n b.N (live_of b) b.valid bot ≡ true → p ≡ counted bot → Loads bot
    loads fits e =
        let d = pair-none b.n b.N held b.N nothing s.good.rows in
        record {
          wf = d.wf;
          kept = d.kept;
          result =
              subst (λ (x : Bool). PairMatches b.n (rows_of (table_of old)) x (relation_f b.n b.valid bot) (counted bot) (at 0) p)
              (sym fits) (
                record {
                  arrow = tt;
                  same = λ v.
                      let none = den-zero (2 * b.n) (rows_of (table_of old)) v in
                      none ∙ sym
                      (ap (λ (x : Bool). (x && fn_of b.n b.valid v) && shift_f (fn_of b.n b.valid) v)
                      (sym (d.result.0.same v) ∙ none));
                },
                e,
              );
        }

    pub no_pairs_done : relation_fits b.n b.N (live_of b) b.valid bot ≡ true → p ≡ counted bot
        → CallPost (relation t no_pairs) old (write old (FIRST_RELATION + t) 1) (relation_reply (at 0) p)
    no_pairs_done fits e =
        through-done s tt (λ a. a)
        (relation-value old s (table_of old) s.good (op_refl (table_of old)) t no_pairs l
        (no_pairs_passes b.n (reg_filled b) (rel_filled b)) 0 p
        (subst Loads (no_pairs_form b.n) (loads fits e)))
        (as_it_was refl)
        (view-header (header_of old ROWS) old s.good.sizes.room (FIRST_RELATION + t) 1 (omega arith))

  -- the evaluation of f under limits N and R ended so
  abbrev pub Ends : Rows → ℕ → ℕ → Form → Ended → Type 0
  Ends after N R f y =
      Evals b.n b.N (rows_of (table_of old)) after (roots_of (seen old)) (run (states (model_of b) no_env) N R (live_of b) f nothing) y

  -- an account that limits neither rows nor rounds further
  pub unlimited : {after : Rows} (R : ℕ) (f : Form) (y : Ended) (acc : Terms) → Roomy b.N R acc → Ends after b.N R f y
      → Ends after (rows_under b.N acc) (rounds_under R acc) f y
  unlimited {after} R f y acc a d =
      let l = a.rows in
      let m = a.rounds in
      let e : b.N ≡ rows_under b.N acc = omega arith in
      let i : R ≡ rounds_under R acc = omega arith in
      subst₂ (λ (N R : ℕ). Ends after N R f y) e i d

  -- V's arrow
  pub has-valid : (w : ℕ) → (seen old).valid ≡ w → Denotes (2 * b.n) (rows_of (table_of old)) w (fn_of b.n (exist (model_of b)))
  has-valid w e = subst (λ (x : ℕ). Denotes (2 * b.n) (rows_of (table_of old)) x (fn_of b.n (exist (model_of b)))) e
      (denotes-clip b.n b.N b.valid (sound-shows-book old s).valid)

  module _ (r : ℕ) (l : r < REGISTERS) where
    -- set r to mu P. P or nu P. P, w being V's arrow
    module _ (d : Bool) (R : ℕ) (acc : Terms) (roomy : Roomy b.N R acc) (w : ℕ) (is : (seen old).valid ≡ w) where
      abbrev Under : Ended → Form → Type 0
      Under y f = Ends (rows_of (table_of old)) (rows_under b.N acc) (rounds_under R acc) f y

      self_under : (y : Ended) → Ends (rows_of (table_of old)) b.N R (bind d 0 (var 0)) y → Under y (formula_in b Set (self d))
      self_under y e = subst (Under y) (self-form d b.n) (unlimited R (bind d 0 (var 0)) y acc roomy e)

      -- one round and no step: node number 0 or V's
      pub self-done : 0 < R
          → CallPost (set acc r R (self d)) old (stored_in old r (start_arrow d w)) (set_reply (ends (start_arrow d w) (another nothing)))
      self-done i =
          through-done s tt (λ a. a)
          (set_value old s (table_of old) s.good (op_refl (table_of old)) acc r R (self d) l roomy.place
          (self-passes d b.n (reg_filled b) (rel_filled b)) (start_arrow d w) (another nothing)
          (self_under (ends (start_arrow d w) (another nothing))
          (self-ends (model_of b) b.N R no_env (live_of b) 0 s.good.rows held w (has-valid w is) d i)))
          (as_it_was refl)
          (view-stored (header_of old ROWS) r (start_arrow d w) old s.good.sizes.room l)

      -- no round is allowed
      pub self-refused : R ≡ 0 → CallPost (set acc r R (self d)) old old (plain 9)
      self-refused z =
          through-done s tt (λ a. a)
          (set-spent old s (table_of old) s.good (op_refl (table_of old)) acc r R (self d) l roomy.place
          (self-passes d b.n (reg_filled b) (rel_filled b))
          (self_under nine (self-spent (model_of b) b.N R no_env (live_of b) 0 s.good.rows held w (has-valid w is) d z)))
          (as_it_was refl) refl

    -- set r to mu P. NOT P
    pub odd-done : (R : ℕ) (acc : Terms) → T (named acc) → CallPost (set acc r R odd) old old (plain 6)
    odd-done R acc p =
        call-refused old s 5 (set acc r R odd) (set-refused b acc r R odd 5 l p (odd_refused b.n (reg_filled b) (rel_filled b)))

    pub empty-done : CallPost (clear r) old (write old (FIRST_REGISTER + r) 0) (plain 0)
    empty-done =
        clear-done old (write old (FIRST_REGISTER + r) 0) r s l refl
        (view-header (header_of old ROWS) old s.good.sizes.room (FIRST_REGISTER + r) 0 (omega arith))

  -- collect where V, registers and relations reach every used row
  module _ (needed : (i : ℕ) → used (table_of old) i ≡ true → Reach (rows_of (table_of old)) (filled (table_of old)) i) where
    same : Freed (table_of old) (table_of old) (filled (table_of old))
    same = record {
      sound = s;
      frame = frame_refl (table_of old);
      collects =
          record { kept = extends_refl (rows_of (table_of old)); only = needed; all = λ i r. reach-used s.good.rows (filled-arrow s) r };
    }

    pub collected_done : (k : ℕ) → header_of old USED ≡ k → CallPost collect old old (valued k)
    collected_done k z =
        collect-done old old s refl
        (record { freed = same; needs = sym z ∙ freed-count (table_of old) (table_of old) (filled (table_of old)) s same })

-- where none is used
pub unused : (old : List ℕ) → header_of old USED ≡ 0 → (i : ℕ) → used (table_of old) i ≡ true → ⊥
unused old z i u = let p = (used_in _ _ _ _ i u).place in omega arith
