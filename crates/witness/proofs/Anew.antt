-- FRESH ON ANY WORDS, those of an earlier list too: it writes the header and the heads of the chains and no other word, and its contract is
-- met. Assumes nothing.
use mathlib.Core.Path.{◌≡◌, refl, sym, ap, ◌∙◌, fun_ext}
use mathlib.Core.Logic.{◌≢◌, by_cases}
use mathlib.Core.Bool.{cond}
use mathlib.Core.List.{List}
use Prim.Native.Nat.{ℕ, zero, suc, ◌+◌, ◌≤◌, ◌<◌}
use native.Mathlib.Omega.{arith}
use native.Mathlib.Decide.{ℕ_discrete, dec_lt}
use lib.Dec.{ltb, eqb}
use lib.ListN.{length, set}
use borrow.Author.Tests.{eq-eqb, ne_eqb, lt-ltb, le-ltb}
use Rattle.layout.specs.Places.{HEADER, BITS, ROWS, USED, LAYOUT, VALID, words_for, heads_at}
use Rattle.layout.specs.View.{View, view, header_of, head_of}
use Rattle.layout.proofs.View.{header_is, header-past, head-past}
use Rattle.layout.specs.Header.{header_words}
use Rattle.layout.proofs.HeaderLaws.{header-valid, header-zero}
use Rattle.rows.specs.Used.{Sizes}
use Rattle.table.specs.Columns.{set_header, set_heads}
use Rattle.table.specs.Fresh.{emptied}
use Rattle.book.specs.Book.{Book}
use Rattle.book.specs.Leaves.{plain}
use Rattle.book.specs.Demand.{Event, Trace, stop, Session}
use Rattle.contract.specs.Posts.{FreshPost}
use Rattle.contract.specs.Closed.{makes, performs, rests}
use Rattle.contract.proofs.Closed.{words-demand}
use Rattle.calls.proofs.FreshLaws.{fresh-ready}
use Rattle.witness.proofs.Words.{Viewed, viewed, put_header_lem, put_head_lem}
use Rattle.witness.proofs.Begun.{Stands}

-- ---- the words

-- the header's words below h
unfoldable pub header_in : ℕ → ℕ → ℕ → List ℕ → List ℕ
header_in n N zero ws = ws
header_in n N (suc h) ws = set (header_in n N h ws) h (header_of (header_words n N) h)

-- the heads below b are 0
unfoldable pub heads_in : ℕ → ℕ → List ℕ → List ℕ
heads_in N zero ws = ws
heads_in N (suc b) ws = set (heads_in N b ws) (heads_at N + b) 0

-- what fresh leaves of ws
unfoldable pub fresh_in : ℕ → ℕ → List ℕ → List ℕ
fresh_in n N ws = heads_in N N (header_in n N HEADER ws)

-- ---- how they look

-- f below k, and g from there on
abbrev below : (ℕ → ℕ) → (ℕ → ℕ) → ℕ → ℕ → ℕ
below f g k i = cond (ltb i k) (f i) (g i)

module _ (f g : ℕ → ℕ) where
  below_none : g ≡ below f g 0
  below_none = fun_ext (λ i. rw (le-ltb i 0 (omega arith)))

  below_next : (k : ℕ) → (λ i. cond (eqb i k) (f k) (below f g k i)) ≡ below f g (suc k)
  below_next k = fun_ext (λ i. by_cases (ℕ_discrete i k)
      (λ e. rw (eq-eqb i k e, lt-ltb i (suc k) (omega arith)) (ap f (sym e)))
      (λ n. by_cases (dec_lt i k) (λ l. rw (ne_eqb i k n, lt-ltb i k l, lt-ltb i (suc k) (omega arith)))
      (λ l. rw (ne_eqb i k n, le-ltb i k (omega arith), le-ltb i (suc k) (omega arith)))))

  below_all : (k : ℕ) → ((i : ℕ) → k ≤ i → g i ≡ f i) → below f g k ≡ f
  below_all k h = fun_ext (λ i. by_cases (dec_lt i k) (λ l. rw (lt-ltb i k l)) (λ l. rw (le-ltb i k (omega arith)) (h i (omega arith))))

-- a view that is so by another name
viewed_as : {N : ℕ} {ws : List ℕ} {W X : View} → Viewed N ws W → W ≡ X → Viewed N ws X
viewed_as v e = record { room = v.room; is = v.is ∙ e }

module _ (n N : ℕ) (ws : List ℕ) (room : words_for N ≤ length ws) where
  abbrev W : View
  W = view N ws

  header_in_lem : (h : ℕ) → h ≤ HEADER
      → Viewed N (header_in n N h ws) (set_header W (below (header_of (header_words n N)) (header_of ws) h))
  unfolding header_in
  header_in_lem zero l = viewed_as (viewed room) (ap (set_header W) (below_none (header_of (header_words n N)) (header_of ws)))
  header_in_lem (suc h) l =
      viewed_as (put_header_lem (header_in_lem h (omega arith)) h (header_of (header_words n N) h) (omega arith))
      (ap (set_header W) (below_next (header_of (header_words n N)) (header_of ws) h))

  -- the header is the header maker's
  abbrev X : View
  X = set_header W (header_of (header_words n N))

  header-all : Viewed N (header_in n N HEADER ws) X
  header-all =
      viewed_as (header_in_lem HEADER (omega arith))
      (ap (set_header W) (below_all (header_of (header_words n N)) (header_of ws) HEADER
      (λ i l. header-past ws i l ∙ sym (header-past (header_words n N) i l))))

  heads_in_lem : (b : ℕ) → b ≤ N → Viewed N (heads_in N b (header_in n N HEADER ws)) (set_heads X (below (λ i. 0) (head_of N ws) b))
  unfolding heads_in
  heads_in_lem zero l = viewed_as header-all (ap (set_heads X) (below_none (λ i. 0) (head_of N ws)))
  heads_in_lem (suc b) l =
      viewed_as (put_head_lem (heads_in_lem b (omega arith)) b 0 (omega arith)) (ap (set_heads X) (below_next (λ i. 0) (head_of N ws) b))

  -- "Fresh empties them all"
  pub view_anew : view N (fresh_in n N ws) ≡ emptied W n N
  unfolding fresh_in
  view_anew =
      (heads_in_lem N (omega arith)).is ∙ ap (set_heads X) (below_all (λ i. 0) (head_of N ws) N (λ i l. head-past N ws i l))

-- ---- the call, and a list from it on

module _ (n N : ℕ) (old : List ℕ) (z : Sizes n N (length old)) where
  pub fresh_anew : FreshPost n N 1 old (fresh_in n N old) (plain 0)
  fresh_anew = fresh-ready n N 1 old (fresh_in n N old) z refl (view_anew n N old z.room)

  pub session_anew : {l : List Event} {ws : List ℕ} → Trace (List ℕ) performs rests (fresh_in n N old) l ws
      → Session (List ℕ) makes performs rests n N l ws
  session_anew t =
      record { lent = old; count = 1; made = fresh_in n N old; reply = plain 0; start = fresh_anew; answered = refl; rest = t }

  anew_header : (h : ℕ) → header_of (fresh_in n N old) h ≡ header_of (header_words n N) h
  anew_header h = ap (λ (v : View). v.header h) (view_anew n N old z.room)

  -- every word of the header but n, N, the layout and V
  pub anew_zero : (h : ℕ) → h < HEADER → h ≢ BITS → h ≢ ROWS → h ≢ LAYOUT → h ≢ VALID → header_of (fresh_in n N old) h ≡ 0
  anew_zero h l i j k m = anew_header h ∙ header_is (header_words n N) h l ∙ header-zero n N h l i j k m

  -- no row is used, and V is every state
  pub anew_stands : Stands N (fresh_in n N old)
  anew_stands =
      let d = words-demand n N (session_anew stop) in
      record {
        sound = d.good;
        rows = ap (λ (b : Book). b.N) d.holds;
        used = anew_zero USED (omega arith) (omega arith) (omega arith) (omega arith) (omega arith);
        valid = anew_header VALID ∙ header_is (header_words n N) VALID (omega arith) ∙ header-valid n N;
      }
