-- The words that fresh leaves of zeros, and that a set without a new row leaves of any words; how words look after each write.
-- Assumes nothing.
use mathlib.Core.Path.{◌≡◌, refl, sym, ap, ◌∙◌, fun_ext}
use mathlib.Core.Logic.{◌≢◌, by_cases}
use mathlib.Core.List.{List}
use Prim.Native.Nat.{ℕ, suc, ◌+◌, ◌≤◌, ◌<◌}
use native.Mathlib.Omega.{arith}
use native.Mathlib.Decide.{dec_lt}
use lib.ListN.{length, replicate, set, length-set, length-replicate, get_or-replicate}
use Rattle.layout.specs.Places.{REGISTERS, HEADER, CELLS, BITS, ROWS, LAYOUT, CURRENT, VALID, ALL_STATES, FIRST_REGISTER, words_for, cells_at}
use Rattle.layout.specs.Places.{list_at, heads_at}
use Rattle.layout.specs.View.{View, view, header_of, head_of, upd, put_header, put_cell, put_list, put_head}
use Rattle.layout.proofs.View.{view-header, view-cell, view-list, view-head, header_is, header-past, head-is, head-past}
use Rattle.layout.specs.Header.{header_words}
use Rattle.layout.proofs.HeaderLaws.{header-valid, header-zero}
use Rattle.table.specs.Fresh.{emptied}
use Rattle.formula_steps.specs.Evaluated.{register_stored}

-- k words of zeros
unfoldable pub zeros : ℕ → List ℕ
zeros k = replicate k 0

pub length-zeros : (k : ℕ) → length (zeros k) ≡ k
unfolding zeros
length-zeros k = length-replicate {A = ℕ} k 0

-- what fresh leaves of k zeros: n, N, the layout, and V, which is every state
unfoldable pub fresh_of : ℕ → ℕ → ℕ → List ℕ
fresh_of n N k = set (set (set (set (zeros k) BITS n) ROWS N) LAYOUT CURRENT) VALID ALL_STATES

-- what set leaves of words in which it makes no row: register r holds arrow a
unfoldable pub stored_in : List ℕ → ℕ → ℕ → List ℕ
stored_in ws r a = set ws (FIRST_REGISTER + r) (suc a)

-- ---- zeros

header-zeros : (k : ℕ) → HEADER ≤ k → (h : ℕ) → header_of (zeros k) h ≡ 0
unfolding zeros
header-zeros k l h = by_cases (dec_lt h HEADER)
    (λ i. header_is (replicate k 0) h i ∙ get_or-replicate {A = ℕ} k h 0 0 (omega arith))
    (λ i. header-past (replicate k 0) h (omega arith))

heads-zeros : (N k : ℕ) → words_for N ≤ k → (b : ℕ) → head_of N (zeros k) b ≡ 0
unfolding zeros
heads-zeros N k l b = by_cases (dec_lt b N)
    (λ i. head-is N (replicate k 0) b i ∙ get_or-replicate {A = ℕ} k _ 0 0 (omega arith))
    (λ i. head-past N (replicate k 0) b (omega arith))

-- ---- writing

-- words with room for a table of N rows, and how they look
pub record Viewed (N : ℕ) (ws : List ℕ) (W : View) : Type 0 where
  pub room : words_for N ≤ length ws
  pub is : view N ws ≡ W

pub viewed : {N : ℕ} {ws : List ℕ} → words_for N ≤ length ws → Viewed N ws (view N ws)
viewed r = record { room = r; is = refl }

-- a word is written: of the header, of a row, of the list of used rows, of the heads
module _ {N : ℕ} {ws : List ℕ} {W : View} (p : Viewed N ws W) where
  roomy : (k v : ℕ) → words_for N ≤ length (set ws k v)
  roomy k v = let e = length-set ws k v in let r = p.room in omega arith

  pub put_header_lem : (h v : ℕ) → h < HEADER → Viewed N (set ws h v) (put_header W h v)
  put_header_lem h v l = record { room = roomy h v; is = view-header N ws p.room h v l ∙ ap (λ (x : View). put_header x h v) p.is }

  pub put_cell_lem : (i k v : ℕ) → i < N → k < CELLS → Viewed N (set ws (cells_at i + k) v) (put_cell W i k v)
  put_cell_lem i k v l m =
      record { room = roomy (cells_at i + k) v; is = view-cell N ws p.room i k v l m ∙ ap (λ (x : View). put_cell x i k v) p.is }

  pub put_list_lem : (k v : ℕ) → k < N → Viewed N (set ws (list_at N + k) v) (put_list W k v)
  put_list_lem k v l = record { room = roomy (list_at N + k) v; is = view-list N ws p.room k v l ∙ ap (λ (x : View). put_list x k v) p.is }

  pub put_head_lem : (b v : ℕ) → b < N → Viewed N (set ws (heads_at N + b) v) (put_head W b v)
  put_head_lem b v l = record { room = roomy (heads_at N + b) v; is = view-head N ws p.room b v l ∙ ap (λ (x : View). put_head x b v) p.is }

-- n, N, the layout and V
sizes-put : (n N rows : ℕ) (ws : List ℕ) → words_for rows ≤ length ws
    → Viewed rows (set (set (set (set ws BITS n) ROWS N) LAYOUT CURRENT) VALID ALL_STATES)
    (put_header (put_header (put_header (put_header (view rows ws) BITS n) ROWS N) LAYOUT CURRENT) VALID ALL_STATES)
sizes-put n N rows ws room =
    put_header_lem (put_header_lem (put_header_lem (put_header_lem (viewed room) BITS n (omega arith)) ROWS N (omega arith)) LAYOUT CURRENT (omega arith))
    VALID ALL_STATES (omega arith)

-- the header that fresh writes is zeros but for these
header-fresh : (n N k : ℕ) → HEADER ≤ k
    → upd (upd (upd (upd (header_of (zeros k)) BITS n) ROWS N) LAYOUT CURRENT) VALID ALL_STATES ≡ header_of (header_words n N)
unfolding header_words zeros
header-fresh n N k l =
    let same = length-replicate {A = ℕ} HEADER 0 in
    ap (λ (f : ℕ → ℕ). upd (upd (upd (upd f BITS n) ROWS N) LAYOUT CURRENT) VALID ALL_STATES)
    (fun_ext (λ h. header-zeros k l h ∙ sym (header-zeros HEADER (omega arith) h)))
    ∙ sym (ap (λ (x : View). x.header) (sizes-put n N 0 (replicate HEADER 0) (omega arith)).is)

-- "Fresh empties them all"
pub view-fresh : (n N k : ℕ) → words_for N ≤ k → view N (fresh_of n N k) ≡ emptied (view N (zeros k)) n N
unfolding fresh_of
view-fresh n N k room =
    let same = length-zeros k in
    (sizes-put n N N (zeros k) (omega arith)).is
    ∙ (λ q. record {
      rows = N;
      size = length (zeros k);
      header = header-fresh n N k (omega arith) q;
      cell = (view N (zeros k)).cell;
      list = (view N (zeros k)).list;
      head = fun_ext (heads-zeros N k room) q;
      slot = (view N (zeros k)).slot;
      beyond = (view N (zeros k)).beyond;
    })

pub fresh-zero : (n N k h : ℕ) → words_for N ≤ k → h < HEADER → h ≢ BITS → h ≢ ROWS → h ≢ LAYOUT → h ≢ VALID → header_of (fresh_of n N k) h ≡ 0
fresh-zero n N k h room l a b c d =
    ap (λ (v : View). v.header h) (view-fresh n N k room) ∙ header_is (header_words n N) h l ∙ header-zero n N h l a b c d

-- "after fresh, V is every state"
pub fresh-valid : (n N k : ℕ) → words_for N ≤ k → header_of (fresh_of n N k) VALID ≡ ALL_STATES
fresh-valid n N k room =
    ap (λ (v : View). v.header VALID) (view-fresh n N k room) ∙ header_is (header_words n N) VALID (omega arith) ∙ header-valid n N

-- ---- stored

pub view-stored : (N r a : ℕ) (ws : List ℕ) → words_for N ≤ length ws → r < REGISTERS
    → view N (stored_in ws r a) ≡ register_stored (view N ws) r a
unfolding stored_in
view-stored N r a ws room l = view-header N ws room (FIRST_REGISTER + r) (suc a) (omega arith)
