-- Words that look alike are the same words. Assumes nothing.
use mathlib.Core.Path.{◌≡◌, ap, sym, ◌∙◌, subst}
use mathlib.Core.Logic.{by_cases}
use mathlib.Core.List.{List}
use Prim.Native.Nat.{ℕ, ◌+◌, ◌-◌, ◌*◌, ◌/◌, ◌%◌, ◌≤◌, ◌<◌}
use native.Mathlib.Omega.{arith}
use native.Mathlib.Decide.{dec_lt}
use lib.ListN.{get_or}
use lib.Seq.{ext_get_or}
use Rattle.layout.specs.Places.{HEADER, CELLS, cells_at, list_at, heads_at, slots_at, beyond_at}
use Rattle.layout.specs.View.{View, view, beyond_of}
use Rattle.layout.proofs.View.{header_is, cell-is, list-is, head-is, slot_is}

-- "words beyond that are never changed": the words past the table, one by one
pub same-beyond : (N : ℕ) (a b : List ℕ) → beyond_of N a ≡ beyond_of N b → (p : ℕ) → beyond_at N ≤ p → get_or a p 0 ≡ get_or b p 0
unfolding beyond_of
same-beyond N a b e p h =
    let q : beyond_at N + (p - beyond_at N) ≡ p = omega arith in
    subst (λ (x : ℕ). get_or a x 0 ≡ get_or b x 0) q (ap (λ (f : ℕ → ℕ). f (p - beyond_at N)) e)

module _ (N : ℕ) (a b : List ℕ) (e : view N a ≡ view N b) where
  -- the word at a place p that some reading has at s + k
  at : (s k p : ℕ) → s + k ≡ p → get_or a (s + k) 0 ≡ get_or b (s + k) 0 → get_or a p 0 ≡ get_or b p 0
  at s k p q r = subst (λ (x : ℕ). get_or a x 0 ≡ get_or b x 0) q r

  in-header : (p : ℕ) → p < HEADER → get_or a p 0 ≡ get_or b p 0
  in-header p l = sym (header_is a p l) ∙ ap (λ (v : View). v.header p) e ∙ header_is b p l

  in_cells : (p : ℕ) → HEADER ≤ p → p < list_at N → get_or a p 0 ≡ get_or b p 0
  in_cells p h l =
      let i : ℕ = (p - HEADER) / CELLS in
      let k : ℕ = (p - HEADER) % CELLS in
      let u : i < N = omega arith in
      let v : k < CELLS = omega arith in
      at (cells_at i) k p (omega arith) (sym (cell-is N a i k u v) ∙ ap (λ (v : View). v.cell i k) e ∙ cell-is N b i k u v)

  in_list : (p : ℕ) → list_at N ≤ p → p < heads_at N → get_or a p 0 ≡ get_or b p 0
  in_list p h l =
      let k : ℕ = p - list_at N in
      let u : k < N = omega arith in
      at (list_at N) k p (omega arith) (sym (list-is N a k u) ∙ ap (λ (v : View). v.list k) e ∙ list-is N b k u)

  in-heads : (p : ℕ) → heads_at N ≤ p → p < slots_at N → get_or a p 0 ≡ get_or b p 0
  in-heads p h l =
      let k : ℕ = p - heads_at N in
      let u : k < N = omega arith in
      at (heads_at N) k p (omega arith) (sym (head-is N a k u) ∙ ap (λ (v : View). v.head k) e ∙ head-is N b k u)

  in-slots : (p : ℕ) → slots_at N ≤ p → p < beyond_at N → get_or a p 0 ≡ get_or b p 0
  in-slots p h l =
      let k : ℕ = p - slots_at N in
      let u : k < 2 * N = omega arith in
      at (slots_at N) k p (omega arith) (sym (slot_is N a k u) ∙ ap (λ (v : View). v.slot k) e ∙ slot_is N b k u)

  in-beyond : (p : ℕ) → beyond_at N ≤ p → get_or a p 0 ≡ get_or b p 0
  in-beyond p h = same-beyond N a b (ap (λ (v : View). v.beyond) e) p h

  same_word : (p : ℕ) → get_or a p 0 ≡ get_or b p 0
  same_word p =
      by_cases (dec_lt p HEADER) (in-header p) (λ x₁.
      by_cases (dec_lt p (list_at N)) (in_cells p (omega arith)) (λ x₂.
      by_cases (dec_lt p (heads_at N)) (in_list p (omega arith)) (λ x₃.
      by_cases (dec_lt p (slots_at N)) (in-heads p (omega arith)) (λ x₄.
      by_cases (dec_lt p (beyond_at N)) (in-slots p (omega arith)) (λ x₅. in-beyond p (omega arith))))))

  -- the view loses nothing
  pub view-same : a ≡ b
  view-same = ext_get_or 0 a b (ap (λ (v : View). v.size) e) (λ p _. same_word p)
