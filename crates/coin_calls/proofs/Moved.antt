-- Runs over the words' arrows are runs over the book's sets and pairs: what is told of the one is told of the other. Assumes nothing.
use mathlib.Core.Path.{◌≡◌, refl, sym, ap, ◌∙◌, subst}
use mathlib.Core.Bool.{Bool, true, false, not, cond, ◌&&◌}
use mathlib.Core.List.{List, [], ◌∷◌}
use mathlib.Core.Option.{none, some}
use Prim.Native.Nat.{ℕ, zero, suc, ◌+◌, ◌-◌, ◌*◌, ◌^◌, ◌<◌}
use native.Mathlib.Omega.{arith}
use lib.Dec.{T, eqb, ltb, ltb→lt, eqb-suc-zero}
use Rattle.mucalculus.specs.Sets.{mem, table}
use Rattle.mucalculus.proofs.Sets.{and_in, and_out}
use Rattle.mucalculus.proofs.Laws.{get_or-table}
use Rattle.mucalculus.specs.Means.{pair}
use Rattle.layout.specs.Places.{BITS, FIRST_REGISTER, FIRST_RELATION}
use Rattle.layout.specs.View.{View, header_of}
use Rattle.diagram.specs.Rows.{den}
use Rattle.rows.specs.Used.{rows_of}
use Rattle.rows.specs.Sound.{table_of}
use Rattle.book.specs.States.{pair_val}
use Rattle.book.specs.Bridge.{set_of, pairs_of}
use Rattle.book.specs.Book.{registers, relations}
use Rattle.book.proofs.Effects.{in-range}
use Rattle.book.specs.BookOf.{stands_for, book_of}
use Rattle.book.proofs.Stored.{some_inj}
use Rattle.contract.specs.Seen.{arrow_in, seen}
use Rattle.seek.specs.Walk.{holds_at}
use Rattle.coins.specs.Runs.{Transitions, PricedStep, leads_by, leads_in, mixed_into, is_mixed_run, Cheapest}
use Rattle.coins.proofs.Marks.{run-below}
use Rattle.coins.specs.Post.{FareReply, FareTold, told_none, told-short, told-run}
use Rattle.coin_search.specs.Hall.{leads_at, in_set}

-- ---- relations and sets that agree on k states

pub record Agree (k : ℕ) (leads leads' : Transitions) (A A' B B' : ℕ → Bool) : Type 0 where
  pub by-steps : (r s t : ℕ) → s < k → t < k → leads r s t ≡ leads' r s t
  pub by-from : (s : ℕ) → s < k → A s ≡ A' s
  pub by-into : (s : ℕ) → s < k → B s ≡ B' s

pub agree_sym : {k : ℕ} {leads leads' : Transitions} {A A' B B' : ℕ → Bool}
    → Agree k leads leads' A A' B B' → Agree k leads' leads A' A B' B
agree_sym g = record {
  by-steps = λ r s t l h. sym (g.by-steps r s t l h);
  by-from = λ s l. sym (g.by-from s l);
  by-into = λ s l. sym (g.by-into s l);
}

module _ {k : ℕ} {leads leads' : Transitions} {A A' B B' : ℕ → Bool} (g : Agree k leads leads' A A' B B') where
  runs_moved : (s : ℕ) (l : List PricedStep) → T (mixed_into k leads B s l) → T (mixed_into k leads' B' s l)
  runs_moved s [] t =
      let w = and_out (ltb s k) _ t in and_in (ltb s k) _ w.0 (subst T (g.by-into s (ltb→lt s k w.0)) w.1)
  runs_moved s (p ∷ l) t =
      let w = and_out (ltb s k) _ t in
      let v = and_out (leads p.relation s p.state) _ w.1 in
      and_in (ltb s k) _ w.0
      (and_in (leads' p.relation s p.state) _
      (subst T (g.by-steps p.relation s p.state (ltb→lt s k w.0) (run-below k leads B p.state l v.1)) v.0)
      (runs_moved p.state l v.1))

  pub run_moved : (s : ℕ) (l : List PricedStep) → T (is_mixed_run k leads A B s l) → T (is_mixed_run k leads' A' B' s l)
  run_moved s l t =
      let w = and_out (A s) _ t in
      and_in (A' s) _ (subst T (g.by-from s (run-below k leads B s l w.1)) w.0) (runs_moved s l w.1)

cheapest-moved : {k : ℕ} {leads leads' : Transitions} {A A' B B' : ℕ → Bool} {prices : List ℕ} (s : ℕ) (l : List PricedStep)
    → Agree k leads leads' A A' B B' → Cheapest k leads A B prices s l → Cheapest k leads' A' B' prices s l
cheapest-moved s l g c = record {
  run = run_moved g s l c.run;
  least = λ t m h. c.least t m (run_moved (agree_sym g) t m h);
  fewest = λ t m h e. c.fewest t m (run_moved (agree_sym g) t m h) e;
}

pub told_moved : {k : ℕ} {leads leads' : Transitions} {A A' B B' : ℕ → Bool} {prices states states' relations relations' : List ℕ}
    {y : FareReply}
    → Agree k leads leads' A A' B B' → FareTold k leads A B prices states states' relations relations' y
    → FareTold k leads' A' B' prices states states' relations relations' y
told_moved g (told_none n) = told_none (λ s l t. n s l (run_moved (agree_sym g) s l t))
told_moved g (told-short s l c n) = told-short s l (cheapest-moved s l g c) n
told_moved g (told-run s l c r w) = told-run s l (cheapest-moved s l g c) r w

-- ---- the words and the book

module _ (words : List ℕ) where
  abbrev W : View
  W = table_of words

  abbrev n : ℕ
  n = header_of words BITS

  register-is : {r x : ℕ} → r < registers → x ≡ header_of words (FIRST_REGISTER + r) → (x ≡ 0 → ⊥)
      → (book_of (seen words)).reg r ≡ some (set_of n (den (2 * n) (rows_of W) (x - 1)))
  register-is {r} {x} l e f =
      let q : header_of words (FIRST_REGISTER + r) ≡ suc (x - 1) = omega arith in
      in-range _ none r registers l ∙ ap (λ (k : ℕ). stands_for (set_of n) (den (2 * n) (rows_of W)) (arrow_in k)) q

  set_agrees : {r x : ℕ} {A : List Bool} → r < registers → x ≡ header_of words (FIRST_REGISTER + r) → (x ≡ 0 → ⊥)
      → (book_of (seen words)).reg r ≡ some A → (s : ℕ) → s < 2 ^ n → in_set W (x - 1) s ≡ mem A s
  set_agrees {r} {x} {A} l e f h s i =
      let q : set_of n (den (2 * n) (rows_of W) (x - 1)) ≡ A = some_inj (sym (register-is l e f) ∙ h) in
      sym (get_or-table (2 ^ n) (λ u. den (2 * n) (rows_of W) (x - 1) (pair_val u 0)) s false i) ∙ ap (λ (Y : List Bool). mem Y s) q

  pair_is : (a s t : ℕ) → s < 2 ^ n → t < 2 ^ n → pair (pairs_of n (den (2 * n) (rows_of W) a)) s t ≡ holds_at W a s t
  pair_is a s t l i =
      ap (λ (Y : List Bool). mem Y t)
      (get_or-table (2 ^ n) (λ u. table (2 ^ n) (λ v. den (2 * n) (rows_of W) a (pair_val u v))) s [] l)
      ∙ get_or-table (2 ^ n) (λ v. den (2 * n) (rows_of W) a (pair_val s v)) t false i

  steps-agree : (r s t : ℕ) → s < 2 ^ n → t < 2 ^ n → leads_at W r s t ≡ leads_in (book_of (seen words)).rel r s t
  steps-agree r s t l i = go (ltb r relations) (header_of words (FIRST_RELATION + r))
    where
      go : (b : Bool) (x : ℕ)
          → ((b && not (eqb x 0)) && holds_at W (x - 1) s t)
          ≡ (b && leads_by (cond b (stands_for (pairs_of n) (den (2 * n) (rows_of W)) (arrow_in x)) none) s t)
      go false x = refl
      go true zero = refl
      go true (suc a) =
          let q : suc a - 1 ≡ a = omega arith in
          ap (λ (b : Bool). not b && holds_at W (suc a - 1) s t) (eqb-suc-zero a)
          ∙ ap (λ (k : ℕ). holds_at W k s t) q ∙ sym (pair_is a s t l i)

  pub words-agree : {a b x y : ℕ} {A B : List Bool} → a < registers → b < registers → x ≡ header_of words (FIRST_REGISTER + a)
      → y ≡ header_of words (FIRST_REGISTER + b) → (x ≡ 0 → ⊥) → (y ≡ 0 → ⊥) → (book_of (seen words)).reg a ≡ some A
      → (book_of (seen words)).reg b ≡ some B
      → Agree (2 ^ n) (leads_at W) (leads_in (book_of (seen words)).rel) (in_set W (x - 1)) (mem A) (in_set W (y - 1)) (mem B)
  words-agree la lb ex ey fx fy ha hb =
      record { by-steps = steps-agree; by-from = set_agrees la ex fx ha; by-into = set_agrees lb ey fy hb }
