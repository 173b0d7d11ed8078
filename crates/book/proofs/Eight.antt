-- Laws of what specs/Eight.antt defines. Assumes nothing.
use mathlib.Core.Path.{◌≡◌, refl, sym, ◌∙◌, subst}
use mathlib.Core.Logic.{◌↔◌}
use mathlib.Core.Bool.{Bool, true, false, ◌&&◌}
use mathlib.Core.List.Memᴰ.{head as here}
use mathlib.Core.List.Memᴰ.{tail as there}
use mathlib.Core.List.{List, [], ◌∷◌, Memᴰ as Mem}
use Prim.Native.Nat.{ℕ, ◌<◌}
use native.Mathlib.Omega.{arith}
use native.Mathlib.Nat.{lt_of_not-le}
use lib.Dec.{T, leb, leb→le, le→leb}
use Rattle.mucalculus.proofs.Sets.{all_out, false_of}
use Rattle.mucalculus.specs.Form.{no_env}
use Rattle.mucalculus.specs.Means.{means}
use Rattle.tokens.specs.declared.Kind.TheVariants.{Relation, Set, Valid}
use Rattle.accounts.specs.Terms.{rows_under, rounds_under}
use Rattle.accounts.specs.declared.Count.{Count}
use Rattle.accounts.specs.Count.{nothing}
use Rattle.book.specs.Over.{states, pairs}
use Rattle.book.specs.Ticks.{Tick, ticks, relation_ticks, Verdict, counted, full, spent, verdict, within_rounds, peak}
use Rattle.book.specs.Run.{fit}
use Rattle.book.proofs.Larger.{fit-peak, full-peak}
use Rattle.book.proofs.Effects.{does-set, does-relation, does-valid}
use Rattle.book.specs.Book.{formula_in, Book, Call, relation, set, valid, clear, collect, valid_done, model_of, live_of, Done, ended}
use Rattle.book.specs.Book.{relation_done, set_done, does}
use Rattle.book.specs.Eight.{EightAt}

-- a verdict's number is 8 exactly where it is full
ended_eight : (b : Book) (w : Verdict) (go : Count → Done) → ((q : Count) → (go q).1.number ≡ 0)
    → ((ended b w go).1.number ≡ 8) ↔ (w ≡ full)
ended_eight b (counted q) go z = ((λ e. absurd (omega (arith, z q))), (λ e. let i : ◌≡◌ {A = ℕ} 0 1 = cc in absurd (omega arith)))
ended_eight b full go z = ((λ e. refl), (λ e. refl))
ended_eight b spent go z = ((λ e. absurd (omega arith)), (λ e. let i : ◌≡◌ {A = ℕ} 0 1 = cc in absurd (omega arith)))

eight : (b : Book) (N R : ℕ) (l : List Tick) (go : Count → Done) → ((q : Count) → (go q).1.number ≡ 0)
    → ((ended b (verdict N R nothing l) go).1.number ≡ 8) ↔ (N < peak (within_rounds R 0 l))
eight b N R l go z =
    let x = ended_eight b (verdict N R nothing l) go z in
    let y = full-peak N R nothing l in
    ((λ e. y.0 (x.0 e)), (λ w. x.1 (y.1 w)))

-- the book's own number is 8 exactly where `EightAt` says
pub eight_exact : (b : Book) (c : Call) → EightAt b c (does b c).1.number
eight_exact b (relation t bs) = λ l z.
    let f = formula_in b Relation bs in
    subst (λ (d : Done). (d.1.number ≡ 8) ↔ (b.N < peak (within_rounds 0 0 (relation_ticks b.n (live_of b) b.valid f))))
    (sym (does-relation b t bs l z))
    (eight b b.N 0 (relation_ticks b.n (live_of b) b.valid f) (λ q. relation_done b t f q) (λ q. refl))
eight_exact b (set acc r R bs) = λ l t z.
    let f = formula_in b Set bs in
    subst (λ (d : Done). (d.1.number ≡ 8)
    ↔ (rows_under b.N acc < peak (within_rounds (rounds_under R acc) 0 (ticks (states (model_of b) no_env) (live_of b) f))))
    (sym (does-set b acc r R bs l t z))
    (eight b (rows_under b.N acc) (rounds_under R acc) (ticks (states (model_of b) no_env) (live_of b) f)
    (λ q. set_done b r (means (model_of b) no_env f) q) (λ q. refl))
eight_exact b (valid bs) = λ t z.
    let f = formula_in b Valid bs in
    subst (λ (d : Done). (d.1.number ≡ 8) ↔ (b.N < peak (within_rounds 0 0 (ticks (pairs b.n) (live_of b) f))))
    (sym (does-valid b bs t z))
    (eight b b.N 0 (ticks (pairs b.n) (live_of b) f) (λ q. valid_done b f) (λ q. refl))
eight_exact b (clear r) = tt
eight_exact b collect = tt

-- ---- by some need

-- some number of the list is above N
abbrev pub Above : ℕ → List ℕ → Type 0
Above N ks = (k : ℕ) × Mem k ks × (N < k)

above_out : (N : ℕ) (ks : List ℕ) → fit N ks ≡ false → Above N ks
above_out N [] e = let z : ◌≡◌ {A = ℕ} 0 1 = cc in absurd (omega arith)
above_out N (k ∷ ks) e = go (leb k N) refl (above_out N ks) e
  where
    go : (t : Bool) → leb k N ≡ t → (fit N ks ≡ false → Above N ks) → (t && fit N ks) ≡ false → Above N (k ∷ ks)
    go true i below h = let w = below h in (w.0, there w.1, w.2)
    go false i below h = (k, here refl, lt_of_not-le (λ l. subst T i (le→leb k N l)))

above_in : (N : ℕ) (ks : List ℕ) → Above N ks → fit N ks ≡ false
above_in N ks w = false_of (fit N ks) (λ t. let l = leb→le w.0 N (all_out (λ k. leb k N) w.1 t) in absurd (omega (arith, w.2)))

-- the peak would pass N exactly where some need of the list does
pub peak-above : (N : ℕ) (ks : List ℕ) → (N < peak ks) ↔ Above N ks
peak-above N ks = (
  λ l. above_out N ks (fit-peak N ks ∙ false_of (leb (peak ks) N) (λ t. let z = leb→le (peak ks) N t in absurd (omega arith))),
  λ w. lt_of_not-le (λ l. subst T (sym (fit-peak N ks) ∙ above_in N ks w) (le→leb (peak ks) N l)),
)
