-- "Bigger tables, same verdicts" for the shortest run: where the call is not full, a book with more rows tells the same. Assumes nothing.
use mathlib.Core.Path.{◌≡◌, refl}
use mathlib.Core.Bool.{Bool, true, false, cond, ◌&&◌}
use mathlib.Core.List.{List, [], ◌∷◌}
use mathlib.Core.Option.{Option, none, some}
use Prim.Native.Nat.{ℕ, ◌≤◌}
use native.Mathlib.Omega.{arith}
use lib.Dec.{T, ltb, leb, leb→le, le→leb}
use Rattle.mucalculus.proofs.Sets.{and_in, and_out}
use Rattle.mucalculus.specs.Form.{Pairs}
use Rattle.book.specs.Book.{Book, registers, relations, live_of}
use Rattle.book.specs.Run.{fit}
use Rattle.book.specs.Raised.{with_row_count}
use Rattle.paths.specs.Runs.{path_needs, Outcome, full}
use Rattle.paths.specs.Call.{Ended, refuse, ends, over_filled, shortest}

-- what fits in N rows fits in more
pub fit-more : (N M : ℕ) → N ≤ M → (ks : List ℕ) → T (fit N ks) → T (fit M ks)
fit-more N M l [] t = tt
fit-more N M l (k ∷ ks) t =
    let w = and_out (leb k N) _ t in
    let h = leb→le k N w.0 in
    and_in (leb k M) _ (le→leb k M (omega arith)) (fit-more N M l ks w.1)

-- what an outcome comes to is decided by fitting alone
pub by-fit : (tell : Outcome → Ended) → (tell full).reply.number ≡ 8 → (s t : Bool) (o : Outcome) → (T s → T t)
    → ((tell (cond s o full)).reply.number ≡ 8 → ⊥) → tell (cond t o full) ≡ tell (cond s o full)
by-fit tell e true true o h z = refl
by-fit tell e true false o h z = absurd (h tt)
by-fit tell e false t o h z = absurd (z e)

module _ (M : ℕ) (list : List ℕ) where
  filled_more : (b : Book) → b.N ≤ M → (x y : Option (List Bool)) (r : Option Pairs) → ((over_filled b x y r list).reply.number ≡ 8 → ⊥)
      → over_filled (with_row_count b M) x y r list ≡ over_filled b x y r list
  filled_more b l none y r z = refl
  filled_more b l (some A) none r z = refl
  filled_more b l (some A) (some B) none z = refl
  filled_more b l (some A) (some B) (some R) z =
      by-fit (λ o. ends o list) refl (fit b.N (path_needs b.n (live_of b) R A B)) (fit M (path_needs b.n (live_of b) R A B)) _
      (fit-more b.N M l (path_needs b.n (live_of b) R A B)) z

  -- A SHORTEST RUN THAT IS NOT FULL is told alike with more rows: the same reply, refusals 10 and 11 too, and the same list
  pub shortest-more : (b : Book) → b.N ≤ M → (x y t : ℕ) → ((shortest b x y t list).reply.number ≡ 8 → ⊥)
      → shortest (with_row_count b M) x y t list ≡ shortest b x y t list
  shortest-more b l x y t = go (ltb x registers && (ltb y registers && ltb t relations))
    where
      go : (u : Bool) → ((cond u (over_filled b (b.reg x) (b.reg y) (b.rel t) list) (refuse 3 list)).reply.number ≡ 8 → ⊥)
          → cond u (over_filled (with_row_count b M) (b.reg x) (b.reg y) (b.rel t) list) (refuse 3 list)
          ≡ cond u (over_filled b (b.reg x) (b.reg y) (b.rel t) list) (refuse 3 list)
      go true z = filled_more b l (b.reg x) (b.reg y) (b.rel t) z
      go false z = refl
