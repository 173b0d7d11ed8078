-- Laws of what specs/Last.antt defines. Assumes nothing.
use mathlib.Core.Path.{◌≡◌, refl, sym, ap, ◌∙◌, subst}
use mathlib.Core.Logic.{◌⊎◌, inl, inr}
use mathlib.Core.Bool.{Bool, true, false, cond, ◌&&◌}
use mathlib.Core.List.{List, [], ◌∷◌}
use mathlib.Core.Option.{none, some}
use Prim.Native.Nat.{ℕ}
use lib.Dec.{T, eqb, eqb→eq, eqb_refl, eqb-suc-zero}
use Rattle.mucalculus.proofs.Sets.{true_of}
use Rattle.mucalculus.specs.Form.{no_env}
use Rattle.mucalculus.specs.Means.{means}
use Rattle.tokens.specs.declared.Kind.TheVariants.{Set}
use Rattle.accounts.specs.declared.Terms.{Terms}
use Rattle.accounts.specs.declared.Count.{Count}
use Rattle.book.specs.Book.{formula_in, Book, Call, relation, set, valid, clear, collect, answered, registers, model_of, Done, with_reg}
use Rattle.book.specs.Book.{effect, stores, set_done, does, play}
use Rattle.book.proofs.Stored.{range_cases, set_cases, relation_cases, valid_cases, some_inj, none-some, set-means}
use Rattle.book.specs.Stored.{Passed}
use Rattle.book.specs.Last.{Untouched, LastSet}

-- one call that leaves A in register r: it did not touch r, or it was an answered set of it
abbrev Comes : Book → ℕ → List Bool → Call → Done → Type 0
Comes b r A c d =
    ((stores (effect c).reg d.1.number r ≡ false) × (b.reg r ≡ some A))
    ⊎ ((acc : Terms) × (R : ℕ) × (bs : List ℕ) × (c ≡ set acc r R bs) × (d.1.number ≡ 0))

-- what an answered set leaves
stored-comes : (b : Book) (r : ℕ) (A X : List Bool) (acc : Terms) (q R : ℕ) (bs : List ℕ) (k : Count) → (set_done b q X k).0.reg r ≡ some A
    → Comes b r A (set acc q R bs) (set_done b q X k)
stored-comes b r A X acc q R bs k = go (eqb r q) refl
  where
    go : (t : Bool) → eqb r q ≡ t → cond t (some X) (b.reg r) ≡ some A
        → ((t ≡ false) × (b.reg r ≡ some A))
        ⊎ ((acc' : Terms) × (R' : ℕ) × (bs' : List ℕ) × (set acc q R bs ≡ set acc' r R' bs') × (◌≡◌ {A = ℕ} 0 0))
    go true e h = inr (acc, R, bs, ap (λ (x : ℕ). set acc x R bs) (sym (eqb→eq r q (subst T (sym e) tt))), refl)
    go false e h = inl (refl, h)

cleared-comes : (b : Book) (r : ℕ) (A : List Bool) (q : ℕ) → (with_reg b q none).reg r ≡ some A
    → Comes b r A (clear q) (with_reg b q none, answered (some 0))
cleared-comes b r A q = go (eqb r q)
  where
    go : (t : Bool) → cond t none (b.reg r) ≡ some A
        → ((t ≡ false) × (b.reg r ≡ some A))
        ⊎ ((acc' : Terms) × (R' : ℕ) × (bs' : List ℕ) × (clear q ≡ set acc' r R' bs') × (◌≡◌ {A = ℕ} 0 0))
    go true h = absurd (none-some h)
    go false h = inl (refl, h)

comes : (b : Book) (r : ℕ) (A : List Bool) (c : Call) → (does b c).0.reg r ≡ some A → Comes b r A c (does b c)
comes b r A (relation t bs) =
    relation_cases (λ (d : Done). d.0.reg r ≡ some A → Comes b r A (relation t bs) d) b t bs (λ k i j h. inl (refl, h))
    (λ l p q h. inl (refl, h))
comes b r A (set acc q R bs) =
    set_cases (λ (d : Done). d.0.reg r ≡ some A → Comes b r A (set acc q R bs) d) b acc q R bs
    (λ k i j h. inl (ap (λ (x : Bool). x && eqb r q) (eqb-suc-zero k), h))
    (λ l p k h. stored-comes b r A (means (model_of b) no_env (formula_in b Set bs)) acc q R bs k h)
comes b r A (clear q) =
    range_cases (λ (d : Done). d.0.reg r ≡ some A → Comes b r A (clear q) d) q registers _ _ (λ l h. cleared-comes b r A q h)
    (λ l h. inl (refl, h))
comes b r A (valid bs) =
    valid_cases (λ (d : Done). d.0.reg r ≡ some A → Comes b r A (valid bs) d) b bs (λ k i j h. inl (refl, h)) (λ t p h. inl (refl, h))
comes b r A collect = λ h. inl (refl, h)

-- an answered set of register r leaves its formula's meaning there
set_holds : (b : Book) (acc : Terms) (r R : ℕ) (bs : List ℕ) (A : List Bool) → (does b (set acc r R bs)).1.number ≡ 0
    → (does b (set acc r R bs)).0.reg r ≡ some A
    → Passed b Set bs × (A ≡ means (model_of b) no_env (formula_in b Set bs))
set_holds b acc r R bs A z h =
    let w = set-means b acc r R bs z in
    let M = means (model_of b) no_env (formula_in b Set bs) in
    let new : (does b (set acc r R bs)).0.reg r ≡ some M =
    ap (λ (x : Book). x.reg r) w.stored.book ∙ ap (λ (t : Bool). cond t (some M) (b.reg r)) (true_of (eqb r r) (eqb_refl r))
    in
    (w.passed, some_inj (sym h ∙ new))

-- a filled register was filled at the start and never touched since, or has a last answered set
pub last_set : (cs : List Call) (b : Book) (r : ℕ) (A : List Bool) → (play b cs).0.reg r ≡ some A
    → (Untouched r b cs × (b.reg r ≡ some A)) ⊎ LastSet b cs r A
last_set [] b r A h = inl (tt, h)
last_set (c ∷ cs) b r A h = go (last_set cs (does b c).0 r A h)
  where
    here : Untouched r (does b c).0 cs → (does b c).0.reg r ≡ some A → Comes b r A c (does b c)
        → (Untouched r b (c ∷ cs) × (b.reg r ≡ some A)) ⊎ LastSet b (c ∷ cs) r A
    here u i (inl w) = inl ((w.0, u), w.1)
    here u i (inr w) =
        let P : Call → Type 0 = λ x. ((does b x).1.number ≡ 0) × Untouched r (does b x).0 cs × ((does b x).0.reg r ≡ some A) in
        let x : P (set w.0 r w.1 w.2) = subst P w.3 (w.4, u, i) in
        let y = set_holds b w.0 r w.1 w.2 A x.0 x.2 in
        inr (record {
          before = [];
          terms = w.0;
          R = w.1;
          bytes = w.2;
          after = cs;
          split = ap (λ (k : Call). k ∷ cs) w.3;
          answered = x.0;
          last = x.1;
          passed = y.0;
          holds = y.1;
        })

    go : (Untouched r (does b c).0 cs × ((does b c).0.reg r ≡ some A)) ⊎ LastSet (does b c).0 cs r A
        → (Untouched r b (c ∷ cs) × (b.reg r ≡ some A)) ⊎ LastSet b (c ∷ cs) r A
    go (inl w) = here w.0 w.1 (comes b r A c w.1)
    go (inr w) = inr (record {
      before = c ∷ w.before;
      terms = w.terms;
      R = w.R;
      bytes = w.bytes;
      after = w.after;
      split = ap (λ (l : List Call). c ∷ l) w.split;
      answered = w.answered;
      last = w.last;
      passed = w.passed;
      holds = w.holds;
    })
