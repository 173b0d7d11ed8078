-- What a reply that agrees with the book says: rounds, states and members by their definitions; demand 2, after an answered set; no call of
-- a list is refused with 2; and the bound on rounds with one binder. Assumes nothing.
use mathlib.Core.Path.{◌≡◌, refl, sym, ap, ◌∙◌, subst}
use mathlib.Core.Logic.{◌↔◌}
use mathlib.Core.Bool.{Bool, true, false, cond, ◌&&◌}
use mathlib.Core.List.{List, [], ◌∷◌}
use mathlib.Core.Option.{Option, none, some}
use Prim.Native.Nat.{ℕ, suc, ◌≤◌, ◌^◌}
use native.Mathlib.Omega.{arith}
use lib.Dec.{T, ltb, eqb, eqb_refl}
use Rattle.mucalculus.specs.Sets.{mem}
use Rattle.mucalculus.proofs.Sets.{true_of}
use Rattle.mucalculus.specs.Order.{weight}
use Rattle.mucalculus.specs.Form.{no_env}
use Rattle.mucalculus.specs.Means.{means}
use Rattle.mucalculus.specs.Rounds.{rounds}
use Rattle.mucalculus.proofs.Rounds.{binders, rounds-bound}
use Rattle.tokens.specs.declared.Kind.TheVariants.{Relation, Set}
use Rattle.accounts.specs.declared.Terms.{Terms}
use Rattle.accounts.specs.Terms.{rounds_under}
use Rattle.book.specs.Over.{states}
use Rattle.book.specs.Ticks.{ticks, relation_ticks, peak, needs_in}
use Rattle.book.specs.Book.{formula_in, Book, Call, relation, set, valid, clear, collect, member, count, refused, registers, model_of}
use Rattle.book.specs.Book.{live_of, Done, asked, one_of, does, play, answer}
use Rattle.book.proofs.Stored.{range_cases, set_cases, relation_cases, valid_cases, some_inj, set-means, relation-means}
use Rattle.book.specs.Table.{Reply, SettledTo, Agrees}
use Rattle.book.specs.Demand.{Event, calls, AllAgree}

-- ---- an answered set

module _ (b : Book) (acc : Terms) (r R : ℕ) (bs : List ℕ) (y : Reply) (a : Agrees (does b (set acc r R bs)).1 y) (z : y.number ≡ 0) where
  -- its rounds are its formula's
  pub rounds-told : (y.rounds ≡ rounds (model_of b) no_env (formula_in b Set bs)) × (y.rounds ≤ rounds_under R acc)
  rounds-told =
      let w = (set-means b acc r R bs (sym a.number ∙ z)).stored in
      let q = a.rounds ∙ w.count in
      (q, subst (λ (k : ℕ). k ≤ rounds_under R acc) (sym q) w.within)

  -- its peak is the largest need of its steps
  pub peak-told : y.peak ≡ peak (needs_in (ticks (states (model_of b) no_env) (live_of b) (formula_in b Set bs)))
  peak-told = a.peak ∙ (set-means b acc r R bs (sym a.number ∙ z)).stored.peaks

  -- "With one binder in the formula the rounds are at most 2^n + 1"
  pub one_binder : binders (formula_in b Set bs) ≤ 1 → y.rounds ≤ suc (2 ^ b.n)
  one_binder h = subst (λ (k : ℕ). k ≤ suc (2 ^ b.n)) (sym rounds-told.0) (rounds-bound (model_of b) no_env (formula_in b Set bs) h)

  -- the register holds the states in which the formula holds
  pub set_leaves : (does b (set acc r R bs)).0.reg r ≡ some (means (model_of b) no_env (formula_in b Set bs))
  set_leaves =
      let M = means (model_of b) no_env (formula_in b Set bs) in
      ap (λ (x : Book). x.reg r) (set-means b acc r R bs (sym a.number ∙ z)).stored.book
      ∙ ap (λ (t : Bool). cond t (some M) (b.reg r)) (true_of (eqb r r) (eqb_refl r))

-- an answered relation's peak is the largest need of its steps
pub relation-peak : (b : Book) (t : ℕ) (bs : List ℕ) (y : Reply) → Agrees (does b (relation t bs)).1 y → y.number ≡ 0
    → y.peak ≡ peak (needs_in (relation_ticks b.n (live_of b) b.valid (formula_in b Relation bs)))
relation-peak b t bs y a z = a.peak ∙ (relation-means b t bs (sym a.number ∙ z)).peaks

-- ---- an answered question

module _ (b : Book) where
  -- the register is filled, and the value is that of its set
  asked-told : (g : List Bool → Option ℕ) (o : Option (List Bool)) → (asked o g).number ≡ 0
      → (A : List Bool) × (o ≡ some A) × ((asked o g).value ≡ g A)
  asked-told g none z = absurd (omega arith)
  asked-told g (some A) z = (A, refl, refl)

  ranged_told : (r : ℕ) (g : List Bool → Option ℕ) (t : Bool) → (cond t (asked (b.reg r) g) (refused 3)).number ≡ 0
      → (A : List Bool) × (b.reg r ≡ some A) × ((cond t (asked (b.reg r) g) (refused 3)).value ≡ g A)
  ranged_told r g true z = asked-told g (b.reg r) z
  ranged_told r g false z = absurd (omega arith)

  -- "count r (states in the set, 0 to 2^n)"
  pub count-told : (r : ℕ) (y : Reply) → Agrees (answer b (count r)) y → y.number ≡ 0
      → (A : List Bool) × (b.reg r ≡ some A) × (y.value ≡ weight true A)
  count-told r y a z =
      let w = ranged_told r (λ A. some (weight true A)) (ltb r registers) (sym a.number ∙ z) in
      (w.0, w.1, subst (λ (o : Option ℕ). SettledTo o y.value) w.2 a.value)

  -- 1 exactly where the state is in the register's set
  pub member-told : (r s : ℕ) (y : Reply) → Agrees (answer b (member r s)) y → y.number ≡ 0
      → (A : List Bool) × (b.reg r ≡ some A) × ((y.value ≡ 1) ↔ T (mem A s))
  member-told r s y a z =
      let w = ranged_told r (λ A. some (one_of (mem A s))) (ltb r registers && ltb s (2 ^ b.n)) (sym a.number ∙ z) in
      (w.0, w.1, one (mem w.0 s) (subst (λ (o : Option ℕ). SettledTo o y.value) w.2 a.value))
    where
      one : (m : Bool) → y.value ≡ one_of m → (y.value ≡ 1) ↔ T m
      one true e = ((λ i. tt), (λ i. e))
      one false e = ((λ i. absurd (omega arith)), (λ i. absurd i))

-- ---- DEMAND 2: "A state is in the set of an answered formula exactly when the mu-calculus says so"

module _ (b : Book) (acc : Terms) (r R : ℕ) (bs : List ℕ) (y : Reply) (a : Agrees (does b (set acc r R bs)).1 y) (z : y.number ≡ 0) where
  pub set-member : (s : ℕ) (x : Reply) → Agrees (answer (does b (set acc r R bs)).0 (member r s)) x → x.number ≡ 0
      → (x.value ≡ 1) ↔ T (mem (means (model_of b) no_env (formula_in b Set bs)) s)
  set-member s x h i =
      let w = member-told (does b (set acc r R bs)).0 r s x h i in
      subst (λ (A : List Bool). (x.value ≡ 1) ↔ T (mem A s)) (some_inj (sym w.1 ∙ set_leaves b acc r R bs y a z)) w.2

  pub set-count : (x : Reply) → Agrees (answer (does b (set acc r R bs)).0 (count r)) x → x.number ≡ 0
      → x.value ≡ weight true (means (model_of b) no_env (formula_in b Set bs))
  set-count x h i =
      let w = count-told (does b (set acc r R bs)).0 r x h i in
      subst (λ (A : List Bool). x.value ≡ weight true A) (some_inj (sym w.1 ∙ set_leaves b acc r R bs y a z)) w.2

-- ---- "Both change nothing", nor does a call that a check refuses

pub refused_keeps : (b : Book) (c : Call) → ((does b c).1.number ≡ 0 → ⊥) → (does b c).0 ≡ b
refused_keeps b (relation t bs) =
    relation_cases (λ (d : Done). (d.1.number ≡ 0 → ⊥) → d.0 ≡ b) b t bs (λ k i j n. refl) (λ l p q n. absurd (n refl))
refused_keeps b (set acc r R bs) =
    set_cases (λ (d : Done). (d.1.number ≡ 0 → ⊥) → d.0 ≡ b) b acc r R bs (λ k i j n. refl) (λ l p q n. absurd (n refl))
refused_keeps b (valid bs) =
    valid_cases (λ (d : Done). (d.1.number ≡ 0 → ⊥) → d.0 ≡ b) b bs (λ k i j n. refl) (λ t p n. absurd (n refl))
refused_keeps b (clear r) =
    range_cases (λ (d : Done). (d.1.number ≡ 0 → ⊥) → d.0 ≡ b) r registers _ _ (λ l n. absurd (n refl)) (λ l n. refl)
refused_keeps b collect = λ n. refl

-- ---- "Check 2 refuses none in such a list"

pub never-two : (b : Book) (c : Call) → (does b c).1.number ≡ 2 → ⊥
never-two b (relation t bs) =
    relation_cases (λ (d : Done). d.1.number ≡ 2 → ⊥) b t bs (λ k i j z. absurd (omega arith)) (λ l p q z. absurd (omega arith))
never-two b (set acc r R bs) =
    set_cases (λ (d : Done). d.1.number ≡ 2 → ⊥) b acc r R bs (λ k i j z. absurd (omega arith)) (λ l p q z. absurd (omega arith))
never-two b (valid bs) =
    valid_cases (λ (d : Done). d.1.number ≡ 2 → ⊥) b bs (λ k i j z. absurd (omega arith)) (λ t p z. absurd (omega arith))
never-two b (clear r) =
    range_cases (λ (d : Done). d.1.number ≡ 2 → ⊥) r registers _ _ (λ l z. absurd (omega arith)) (λ l z. absurd (omega arith))
never-two b collect = λ z. absurd (omega arith)

abbrev pub NoTwo : List Event → Type 0
NoTwo [] = Unit {0}
NoTwo (e ∷ l) = (e.1.number ≡ 2 → ⊥) × NoTwo l

pub no-two : (b : Book) (l : List Event) → AllAgree (play b (calls l)).1 l → NoTwo l
no-two b [] a = tt
no-two b (e ∷ l) a = ((λ z. never-two b e.0 (sym a.0.number ∙ z)), no-two (does b e.0).0 l a.1)
