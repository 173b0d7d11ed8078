-- Laws of what specs/Turns.antt defines. Assumes nothing.
use mathlib.Core.Path.{◌≡◌, refl, sym, ap, ◌∙◌, subst}
use mathlib.Core.Logic.{◌≢◌, inl, inr, by_cases}
use mathlib.Core.Bool.{Bool, true, false, true≢false}
use mathlib.Core.List.{List}
use Prim.Native.Nat.{ℕ, suc, ◌+◌, ◌-◌, ◌*◌, ◌/◌, ◌%◌, ◌≤◌, ◌<◌}
use native.Mathlib.Decide.{ℕ_discrete, dec_lt, dec_le}
use native.Mathlib.Omega.{arith}
use lib.Dec.{T}
use Rattle.mucalculus.proofs.Sets.{and_out}
use Rattle.coins.specs.Runs.{Transitions, PricedStep, price_of, total, mixed_into, is_mixed_run}
use Rattle.coins.specs.Cost.{CREDIT, step_cost, cost}
use Rattle.coins.specs.Marks.{Marks, Reason, MOST, Listed, Standing}
use Rattle.coins.proofs.Marks.{Goal, Done, Least, run-below, cost-marked, total-marked}
use Rattle.coins.specs.Added.{Added}
use Rattle.coins.specs.Turns.{Grown, Expanded}

pub grown-none : (M : Marks) (m : ℕ) → Grown M M m
grown-none M m = record {
  more = omega arith;
  before = λ i l. refl;
  kept = λ t y. refl;
  new = λ t e y. absurd (omega arith);
  late = λ i l h. absurd (omega arith);
}

pub grown-one : {M N : Marks} {s m : ℕ} → M.mark s ≡ 0 → Added M N s m → Grown M N m
grown-one {M} {N} {s} {m} bare a = record {
  more = let c = a.count in omega arith;
  before = a.before;
  kept = λ t y. a.others t (λ e. let z : M.mark t ≡ 0 = ap M.mark e ∙ bare in omega arith);
  new = λ t e y. by_cases (ℕ_discrete t s) (λ q. ap N.mark q ∙ a.mark) (λ n. let o = a.others t n in absurd (omega arith));
  late = λ i l h. let c = a.count in
      let e : i ≡ M.count = omega arith in ap (λ (x : ℕ). N.mark (N.at x)) e ∙ ap N.mark a.last ∙ a.mark;
}

-- the states at the places before are the same, with their marks
pub grown-at : {M N : Marks} {m : ℕ} → Grown M N m → (i : ℕ) → i < M.count → 1 ≤ M.mark (M.at i) → N.mark (N.at i) ≡ M.mark (M.at i)
grown-at {M} {N} g i l y = ap N.mark (g.before i l) ∙ g.kept (M.at i) y

pub grown-more : {M N O : Marks} {m : ℕ} → Grown M N m → Grown N O m → ((i : ℕ) → i < N.count → 1 ≤ N.mark (N.at i)) → Grown M O m
grown-more {M} {N} {O} {m} g h marked = record {
  more = let a = g.more in let b = h.more in omega arith;
  before = λ i l. h.before i (let a = g.more in omega arith) ∙ g.before i l;
  kept = λ t y. h.kept t (let e = g.kept t y in omega arith) ∙ g.kept t y;
  new = λ t e y. by_cases (dec_le 1 (N.mark t)) (λ z. h.kept t z ∙ g.new t e z) (λ n. h.new t (omega arith) y);
  late = λ i l y. by_cases (dec_lt i N.count) (λ z. grown-at h i z (marked i z) ∙ g.late i l z) (λ n. h.late i (omega arith) y);
}

-- what is added has the greatest mark so far and a reason for it: the search stands as before
module _ {k : ℕ} {leads : Transitions} {B : ℕ → Bool} {prices : List ℕ} {M : Marks} (S : Standing k leads B prices M)
    (cheap : (r : ℕ) → price_of prices r ≤ 255) where
  reason-steps : (s m : ℕ) → Reason k leads B prices M s m → (m - 1) % CREDIT ≤ M.count
  reason-steps s m (inl g) = let e = g.1 in omega arith
  reason-steps s m (inr b) =
      let (j, h, e) = S.order.placed b.state b.below b.marked in
      let q : (M.mark b.state - 1) % CREDIT ≤ j = subst (λ (x : ℕ). (M.mark x - 1) % CREDIT ≤ j) e (S.steps j h) in
      let x = b.exact in
      let y = b.marked in
      let c = S.order.counted in
      let f = S.order.few in
      omega arith

  reason-height : (s m : ℕ) → Reason k leads B prices M s m → m ≤ 1 + M.count * MOST
  reason-height s m (inl g) = let e = g.1 in omega arith
  reason-height s m (inr b) =
      let (j, h, e) = S.order.placed b.state b.below b.marked in
      let q : M.mark b.state ≤ 1 + j * MOST = subst (λ (x : ℕ). M.mark x ≤ 1 + j * MOST) e (S.height j h) in
      let x = b.exact in
      let c = cheap b.relation in
      omega arith

  module _ {N : Marks} {m : ℕ} (G : Grown M N m) (L : Listed k N) (greatest : (i : ℕ) → i < M.count → M.mark (M.at i) ≤ m)
      (why : (u : ℕ) → u < k → M.mark u ≡ 0 → 1 ≤ N.mark u → Reason k leads B prices M u m) where
    old_at : (i : ℕ) → i < M.count → N.mark (N.at i) ≡ M.mark (M.at i)
    old_at i l = grown-at G i l (S.order.listed i l).1

    -- the state at a new place had no mark
    was_bare : (i : ℕ) → M.count ≤ i → i < N.count → M.mark (N.at i) ≡ 0
    was_bare i l h = by_cases (dec_le 1 (M.mark (N.at i)))
        (λ y.
        let (j, g, e) = S.order.placed (N.at i) (L.listed i h).0 y in
        let q : j ≡ i = L.once j i (let a = G.more in omega arith) h (G.before j g ∙ e) in
        absurd (omega arith))
        (λ n. omega arith)

    why_late : (i : ℕ) → M.count ≤ i → i < N.count → Reason k leads B prices M (N.at i) m
    why_late i l h = why (N.at i) (L.listed i h).0 (was_bare i l h) (L.listed i h).1

    kept-reason : (t x : ℕ) → Reason k leads B prices M t x → Reason k leads B prices N t x
    kept-reason t x (inl g) = inl g
    kept-reason t x (inr b) = inr (record {
      relation = b.relation;
      state = b.state;
      below = b.below;
      step = b.step;
      marked = let e = G.kept b.state b.marked in let y = b.marked in omega arith;
      exact = let e = G.kept b.state b.marked in let x = b.exact in omega arith;
    })

    pub grown-standing : Standing k leads B prices N
    grown-standing = record {
      order = L;
      ordered = λ i j h l. by_cases (dec_lt j M.count)
          (λ y. let a = old_at i (omega arith) in let b = old_at j y in let o = S.ordered i j h y in omega arith)
          (λ n. let b = G.late j (omega arith) l in by_cases (dec_lt i M.count)
          (λ y. let a = old_at i y in let o = greatest i y in omega arith)
          (λ z. let a = G.late i (omega arith) (omega arith) in omega arith));
      reason = λ t l y. by_cases (dec_le 1 (M.mark t))
          (λ z. subst (λ (x : ℕ). Reason k leads B prices N t x) (sym (G.kept t z)) (kept-reason t (M.mark t) (S.reason t l z)))
          (λ n. subst (λ (x : ℕ). Reason k leads B prices N t x) (sym (G.new t (omega arith) y))
          (kept-reason t m (why t l (omega arith) y)));
      steps = λ i l. by_cases (dec_lt i M.count)
          (λ y. subst (λ (x : ℕ). (x - 1) % CREDIT ≤ i) (sym (old_at i y)) (S.steps i y))
          (λ n. let e = G.late i (omega arith) l in let q = reason-steps (N.at i) m (why_late i (omega arith) l) in
          subst (λ (x : ℕ). (x - 1) % CREDIT ≤ i) (sym e) (omega arith));
      height = λ i l. by_cases (dec_lt i M.count)
          (λ y. let e = old_at i y in let h = S.height i y in omega arith)
          (λ n. let e = G.late i (omega arith) l in let q = reason-height (N.at i) m (why_late i (omega arith) l) in omega arith);
    }

-- where the search stands: relation r has done the first `done r` of the order, no state of A is at one of the first `seen` places
pub record Searching (k : ℕ) (leads : Transitions) (filled A B : ℕ → Bool) (prices : List ℕ) (M : Marks) (done : ℕ → ℕ) (seen : ℕ)
    : Type 0 where
  pub standing : Standing k leads B prices M
  pub goal : Goal k B M
  pub over : Done k leads prices M done
  pub within : (r : ℕ) → done r ≤ M.count
  -- the greatest mark, and none that is left gives less
  pub top : ℕ
  pub some : 1 ≤ top
  pub greatest : (i : ℕ) → i < M.count → M.mark (M.at i) ≤ top
  pub left : Least filled prices M done top
  pub unseen : (i : ℕ) → i < seen → A (M.at i) ≡ false

-- relation r has one done more
abbrev pub OneMore : (ℕ → ℕ) → (ℕ → ℕ) → ℕ → Type 0
OneMore done next r = (next r ≡ suc (done r)) × ((q : ℕ) → q ≢ r → next q ≡ done q)

module _ (k : ℕ) (leads : Transitions) (filled A B : ℕ → Bool) (prices : List ℕ) (M : Marks) (done : ℕ → ℕ)
    (used : (r s t : ℕ) → T (leads r s t) → T (filled r))
    (S : Searching k leads filled A B prices M done M.count) where
  -- no run costs less than the least mark that is left, as none of its first states is in A
  pub none-less : (m : ℕ) → Least filled prices M done m → (s : ℕ) (l : List PricedStep) → T (is_mixed_run k leads A B s l)
      → (m ≤ cost prices l + 1) × ((m - 1) / CREDIT ≤ total prices l)
  none-less m L s l t = (by-cost, by_total)
    where
      w : T (A s) × T (mixed_into k leads B s l)
      w = and_out (A s) _ t

      not-marked : 1 ≤ M.mark s → ⊥
      not-marked y =
          let (i, h, e) = S.standing.order.placed s (run-below k leads B s l w.1) y in
          true≢false (sym (true-is (A s) w.0) ∙ ap A (sym e) ∙ S.unseen i h)
        where
          true-is : (b : Bool) → T b → b ≡ true
          true-is true x = refl
          true-is false x = absurd x

      by-cost : m ≤ cost prices l + 1
      by-cost = by_cases (dec_le m (cost prices l + 1)) (λ y. y)
          (λ n. absurd
          (not-marked
          (cost-marked k leads filled B prices M done m used S.standing S.goal S.over L s l w.1 (omega arith)).0))

      by_total : (m - 1) / CREDIT ≤ total prices l
      by_total = by_cases (dec_lt ((total prices l + 1) * CREDIT) m)
          (λ y. absurd
          (not-marked (total-marked k leads filled B prices M done m used S.standing S.goal S.over L s l w.1 y).0))
          (λ n. omega arith)

  -- where nothing is left, there is no run
  pub no-run : ((r : ℕ) → T (filled r) → M.count ≤ done r) → (s : ℕ) (l : List PricedStep) → T (is_mixed_run k leads A B s l) → ⊥
  no-run over s l t =
      let h = (none-less (cost prices l + 2) (λ r i f g y. absurd (let o = over r f in omega arith)) s l t).0 in
      omega arith

  module _ (N : Marks) (next : ℕ → ℕ) (r m : ℕ) (f : T (filled r)) (open-place : done r < M.count)
      (is : m ≡ M.mark (M.at (done r)) + step_cost prices r) (L : Least filled prices M done m)
      (E : Expanded k leads M N r (M.at (done r)) m) (cheap : (q : ℕ) → price_of prices q ≤ 255) (more : OneMore done next r) where
    marked : (i : ℕ) → i < M.count → 1 ≤ M.mark (M.at i)
    marked i l = (S.standing.order.listed i l).1

    same_at : (i : ℕ) → i < M.count → N.mark (N.at i) ≡ M.mark (M.at i)
    same_at i l = grown-at E.grown i l (marked i l)

    top_least : S.top ≤ m
    top_least = let q = S.left r (done r) f (omega arith) open-place in omega arith

    -- a marked state's mark is at most m
    most : (u : ℕ) → u < k → 1 ≤ N.mark u → N.mark u ≤ m
    most u l y = by_cases (dec_le 1 (M.mark u))
        (λ z.
        let (i, h, e) = S.standing.order.placed u l z in
        let g = S.greatest i h in
        let q : M.mark (M.at i) ≡ M.mark u = ap M.mark e in
        let t = top_least in
        let n = E.grown.kept u z in
        omega arith)
        (λ n. let e = E.grown.new u (omega arith) y in omega arith)

    over-next : Done k leads prices N next
    over-next q i u l lu h = by_cases (dec_lt i (done q)) old new
      where
        old : i < done q → (1 ≤ N.mark u) × (N.mark u ≤ N.mark (N.at i) + step_cost prices q)
        old y =
            let w : i < M.count = let b = S.within q in omega arith in
            let o = S.over q i u y lu (subst (λ (x : ℕ). T (leads q u x)) (E.grown.before i w) h) in
            let z = o.0 in
            let b = o.1 in
            let n = E.grown.kept u z in
            let a = same_at i w in
            (omega arith, omega arith)

        new : (i < done q → ⊥) → (1 ≤ N.mark u) × (N.mark u ≤ N.mark (N.at i) + step_cost prices q)
        new n = by_cases (ℕ_discrete q r) here (λ d. absurd (let c = more.1 q d in omega arith))
          where
            here : q ≡ r → (1 ≤ N.mark u) × (N.mark u ≤ N.mark (N.at i) + step_cost prices q)
            here e =
                let x : next q ≡ suc (done r) = ap next e ∙ more.0 in
                let y : done q ≡ done r = ap done e in
                let z : i ≡ done r = omega arith in
                let at : N.at i ≡ M.at (done r) = ap N.at z ∙ E.grown.before (done r) open-place in
                let y : 1
                ≤ N.mark u =
                E.complete u lu (subst (λ (b : ℕ). T (leads b u (M.at (done r)))) e (subst (λ (b : ℕ). T (leads q u b)) at h)) in
                let c = most u lu y in
                let a : N.mark (N.at i) ≡ M.mark (M.at (done r)) = ap (λ (b : ℕ). N.mark (N.at b)) z ∙ same_at (done r) open-place in
                let p : step_cost prices q ≡ step_cost prices r = ap (step_cost prices) e in
                (y, omega arith)

    -- the search stands after the turn
    pub turned : Searching k leads filled A B prices N next M.count
    turned = record {
      standing =
          grown-standing S.standing cheap E.grown E.order (λ i l. let g = S.greatest i l in let b = top_least in omega arith)
          (λ u l e y. let o = E.only u l e y in let z = marked (done r) open-place in let q = o.like in inr (record {
            relation = r;
            state = o.state;
            below = o.below;
            step = o.step;
            marked = omega arith;
            exact = omega arith;
          }));
      goal = λ s l b. let e = S.goal s l b in E.grown.kept s (omega arith) ∙ e;
      over = over-next;
      within = λ q. let g = E.grown.more in by_cases (ℕ_discrete q r)
          (λ e. let x : next q ≡ suc (done r) = ap next e ∙ more.0 in omega arith)
          (λ n. let x = more.1 q n in let b = S.within q in omega arith);
      top = m;
      some = let a = S.some in let b = top_least in omega arith;
      greatest = λ i l. by_cases (dec_lt i M.count)
          (λ y. let a = same_at i y in let g = S.greatest i y in let b = top_least in omega arith)
          (λ n. let a = E.grown.late i (omega arith) l in omega arith);
      left = λ q i g y l. by_cases (dec_lt i M.count)
          (λ z. let a = same_at i z in let b = L q i g (before q y) z in omega arith)
          (λ n. let a = E.grown.late i (omega arith) l in omega arith);
      unseen = λ i l. ap A (E.grown.before i l) ∙ S.unseen i l;
    }
      where
        before : (q : ℕ) {i : ℕ} → next q ≤ i → done q ≤ i
        before q y = by_cases (ℕ_discrete q r)
            (λ e. let x : next q ≡ suc (done r) = ap next e ∙ more.0 in let z : done q ≡ done r = ap done e in omega arith)
            (λ n. let x = more.1 q n in omega arith)
