-- The rounds of the game: they grow, they end with the least set, and a state's answer lies in the set before the round in which it enters.
-- Assumes nothing.
use mathlib.Core.Path.{◌≡◌, refl, sym, ap, ap₂, ◌∙◌, subst}
use mathlib.Core.Logic.{◌⊎◌, inl, inr, ◌≢◌}
use mathlib.Core.Bool.{Bool, true, false, not, ◌&&◌, ◌||◌, cond}
use mathlib.Core.List.{List}
use Prim.Native.Nat.{ℕ, zero, suc, ◌+◌, ◌-◌, ◌≤◌, ◌<◌}
use native.Mathlib.Nat.{lt_of_not-le}
use native.Mathlib.Omega.{arith}
use lib.Dec.{T, ltb, ltb→lt, lt→ltb}
use lib.ListN.{length}
use Rattle.mucalculus.specs.Sets.{mem, table, all_states, all, any}
use Rattle.mucalculus.proofs.Sets.{and_in, and_out, or_left, or_right, or_out, true_of, false_of, length-table, mem-table, mem-no_states}
use Rattle.mucalculus.proofs.Sets.{all_in, all_out, any_in, any_out}
use Rattle.mucalculus.specs.Order.{Below, start}
use Rattle.mucalculus.specs.Fixpoint.{Into}
use Rattle.mucalculus.proofs.Fixpoint.{iter, Mono, into-all, iter_found, fix_fixed, fix_bound, stable}
use Rattle.mucalculus.specs.Binder.{Least}
use Rattle.mucalculus.proofs.Laws.{table_out}
use Rattle.mucalculus.specs.Form.{Pairs}
use Rattle.mucalculus.specs.Means.{pair}
use Rattle.book.proofs.Diamond.{table_in}
use Rattle.paths.specs.Runs.{first_of}
use Rattle.paths.proofs.First.{first_found, first-least, first-is, first-same}
use Rattle.games.specs.Game.{has_move, has_answer, forcing, forced, set_after, enters, answer_to, open_move, answerable}

-- ---- quantifiers over the states

pub some_out : (k : ℕ) (q : ℕ → Bool) → T (any q (table k (λ t. t))) → (t : ℕ) × (t < k) × T (q t)
some_out k q p = let w = any_out q (table k (λ t. t)) p in (w.0, table_out k (λ t. t) (λ t. t < k) (λ t l. l) w.0 w.1, w.2)

pub some_in : (k : ℕ) (q : ℕ → Bool) (t : ℕ) → t < k → T (q t) → T (any q (table k (λ t. t)))
some_in k q t l p = any_in q (table_in k (λ t. t) t l) p

pub every_out : (k : ℕ) (q : ℕ → Bool) → T (all q (table k (λ t. t))) → (t : ℕ) → t < k → T (q t)
every_out k q p t l = all_out q (table_in k (λ t. t) t l) p

pub every_in : (k : ℕ) (q : ℕ → Bool) → ((t : ℕ) → t < k → T (q t)) → T (all q (table k (λ t. t)))
every_in k q h = all_in q (table k (λ t. t)) (table_out k (λ t. t) (λ t. T (q t)) h)

imply_in : (a b : Bool) → (T a → T b) → T (not a || b)
imply_in true b h = h tt
imply_in false b h = tt

imply_out : (a b : Bool) → T (not a || b) → T a → T b
imply_out true b p t = p
imply_out false b p t = absurd t

pub not_in : (a : Bool) → (T a → ⊥) → T (not a)
not_in true h = h tt
not_in false h = tt

pub not_out : (a : Bool) → T (not a) → T a → ⊥
not_out true p t = p
not_out false p t = t

same_test : (a b : Bool) → (T a → T b) → (T b → T a) → a ≡ b
same_test true true f g = refl
same_test true false f g = absurd (f tt)
same_test false true f g = absurd (g tt)
same_test false false f g = refl

-- an answer to the press t into A
abbrev pub Answer : ℕ → Pairs → List Bool → ℕ → Type 0
Answer k M A t = (u : ℕ) × (u < k) × T (pair M t u) × T (mem A u)

pub answers_out : (k : ℕ) (M : Pairs) (A : List Bool) (t : ℕ) → T (has_answer k M A t) → Answer k M A t
answers_out k M A t p =
    let w = some_out k (λ u. pair M t u && mem A u) p in
    let v = and_out (pair M t w.0) (mem A w.0) w.2 in
    (w.0, w.1, v.0, v.1)

pub answers_in : (k : ℕ) (M : Pairs) (A : List Bool) (t u : ℕ) → u < k → T (pair M t u) → T (mem A u) → T (has_answer k M A t)
answers_in k M A t u l p q = some_in k (λ u. pair M t u && mem A u) u l (and_in (pair M t u) (mem A u) p q)

module _ (k : ℕ) (G M : Pairs) (B : List Bool) where
  -- ---- one round

  -- what is wanted of a state outside the goal
  abbrev test : List Bool → ℕ → Bool
  test A s = mem B s || (has_move k G s && all (λ t. not (pair G s t) || has_answer k M A t) (table k (λ t. t)))

  pub forcing-lt : (A : List Bool) (s : ℕ) → T (mem (forcing k G M B A) s) → s < k
  forcing-lt A s p = ltb→lt s k (and_out (ltb s k) _ (subst T (mem-table k (test A) s) p)).0

  pub forcing_out : (A : List Bool) (s : ℕ) → T (mem (forcing k G M B A) s)
      → T (mem B s) ⊎ (T (has_move k G s) × ((t : ℕ) → t < k → T (pair G s t) → T (has_answer k M A t)))
  forcing_out A s p = go (or_out (mem B s) _ (and_out (ltb s k) _ (subst T (mem-table k (test A) s) p)).1)
    where
      go : T (mem B s) ⊎ T (has_move k G s && all (λ t. not (pair G s t) || has_answer k M A t) (table k (λ t. t)))
          → T (mem B s) ⊎ (T (has_move k G s) × ((t : ℕ) → t < k → T (pair G s t) → T (has_answer k M A t)))
      go (inl q) = inl q
      go (inr q) =
          let w = and_out (has_move k G s) _ q in
          inr (w.0, λ t l. imply_out (pair G s t) (has_answer k M A t) (every_out k (λ t. not (pair G s t) || has_answer k M A t) w.1 t l))

  forcing-by : (A : List Bool) (s : ℕ) → s < k → T (test A s) → T (mem (forcing k G M B A) s)
  forcing-by A s l p = subst T (sym (mem-table k (test A) s)) (and_in (ltb s k) _ (lt→ltb s k l) p)

  pub forcing-goal : (A : List Bool) (s : ℕ) → s < k → T (mem B s) → T (mem (forcing k G M B A) s)
  forcing-goal A s l p = forcing-by A s l (or_left (mem B s) _ p)

  pub forcing_moves : (A : List Bool) (s : ℕ) → s < k → T (has_move k G s)
      → ((t : ℕ) → t < k → T (pair G s t) → T (has_answer k M A t)) → T (mem (forcing k G M B A) s)
  forcing_moves A s l p h =
      forcing-by A s l
      (or_right (mem B s) _
      (and_in (has_move k G s) _ p
      (every_in k (λ t. not (pair G s t) || has_answer k M A t) (λ t i. imply_in (pair G s t) (has_answer k M A t) (h t i)))))

  -- more states force more
  pub forcing_mono : Mono (forcing k G M B)
  forcing_mono A C h s p = go (forcing_out A s p)
    where
      go : T (mem B s) ⊎ (T (has_move k G s) × ((t : ℕ) → t < k → T (pair G s t) → T (has_answer k M A t))) → T (mem (forcing k G M B C) s)
      go (inl q) = forcing-goal C s (forcing-lt A s p) q
      go (inr (q, r)) = forcing_moves C s (forcing-lt A s p) q (λ t l g.
          let w = answers_out k M A t (r t l g) in answers_in k M C t w.0 w.1 w.2 (h w.0 w.3))

  -- ---- the least set

  forcing-size : (A : List Bool) → length (forcing k G M B A) ≡ k
  forcing-size A = length-table k (test A)

  forcing-into : Into (all_states k) (forcing k G M B)
  forcing-into = into-all k (forcing k G M B) forcing-size

  after_iter : (i : ℕ) → set_after k G M B i ≡ iter (forcing k G M B) i (start true k (all_states k))
  after_iter zero = refl
  after_iter (suc i) = ap (forcing k G M B) (after_iter i)

  -- "least such set"
  pub forced-least : Least (forcing k G M B) (forced k G M B)
  forced-least = record {
    fixed = fix_fixed k (all_states k) (forcing k G M B) forcing-size forcing-into forcing_mono true;
    least = λ A e. fix_bound k (all_states k) (forcing k G M B) forcing-size forcing-into true A e;
  }

  -- after 2^n rounds nothing changes
  pub after-rests : set_after k G M B (suc k) ≡ set_after k G M B k
  after-rests =
      after_iter (suc k) ∙ stable k (all_states k) (forcing k G M B) forcing-size forcing-into forcing_mono true ∙ sym (after_iter k)

  -- a round that gives the same set again has made the set
  pub after-found : (i : ℕ) → set_after k G M B (suc i) ≡ set_after k G M B i → set_after k G M B i ≡ forced k G M B
  after-found i e =
      after_iter i
      ∙ iter_found k (all_states k) (forcing k G M B) forcing-size forcing-into forcing_mono true i (sym (after_iter
      (suc i)) ∙ e ∙ after_iter i)

  pub after-all : set_after k G M B k ≡ forced k G M B
  after-all = after-found k after-rests

  pub after-size : (i : ℕ) → length (set_after k G M B i) ≡ k
  after-size zero = length-table k _
  after-size (suc i) = forcing-size (set_after k G M B i)

  -- the rounds grow
  climbs : (i : ℕ) → Below (set_after k G M B i) (set_after k G M B (suc i))
  climbs zero s p = absurd (mem-no_states k s p)
  climbs (suc i) s p = forcing_mono (set_after k G M B i) (set_after k G M B (suc i)) (climbs i) s p

  grown : (d i : ℕ) → Below (set_after k G M B i) (set_after k G M B (d + i))
  grown zero i s p = let z : 0 + i ≡ i = omega arith in subst (λ (j : ℕ). T (mem (set_after k G M B j) s)) (sym z) p
  grown (suc d) i s p =
      let z : suc d + i ≡ suc (d + i) = omega arith in
      subst (λ (j : ℕ). T (mem (set_after k G M B j) s)) (sym z) (climbs (d + i) s (grown d i s p))

  pub grows : (i j : ℕ) → i ≤ j → Below (set_after k G M B i) (set_after k G M B j)
  grows i j l s p =
      let e : (j - i) + i ≡ j = omega arith in
      subst (λ (m : ℕ). T (mem (set_after k G M B m) s)) e (grown (j - i) i s p)

  -- past round k nothing is new
  rested : (d : ℕ) → set_after k G M B (suc (d + k)) ≡ set_after k G M B (d + k)
  rested zero = let z : 0 + k ≡ k = omega arith in subst (λ (m : ℕ). set_after k G M B (suc m) ≡ set_after k G M B m) (sym z) after-rests
  rested (suc d) =
      let z : suc d + k ≡ suc (d + k) = omega arith in
      subst (λ (m : ℕ). set_after k G M B (suc m) ≡ set_after k G M B m) (sym z) (ap (forcing k G M B) (rested d))

  pub rests : (i : ℕ) → k ≤ i → set_after k G M B (suc i) ≡ set_after k G M B i
  rests i l =
      let e : (i - k) + k ≡ i = omega arith in
      subst (λ (m : ℕ). set_after k G M B (suc m) ≡ set_after k G M B m) e (rested (i - k))

  pub still-below : (i : ℕ) → set_after k G M B (suc i) ≢ set_after k G M B i → i < k
  still-below i ne = lt_of_not-le (λ l. ne (rests i l))

  -- every round's states are of the set, and the set's states come in some round up to k
  pub after_in : (i : ℕ) → Below (set_after k G M B i) (forced k G M B)
  after_in zero s p = absurd (mem-no_states k s p)
  after_in (suc i) s p =
      subst (λ (A : List Bool). T (mem A s)) forced-least.fixed (forcing_mono (set_after k G M B i) (forced k G M B) (after_in i) s p)

  -- ---- the round in which a state enters

  abbrev at : ℕ → ℕ → Bool
  at s i = mem (set_after k G M B i) s

  pub enters-le : (s i : ℕ) → i ≤ k → T (mem (set_after k G M B i) s) → enters k G M B s ≤ i
  enters-le s i l p = first-least (suc k) (at s) i (omega arith) p

  pub enters_in : (s : ℕ) → enters k G M B s ≤ k → T (mem (set_after k G M B (enters k G M B s)) s)
  enters_in s l = first_found (suc k) (at s) (omega arith)

  pub enters-forced : (s : ℕ) → T (mem (forced k G M B) s) → enters k G M B s ≤ k
  enters-forced s p = enters-le s k (omega arith) (subst (λ (A : List Bool). T (mem A s)) (sym after-all) p)

  pub forced-enters : (s : ℕ) → enters k G M B s ≤ k → T (mem (forced k G M B) s)
  forced-enters s l = after_in (enters k G M B s) s (enters_in s l)

  -- no state is in the set before the first round
  pub enters-some : (s : ℕ) → 0 < enters k G M B s
  enters-some s = lt_of_not-le (λ l. let z : enters k G M B s ≡ 0 = omega arith in
      mem-no_states k s (subst (λ (i : ℕ). T (mem (set_after k G M B i) s)) z (enters_in s (omega arith))))

  -- a state that a round brings enters in it
  pub enters_is : (s i : ℕ) → i < k → (T (mem (set_after k G M B i) s) → ⊥) → T (mem (set_after k G M B (suc i)) s) → enters k G M B s ≡ suc i
  enters_is s i l out p =
      first-is (suc k) (at s) (suc i) (omega arith) p
      (λ j h. false_of (at s j) (λ q. out (grows j i (omega arith) s q)))

  -- "enters in an earlier round": is in the set before
  earlier : (i u : ℕ) → i ≤ k → ltb (enters k G M B u) (suc i) ≡ mem (set_after k G M B i) u
  earlier i u l = same_test (ltb (enters k G M B u) (suc i)) (mem (set_after k G M B i) u)
      (λ p. let h = ltb→lt (enters k G M B u) (suc i) p in grows (enters k G M B u) i (omega arith) u (enters_in u (omega arith)))
      (λ p. let h = enters-le u i l p in lt→ltb (enters k G M B u) (suc i) (omega arith))

  -- the least answer to the press t into the set after i rounds; k where there is none
  abbrev pub least_into : ℕ → ℕ → ℕ
  least_into t i = first_of k (λ u. pair M t u && mem (set_after k G M B i) u)

  pub answer_near : (s t i : ℕ) → i ≤ k → enters k G M B s ≡ suc i
      → answer_to k G M B s t ≡ least_into t i
  answer_near s t i l e =
      first-same k (λ u. pair M t u && ltb (enters k G M B u) (enters k G M B s)) (λ u. pair M t u && mem (set_after k G M B i) u)
      (λ u h. ap (λ (b : Bool). pair M t u && b) (ap (ltb (enters k G M B u)) e ∙ earlier i u l))

  -- ---- the answer

  -- a machine move to the press, into a state of the set that enters earlier
  pub record Good (s t u : ℕ) : Type 0 where
    pub state : u < k
    pub move : T (pair M t u)
    pub earlier : enters k G M B u < enters k G M B s
    pub in-set : T (mem (forced k G M B) u)

  module _ (s t : ℕ) (l : t < k) (out : T (mem B s) → ⊥) (press : T (pair G s t)) where
    -- of a state that enters in round i + 1 some answer is in the set before
    answer-some : (i : ℕ) → T (mem (set_after k G M B (suc i)) s) → Answer k M (set_after k G M B i) t
    answer-some i p = go (forcing_out (set_after k G M B i) s p)
      where
        go : T (mem B s) ⊎ (T (has_move k G s) × ((t : ℕ) → t < k → T (pair G s t) → T (has_answer k M (set_after k G M B i) t)))
            → Answer k M (set_after k G M B i) t
        go (inl q) = absurd (out q)
        go (inr (q, r)) = answers_out k M (set_after k G M B i) t (r t l press)

    pub answer_lt : (i : ℕ) → T (mem (set_after k G M B (suc i)) s) → least_into t i < k
    answer_lt i p =
        let w = answer-some i p in
        let h = first-least k (λ u. pair M t u && mem (set_after k G M B i) u) w.0 w.1 (and_in (pair M t w.0) _ w.2 w.3) in
        let m = w.1 in
        omega arith

    pub answer-good : T (mem (forced k G M B) s) → Good s t (answer_to k G M B s t)
    answer-good p = go (enters k G M B s) refl (enters-forced s p)
      where
        go : (e : ℕ) → enters k G M B s ≡ e → e ≤ k → Good s t (answer_to k G M B s t)
        go zero q h = let z = enters-some s in absurd (omega arith)
        go (suc i) q h =
            let inn : T (mem (set_after k G M B (suc i)) s) = subst (λ (j : ℕ). T (mem (set_after k G M B j) s)) q
            (enters_in s (omega arith)) in
            let lt : answer_to k G M B s t < k = subst (λ (x : ℕ). x < k) (sym (answer_near s t i (omega arith) q)) (answer_lt i inn) in
            let w = and_out (pair M t (answer_to k G M B s t)) _
            (first_found k (λ u. pair M t u && ltb (enters k G M B u) (enters k G M B s)) lt) in
            let sooner = ltb→lt (enters k G M B (answer_to k G M B s t)) (enters k G M B s) w.1 in
            record { state = lt; move = w.0; earlier = sooner; in-set = forced-enters (answer_to k G M B s t) (omega arith) }

  -- "the least machine answer": no lesser one enters earlier
  pub answer-least : (s t u : ℕ) → u < k → T (pair M t u) → enters k G M B u < enters k G M B s → answer_to k G M B s t ≤ u
  answer-least s t u l p e =
      first-least k (λ u. pair M t u && ltb (enters k G M B u) (enters k G M B s)) u l
      (and_in (pair M t u) _ p (lt→ltb (enters k G M B u) (enters k G M B s) e))

  -- ---- the answer noted as the rounds go

  -- after round i, o saying whether the press is to be answered at all: k where it is not, or where the state is not in the set yet; else
  -- the answer
  pub record Noted (o : Bool) (s t i x : ℕ) : Type 0 where
    pub shut : o ≡ false → x ≡ k
    pub not_yet : (T (mem (set_after k G M B i) s) → ⊥) → x ≡ k
    pub found : T (mem (set_after k G M B i) s) → T o → (x ≡ answer_to k G M B s t) × (x < k)

  pub noted-none : (o : Bool) (s t : ℕ) → Noted o s t 0 k
  noted-none o s t = record { shut = λ _. refl; not_yet = λ _. refl; found = λ p. absurd (mem-no_states k s p) }

  -- what a round notes: the one in which the state enters decides
  abbrev pub noting : Bool → ℕ → ℕ → ℕ → ℕ → ℕ
  noting o s t i x =
      let least = least_into t i in
      let entered = cond (mem (set_after k G M B (suc i)) s) least x in
      let open-press = cond (mem (set_after k G M B i) s) x entered in
      cond o open-press x

  pub noted-next : (o : Bool) (s t i x : ℕ) → o ≡ open_move G B s t → t < k → i < k → Noted o s t i x
      → Noted o s t (suc i) (noting o s t i x)
  noted-next false s t i x is l more n = record {
    shut = n.shut;
    not_yet = λ out. n.not_yet (λ p. out (climbs i s p));
    found = λ p h. absurd h;
  }
  noted-next true s t i x is l more n = record {
    shut = λ h. absurd (subst T h tt);
    not_yet = λ out.
        let before : T (at s i) → ⊥ = λ p. out (climbs i s p) in
        by (false_of (at s i) before) (false_of (at s (suc i)) out) ∙ n.not_yet before;
    found = λ p h. go (at s i) refl p;
  }
    where
      press : T (not (mem B s)) × T (pair G s t)
      press = and_out (not (mem B s)) (pair G s t) (subst T is tt)

      by : {a c : Bool} → at s i ≡ a → at s (suc i) ≡ c → noting true s t i x ≡ cond a x (cond c (least_into t i) x)
      by e f = ap₂ (λ (a c : Bool). cond a x (cond c (least_into t i) x)) e f

      go : (b : Bool) → at s i ≡ b → T (at s (suc i)) → (noting true s t i x ≡ answer_to k G M B s t) × (noting true s t i x < k)
      go true e p =
          let f = n.found (subst T (sym e) tt) tt in
          let same : noting true s t i x ≡ x = by e refl in
          (same ∙ f.0, subst (λ (y : ℕ). y < k) (sym same) f.1)
      go false e p =
          let same : noting true s t i x ≡ least_into t i = by e (true_of (at s (suc i)) p) in
          let near = answer_near s t i (omega arith) (enters_is s i more (λ q. subst T e q) p) in
          (same ∙ sym near, subst (λ (y : ℕ). y < k) (sym same) (answer_lt s t l (not_out (mem B s) press.0) press.1 i p))

  -- when the set is made: the answer, where there is one
  module _ {o : Bool} {s t i x : ℕ} (is : o ≡ open_move G B s t) (done : set_after k G M B i ≡ forced k G M B) (n : Noted o s t i x) where
    in-set : T (mem (forced k G M B) s) → T (mem (set_after k G M B i) s)
    in-set = subst (λ (A : List Bool). T (mem A s)) (sym done)

    pub made_found : T (answerable k G M B s t) → (x ≡ answer_to k G M B s t) × (x < k)
    made_found p =
        let w = and_out (mem (forced k G M B) s) (open_move G B s t) p in n.found (in-set w.0) (subst T (sym is) w.1)

    pub made_none : answerable k G M B s t ≡ false → x ≡ k
    made_none e = go o refl
      where
        go : (b : Bool) → o ≡ b → x ≡ k
        go false f = n.shut f
        go true f = n.not_yet (λ p. subst T e (and_in (mem (forced k G M B) s) (open_move G B s t)
            (subst (λ (A : List Bool). T (mem A s)) done p) (subst T (sym f ∙ is) tt)))
